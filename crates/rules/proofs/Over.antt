-- Laws of writing over a list: they need no bounds.
-- Assumes nothing.
use Prim.Native.Nat.{ℕ, suc, ◌+◌, ◌≤◌, ◌<◌}
use mathlib.Core.Path.{◌≡◌, refl, sym, ap, ◌∙◌}
use mathlib.Core.List.{List, [], ◌∷◌, ◌++◌, append_assoc}
use native.Mathlib.Nat.{add-zero}
use native.Mathlib.Omega.{arith}
use native.Mathlib.Numerals.{add-one}
use lib.ListN.{length, set, take, drop, length-set, take-append-drop}
use lib.Seq.{drop-set-lt, take-suc-set, set_comm}
use Rattle.rules.specs.Bytes.{over}

-- the list keeps its length
pub length_over : (xs s : List ℕ) (at : ℕ) → length (over s at xs) ≡ length s
unfolding over
length_over [] s at = refl
length_over (x ∷ xs) s at = length_over xs (set s at x) (at + 1) ∙ length-set s at x

-- nothing written
pub over_none : (s : List ℕ) (at : ℕ) → over s at [] ≡ s
unfolding over
over_none s at = refl

-- two runs that meet are one
pub over-more : (xs ys s : List ℕ) (at : ℕ) → over (over s at xs) (at + length xs) ys ≡ over s at (xs ++ ys)
unfolding over
over-more [] ys s at = rw add-zero
over-more (x ∷ xs) ys s at =
    let e : at + suc (length xs) ≡ (at + 1) + length xs = omega arith in
    rw e (over-more xs ys (set s at x) (at + 1))

-- the same, where the second run's position is known by an equation
pub over-at : (xs ys s : List ℕ) (at next : ℕ) → next ≡ at + length xs → over (over s at xs) next ys ≡ over s at (xs ++ ys)
over-at xs ys s at next e = rw e (over-more xs ys s at)

-- where there is room: what stood before, what is written, and what stood after
pub over-is : (xs s : List ℕ) (at : ℕ) → at + length xs ≤ length s → over s at xs ≡ take at s ++ (xs ++ drop (at + length xs) s)
unfolding over
over-is [] s at h = rw add-zero (sym (take-append-drop at s))
over-is (x ∷ xs) s at h =
    let l : at < length s = omega arith in
    let m : (at + 1) + length xs ≤ length (set s at x) = rw (length-set s at x) (omega arith) in
    let e : (at + 1) + length xs ≡ at + suc (length xs) = omega arith in
    over-is xs (set s at x) (at + 1) m
    ∙ rw (e, drop-set-lt (at + suc (length xs)) s at x (omega arith), add-one at, take-suc-set s at x l, append_assoc)

-- a store before what is written may as well be made first
pub set-over : (xs s : List ℕ) (at i b : ℕ) → i < at → set (over s at xs) i b ≡ over (set s i b) at xs
unfolding over
set-over [] s at i b h = refl
set-over (x ∷ xs) s at i b h =
    set-over xs (set s at x) (at + 1) i b (omega arith)
    ∙ ap (λ (l : List ℕ). over l (at + 1) xs) (set_comm s at i x b (λ e. omega arith))

-- a front may as well be written last
pub over_front : (xs ys s : List ℕ) (at : ℕ) → over (over s (at + length xs) ys) at xs ≡ over s at (xs ++ ys)
unfolding over
over_front [] ys s at = rw add-zero
over_front (x ∷ xs) ys s at =
    let e : at + suc (length xs) ≡ (at + 1) + length xs = omega arith in
    rw e (ap (λ (l : List ℕ). over l (at + 1) xs) (set-over ys s ((at + 1) + length xs) at x (omega arith)) ∙ over_front xs ys (set s at x) (at + 1))
