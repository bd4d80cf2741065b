-- Laws of a copy, turn by turn.
-- Assumes nothing.
use Prim.Native.Nat.{ℕ, zero, suc, ◌+◌, ◌-◌, ◌≤◌, ◌<◌, min}
use mathlib.Core.Path.{◌≡◌, refl, sym, ap, ◌∙◌}
use mathlib.Core.List.{List, [], ◌∷◌, ◌++◌}
use native.Mathlib.Omega.{arith}
use native.Mathlib.Nat.{add-zero, sub-zero}
use lib.ListN.{length, get_or, set}
use lib.Seq.{set-set}
use Rattle.rules.specs.Bytes.{part, over}
use Rattle.rules.proofs.Over.{over-at, set-over}
use Rattle.rules.proofs.Stands.{length_part}
use Rattle.wire.proofs.Parts.{part_step, part_end}

-- the first of what is written
over_first : (s : List ℕ) (at x : ℕ) (xs : List ℕ) → over s at (x ∷ xs) ≡ over (set s at x) (at + 1) xs
unfolding over
over_first s at x xs = refl

-- what is written over by as much or more might as well not have been written
over-again : (xs ys s : List ℕ) (at : ℕ) → length xs ≤ length ys → over (over s at xs) at ys ≡ over s at ys
unfolding over
over-again [] ys s at h = refl
over-again (x ∷ xs) [] s at h = absurd (omega arith)
over-again (x ∷ xs) (y ∷ ys) s at h =
    ap (λ (l : List ℕ). over l (at + 1) ys) (set-over xs (set s at x) (at + 1) at y (omega arith) ∙ ap (λ (l : List ℕ). over l (at + 1) xs) (set-set s at x y))
    ∙ over-again xs ys (set s at y) (at + 1) (omega arith)

-- bytes in two parts
part_both : (s : List ℕ) (at a b : ℕ) → part s at (a + b) ≡ part s at a ++ part s (at + a) b
unfolding part
part_both s at zero b = let e : 0 + b ≡ b = omega arith in rw (e, add-zero)
part_both s at (suc a) b =
    let e : suc a + b ≡ suc (a + b) = omega arith in
    let f : at + suc a ≡ (at + 1) + a = omega arith in
    rw (e, f, part_both s (at + 1) a b)

-- ---- a copy by words: w bytes from position j on, over the first k, which reach that far
pub copy_word : (src dst : List ℕ) (from at j k w : ℕ) → j ≤ k → k ≤ j + w → over (over dst at (part src from k)) (at + j) (part src (from + j) w) ≡ over dst at (part src from (j + w))
copy_word src dst from at j k w h l =
    let a = part src from j in
    let b = part src (from + j) (k - j) in
    let c = part src (from + j) w in
    let m : k ≡ j + (k - j) = omega arith in
    let e : at + j ≡ at + length a = rw length_part in
    let f : length b ≤ length c = rw (length_part, length_part) (omega arith) in
    ap (λ (l : List ℕ). over (over dst at l) (at + j) c) (ap (part src from) m ∙ part_both src from j (k - j))
    ∙ ap (λ (l : List ℕ). over l (at + j) c) (sym (over-at a b dst at (at + j) e))
    ∙ over-again b c (over dst at a) (at + j) f
    ∙ over-at a c dst at (at + j) e
    ∙ ap (over dst at) (sym (part_both src from j w))

-- the same at a position that is kept from going past the last one
copy_near : (src dst : List ℕ) (from at n last w k : ℕ) → last + w ≡ n → over (over dst at (part src from (min k n))) (at + min k last) (part src (from + min k last) w) ≡ over dst at (part src from (min (k + w) n))
copy_near src dst from at n last w k e =
    let j : min k last + w ≡ min (k + w) n = omega arith in
    rw j at (copy_word src dst from at (min k last) (min k n) w (omega arith) (omega arith))

pub near_step : (src dst : List ℕ) (from at n last w k : ℕ) → last + w ≡ n → (p p' : List ℕ) → p ≡ over dst at (part src from (min k n)) → p' ≡ over p (at + min k last) (part src (from + min k last) w) → (k' : ℕ) → k' ≡ k + w → p' ≡ over dst at (part src from (min k' n))
near_step src dst from at n last w k e p p' a b k' c = b ∙ rw (a, c) (copy_near src dst from at n last w k e)

-- ---- a copy byte by byte: what is left to write, over what is written, is the whole
module _ (src dst : List ℕ) (from at n : ℕ) where
  pub copy_none : over dst (at + 0) (part src (from + 0) (n - 0)) ≡ over dst at (part src from n)
  copy_none = simp (add-zero, sub-zero)

  pub copy_turn : (k : ℕ) → k < n → over dst (at + k) (part src (from + k) (n - k)) ≡ over (set dst (at + k) (get_or src (from + k) 0)) (at + (k + 1)) (part src (from + (k + 1)) (n - (k + 1)))
  copy_turn k h =
      let e : (at + k) + 1 ≡ at + (k + 1) = omega arith in
      rw (part_step src from n k h, over_first, e)

  pub copy_end : (k : ℕ) → n ≤ k → over dst (at + k) (part src (from + k) (n - k)) ≡ dst
  unfolding over
  copy_end k h = rw (part_end src (from + k) n k h)
