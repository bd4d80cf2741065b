-- Parts of a slice, read and written as a whole: what `&s[a..b]`, `copy_from_slice` and `copy_within` say, in the words of the rules.
-- Assumes nothing.
use Prim.Native.Nat.{ℕ, zero, suc, ◌+◌, ◌-◌, ◌≤◌, ◌<◌}
use mathlib.Core.Path.{◌≡◌, refl, sym, ap, ◌∙◌}
use mathlib.Core.List.{List, [], ◌∷◌, ◌++◌, append_assoc}
use native.Mathlib.Omega.{arith}
use native.Mathlib.Numerals.{add-one}
use borrow.Rule.Slice.PartMut.{put_mid}
use lib.ListN.{length, get_or, take, drop}
use lib.Seq.{drop-cons, paste}
use Rattle.std.specs.List.{between}
use Rattle.std.proofs.lemmas.List.{drop-drop}
use Rattle.rules.specs.Bytes.{part, over}
use Rattle.rules.proofs.Over.{over-is}
use Rattle.rules.proofs.Stands.{length_part}

-- a part that is read
pub part-take : (s : List ℕ) (at n : ℕ) → at + n ≤ length s → take n (drop at s) ≡ part s at n
unfolding part
part-take s at zero h = refl
part-take s at (suc n) h =
    let front = drop-cons s at 0 (omega arith) in
    let next : suc at ≡ at + 1 = omega arith in
    rw (front, next) (ap (λ (xs : List ℕ). get_or s at 0 ∷ xs) (part-take s (at + 1) n (omega arith)))

pub part-between : (s : List ℕ) (at end n : ℕ) → end ≡ at + n → end ≤ length s → between at end s ≡ part s at n
part-between s at end n e h =
    let size : end - at ≡ n = omega arith in
    rw size (part-take s at n (omega arith))

-- a part that is written: n is its length, and xs is what it holds now
pub over-mid : (s xs : List ℕ) (at n : ℕ) → at + n ≤ length s → length xs ≡ n → put_mid at n s xs ≡ over s at xs
over-mid s xs at n h e = rw (← e, drop-drop) (sym (over-is xs s at (omega arith)))

-- the same of n bytes that stand in the slice already
pub over-paste : (s : List ℕ) (from to n : ℕ) → from + n ≤ length s → to + n ≤ length s → paste s to (drop from s) n ≡ over s to (part s from n)
over-paste s from to n h l =
    let size = length_part s from n in
    rw (part-take s from n h, append_assoc) (rw size at (sym (over-is (part s from n) s to (omega arith))))
