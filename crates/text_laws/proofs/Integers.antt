-- Whole numbers as text: the text fixes the number, and the number its bytes.
-- Assumes nothing.
use Prim.Native.Nat.{ℕ, suc, ◌*◌, ◌^◌, ◌≤◌, ◌<◌}
use mathlib.Core.Path.{◌≡◌, refl, sym, ap, ◌∙◌}
use mathlib.Core.List.{List}
use mathlib.Core.Logic.{◌↔◌}
use native.Mathlib.Omega.{arith}
use lib.IntN.{ℤ, pos, negsuc}
use lib.ListN.{length, get_or}
use Rattle.rules.specs.Bytes.{Bytes, le, le_at}
use Rattle.rules.specs.Query.{signed}
use Rattle.rules.specs.Numerals.{integer_in, signed_bytes, integer_text}
use Rattle.rules.proofs.Stands.{le_at_lt, le-le_at, part-whole}
use Rattle.rules.proofs.Signed.{signed_is, signed_determines}
use Rattle.text_laws.proofs.Numerals.{same_tail, numeral_determines, first_least, no_sign}

-- two whole numbers of one text are equal
pub integer_determines : (base : ℕ) → 1 < base → (a b : ℤ) → integer_in base a ≡ integer_in base b → a ≡ b
unfolding integer_in
integer_determines base more (pos m) (pos n) e = ap pos (numeral_determines base more m n e)
integer_determines base more (pos m) (negsuc n) e = absurd (no_sign base more m _ e)
integer_determines base more (negsuc m) (pos n) e = absurd (no_sign base more n _ (sym e))
integer_determines base more (negsuc m) (negsuc n) e = let k = numeral_determines base more (suc m) (suc n) (same_tail e) in ap negsuc (omega (arith, k))

-- bytes are those of their number
bytes_back : (x : List ℕ) → Bytes x → le (length x) (le_at x 0 (length x)) ≡ x
bytes_back x bs = le-le_at x bs 0 (length x) ∙ part-whole x

-- two integers of one width and one text are the same bytes
pub text_determines : (x y : List ℕ) → Bytes x → Bytes y → length x ≡ length y → integer_text x ≡ integer_text y → x ≡ y
unfolding integer_text signed_bytes
text_determines x y bs cs w e =
    let z : signed (length x) (le_at x 0 (length x)) ≡ signed (length y) (le_at y 0 (length y)) = integer_determines 16 (omega arith) _ _ e in
    let l : le_at y 0 (length y) < 256 ^ length x = rw w (le_at_lt y cs 0 (length y)) in
    let n : le_at x 0 (length x) ≡ le_at y 0 (length y) = signed_determines (length x) (le_at x 0 (length x)) (le_at y 0 (length y)) (le_at_lt x bs 0 (length x)) l (z ∙ ap (λ (v : ℕ). signed v (le_at y 0 (length y))) (sym w)) in
    sym (bytes_back x bs) ∙ ap (λ (v : ℕ). le (length x) v) n ∙ ap (λ (v : ℕ). le v (le_at y 0 (length y))) w ∙ bytes_back y cs

-- the text begins with a minus sign just where the highest bit is set
pub minus_sign : (x : List ℕ) → Bytes x → (get_or (integer_text x) 0 0 ≡ 45) ↔ (256 ^ length x ≤ 2 * le_at x 0 (length x))
unfolding integer_text signed_bytes integer_in
minus_sign x bs =
    signed_is (length x) (le_at x 0 (length x)) (le_at_lt x bs 0 (length x)) (λ (z : ℤ). (get_or (integer_in 16 z) 0 0 ≡ 45) ↔ (256 ^ length x ≤ 2 * le_at x 0 (length x)))
    (λ h. ((λ e. let l = first_least 16 (omega arith) (le_at x 0 (length x)) in absurd (omega (arith, e, l))), (λ g. absurd (omega (arith, g, h)))))
    (λ h. ((λ e. h), (λ g. refl)))
