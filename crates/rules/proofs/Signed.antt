-- Two's complement, over the width.
-- Assumes nothing.
use Prim.Native.Nat.{ℕ, suc, ◌+◌, ◌-◌, ◌*◌, ◌/◌, ◌^◌, ◌≤◌, ◌<◌}
use mathlib.Core.Path.{◌≡◌, refl, sym, ap}
use mathlib.Core.Bool.{Bool, true, false}
use native.Mathlib.Omega.{arith}
use native.Mathlib.Numerals.{add-one}
use borrow.Author.Tests.{lt-ltb, le-ltb, leb-true, leb-false}
use lib.Dec.{leb}
use lib.IntN.{ℤ, pos, negsuc, nat_abs, pos-ne-negsuc}
use Rattle.rules.specs.Choice.{pick}
use Rattle.rules.specs.Query.{signed}

module _ (w x top : ℕ) (e : top + 1 ≡ 256 ^ w) where
  -- the lower half is as it is
  pub signed_low : x ≤ top / 2 → signed w x ≡ pos x
  unfolding signed pick
  signed_low l = rw (lt-ltb (2 * x) (256 ^ w) (omega arith))

  -- the upper half is below nothing, by what it lacks to the largest and one more
  pub signed_high : top / 2 < x → x ≤ top → signed w x ≡ negsuc (top - x)
  unfolding signed pick
  signed_high h l =
      let z : suc top - suc x ≡ top - x = omega arith in
      rw (le-ltb (2 * x) (256 ^ w) (omega arith), ← e, add-one, lt-ltb x (suc top) (omega arith), z)

-- either half: a number is what it is, or negative by what it lacks to the power, and one byte string has one number
module _ (w x : ℕ) (l : x < 256 ^ w) where
  top_is : (256 ^ w - 1) + 1 ≡ 256 ^ w
  top_is = omega (arith, l)

  pub signed_is : (P : ℤ → Type 0) → (2 * x < 256 ^ w → P (pos x)) → (256 ^ w ≤ 2 * x → P (negsuc (256 ^ w - 1 - x))) → P (signed w x)
  signed_is P low high = by (leb x ((256 ^ w - 1) / 2)) refl
    where
      by : (b : Bool) → leb x ((256 ^ w - 1) / 2) ≡ b → P (signed w x)
      by true e = let k = leb-true x ((256 ^ w - 1) / 2) e in rw (signed_low w x (256 ^ w - 1) top_is k) (low (omega (arith, k, l)))
      by false e = let k = leb-false x ((256 ^ w - 1) / 2) e in rw (signed_high w x (256 ^ w - 1) top_is k (omega (arith, l))) (high (omega (arith, k, l)))

pub signed_determines : (w x y : ℕ) → x < 256 ^ w → y < 256 ^ w → signed w x ≡ signed w y → x ≡ y
signed_determines w x y l m =
    signed_is w x l (λ (a : ℤ). a ≡ signed w y → x ≡ y)
    (λ h. signed_is w y m (λ (b : ℤ). pos x ≡ b → x ≡ y) (λ k e. ap nat_abs e) (λ k e. absurd (pos-ne-negsuc _ _ e)))
    (λ h. signed_is w y m (λ (b : ℤ). negsuc (256 ^ w - 1 - x) ≡ b → x ≡ y) (λ k e. absurd (pos-ne-negsuc _ _ (sym e))) (λ k e. let n = ap nat_abs e in omega (arith, n, l, m)))
