-- A signed number of 64 bits, by its sign.
-- Assumes nothing.
use Prim.Native.Nat.{ℕ, suc, ◌-◌, ◌^◌, ◌<◌}
use mathlib.Core.Path.{◌≡◌, subst}
use mathlib.Core.Bool.{true, false}
use native.Mathlib.Omega.{arith}
use lib.IntN.{ℤ, pos, negsuc, nat_abs, ◌-ℤ◌}
use lib.Dec.{T}
use lib.Signed.{lt_z}
use mir.Syntax.{w64}
use mir.Val.{SFits, to_z, of_z}
use mir.Facts.{to_z-of_z, to_z_pos}
use borrow.Author.Tests.{le-ltb, ltb-true}
use Rattle.scalars.specs.Numbers.{signed_bits}

-- below nothing: what -1 has more than it
pub record Below (x : ℤ) : Type 0 where
  pub by : ℕ
  pub fits : by < 2 ^ 63
  pub half : SFits w64 (negsuc 0 -ℤ to_z w64 (of_z w64 x))
  pub more : to_z w64 (of_z w64 (negsuc 0 -ℤ to_z w64 (of_z w64 x))) ≡ pos by
  pub told : 18446744073709551615 - nat_abs (to_z w64 (of_z w64 (negsuc 0 -ℤ to_z w64 (of_z w64 x)))) ≡ signed_bits x

-- nothing or above it
pub record Above (x : ℤ) : Type 0 where
  pub by : ℕ
  pub fits : by < 2 ^ 63
  pub more : to_z w64 (of_z w64 x) ≡ pos by
  pub told : nat_abs (to_z w64 (of_z w64 x)) ≡ signed_bits x

minus : (n : ℕ) → negsuc 0 -ℤ negsuc n ≡ pos n
minus n =
    let z : suc n - 1 ≡ n = omega arith in
    rw (le-ltb (suc n) 1 (omega arith), z)

pub below : (x : ℤ) → SFits w64 x → lt_z (to_z w64 (of_z w64 x)) (pos 0) ≡ true → Below x
unfolding signed_bits
below (pos n) f e =
    let h : n < 0 = ltb-true n 0 (rw (to_z-of_z {w = w64} {z = pos n} f) at e) in
    absurd (omega (arith, h))
below (negsuc n) f e =
    let t : to_z w64 (of_z w64 (negsuc n)) ≡ negsuc n = to_z-of_z {w = w64} {z = negsuc n} f in
    let m : to_z w64 (of_z w64 (negsuc 0 -ℤ to_z w64 (of_z w64 (negsuc n)))) ≡ pos n = rw (t, minus n) (to_z_pos w64 {n = n} f.sfits) in
    let l : n < 2 ^ 63 = f.sfits in
    record { by = n; fits = l; half = rw (t, minus n) (record { sfits = l }); more = m; told = rw m (omega (arith, l)) }

pub above : (x : ℤ) → SFits w64 x → lt_z (to_z w64 (of_z w64 x)) (pos 0) ≡ false → Above x
unfolding signed_bits
above (pos n) f e = let t : to_z w64 (of_z w64 (pos n)) ≡ pos n = to_z-of_z {w = w64} {z = pos n} f in record { by = n; fits = f.sfits; more = t; told = rw t }
above (negsuc n) f e = absurd (subst T (rw (to_z-of_z {w = w64} {z = negsuc n} f) at e) tt)
