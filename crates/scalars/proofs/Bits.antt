-- What a scalar is in numbers, case by case; and a double has bits where it is no NaN.
-- Assumes nothing.
use Prim.Native.Nat.{ℕ}
use mathlib.Core.Path.{◌≡◌, refl}
use mathlib.Core.Bool.{Bool, true, false, not}
use lib.Dec.{T}
use lib.IntN.{ℤ}
use lib.Ieee.{Float, is_nan}
use mir.Syntax.{w64}
use mir.Val.{SFits, to_z, of_z, bool_byte}
use mir.Facts.{to_z-of_z}
use Rattle.rules.specs.Choice.{pick}
use Rattle.scalars.specs.Numbers.{signed_bits, one_number, scalar_numbers, HasBits}
use Rattle.rules.specs.declared.host_answer.Scalar.{Scalar}
use Rattle.rules.specs.declared.host_answer.Scalar.TheVariants.{Truth, Signed, Double}
use Rattle.scalars.specs.declared.ScalarNumbers.{ScalarNumbers}

pub has_bits : (s : Scalar) (x : Float) → HasBits s → s ≡ Double x → T (not (is_nan x))
unfolding HasBits
has_bits s x h e = let n : is_nan x ≡ _ = rw e at h in rw n tt

truth : (b : Bool) → bool_byte b ≡ pick b 1 0
unfolding pick
truth true = refl
truth false = refl

pub truth_told : (r : ScalarNumbers) (s : Scalar) (b : Bool) → s ≡ Truth b → r ≡ one_number 1 (bool_byte b) → r ≡ scalar_numbers s
unfolding scalar_numbers
truth_told r s b e n = rw (e, ← truth b) n

pub signed_told : (r : ScalarNumbers) (s : Scalar) (z : ℤ) (n : ℕ) → SFits w64 z → s ≡ Signed z → n ≡ signed_bits (to_z w64 (of_z w64 z)) → r ≡ one_number 2 n → r ≡ scalar_numbers s
unfolding scalar_numbers
signed_told r s z n f e b m = let t : n ≡ signed_bits z = rw (to_z-of_z {w = w64} {z = z} f) at b in rw (e, ← t) m
