-- What the value query says, in numbers: which case it is, its number, and a payload's length.
-- Assumes nothing: these are definitions.
use Rattle.rules.specs.declared.refusal.Refusal.{Refusal}
use Rattle.std.specs.Prelude.{ℕ, suc, ◌-◌, ◌^◌, ◌≡◌, false, ℤ, pos, negsuc, Result, Ok, Err}
use Rattle.std.specs.Float.{binary64}
use Rattle.std.specs.Float.Ieee.{is_nan, to_bits}
use Rattle.rules.specs.Choice.{pick}
use Rattle.rules.specs.declared.host_answer.Scalar.{Scalar}
use Rattle.rules.specs.declared.host_answer.Scalar.TheVariants.{Nothing, Truth, Signed, Unsigned, Double, NotANumber, Payload, Children}
use Rattle.scalars.specs.declared.ScalarNumbers.{ScalarNumbers}

-- the 64 bits of a number, in two's complement
unfoldable pub signed_bits : ℤ → ℕ
signed_bits (pos n) = n
signed_bits (negsuc n) = 2 ^ 64 - suc n

abbrev pub one_number : ℕ → ℕ → ScalarNumbers
one_number which n = record { which = which; number = n; length = 0 }

-- a boolean is 0 or 1; a signed number and a double are told by their bits, and a NaN as the double that it is to a host
unfoldable pub scalar_numbers : Scalar → ScalarNumbers
scalar_numbers Nothing = one_number 0 0
scalar_numbers (Truth b) = one_number 1 (pick b 1 0)
scalar_numbers (Signed z) = one_number 2 (signed_bits z)
scalar_numbers (Unsigned n) = one_number 3 n
scalar_numbers (Double x) = one_number 4 (to_bits binary64 x)
scalar_numbers (NotANumber bits) = one_number 4 bits
scalar_numbers (Payload start n) = record { which = 5; number = start; length = n }
scalar_numbers (Children n) = one_number 6 n

-- the language's one NaN has no bits of its own
unfoldable pub HasBits : Scalar → Type 0
HasBits Nothing = Unit
HasBits (Truth b) = Unit
HasBits (Signed z) = Unit
HasBits (Unsigned n) = Unit
HasBits (Double x) = is_nan x ≡ false
HasBits (NotANumber bits) = Unit
HasBits (Payload start n) = Unit
HasBits (Children n) = Unit

unfoldable pub SaysBits : Result Scalar Refusal → Type 0
SaysBits (Ok s) = HasBits s
SaysBits (Err r) = Unit
