-- What the query says has bits, and a double's number is the bits that stand in its record, a NaN's too.
-- Assumes nothing.
use Rattle.rules.specs.declared.refusal.Refusal.{Refusal}
use Rattle.std.proofs.Common.{Result}
use Prim.Native.Nat.{ℕ, suc, ◌-◌, ◌*◌, ◌^◌, ◌<◌}
use mathlib.Core.Path.{◌≡◌, refl, sym, ◌∙◌, ap}
use mathlib.Core.Bool.{false, not}
use mathlib.Core.List.{List}
use native.Mathlib.Omega.{arith}
use borrow.Author.Tests.{lt-ltb, le-ltb}
use lib.Dec.{T}
use lib.IntN.{ℤ, pos, negsuc}
use mir.Syntax.{w64}
use mir.Val.{SFits}
use lib.Ieee.{binary64, nan_bits, is_nan, of_bits}
use lib.Ieee.Bits.{nan_bits_is, to_bits-of_bits}
use Rattle.rules.specs.Choice.{pick}
use Rattle.rules.specs.Wire.{Form, empty, truth, fixed, raw, sized, variant_form, repeated_form, tuple_form, unknown}
use Rattle.rules.specs.Query.{signed, double_said, number_said, scalar_said, record_said, record_seen, queried_of, query_rule}
use Rattle.rules.specs.declared.table_record.ValueRecord.{ValueRecord}
use Rattle.rules.proofs.Tests.{either}
use Rattle.scalars.specs.Numbers.{signed_bits, one_number, scalar_numbers, HasBits, SaysBits}

no_nan : (bits : ℕ) → nan_bits binary64 bits ≡ false → is_nan (of_bits binary64 bits) ≡ false
no_nan bits e = sym (nan_bits_is binary64 bits) ∙ e

double_has : (bits : ℕ) → HasBits (double_said bits)
unfolding double_said HasBits
double_has bits = either HasBits _ (λ e. tt) (λ e. no_nan bits e)

scalar_has : (kind : ℕ) (f : Form) (size content : ℕ) → HasBits (scalar_said kind f size content)
unfolding scalar_said number_said HasBits
scalar_has kind empty size content = tt
scalar_has kind truth size content = tt
scalar_has kind (fixed w) size content = either HasBits _ (λ e. tt) (λ e. either HasBits _ (λ g. tt) (λ g. double_has content))
scalar_has kind (raw w) size content = tt
scalar_has kind sized size content = tt
scalar_has kind (variant_form w) size content = tt
scalar_has kind (repeated_form w) size content = tt
scalar_has kind tuple_form size content = tt
scalar_has kind unknown size content = tt

record_has : (r : ValueRecord) → HasBits (record_said r)
unfolding record_said HasBits
record_has r = either HasBits _ (λ e. scalar_has _ _ _ _) (λ e. tt)

unfoldable SeenBits : Result ValueRecord Refusal → Type 0
SeenBits s = SaysBits (queried_of s)

pub query_says_bits : (table : List ℕ) (i : ℕ) → SaysBits (query_rule table i)
unfolding query_rule record_seen queried_of SaysBits SeenBits
query_says_bits table i = either SeenBits _ (λ t. either SeenBits _ (λ g. record_has _) (λ g. tt)) (λ t. tt)

-- the number of a double is its bits
pub double_told : (bits : ℕ) → bits < 2 ^ 64 → scalar_numbers (double_said bits) ≡ one_number 4 bits
unfolding double_said scalar_numbers
double_told bits l =
    either (λ s. scalar_numbers s ≡ one_number 4 bits) _ (λ e. refl)
    (λ e. let n : T (not (is_nan (of_bits binary64 bits))) = rw (no_nan bits e) tt in ap (one_number 4) (to_bits-of_bits binary64 bits l n))

-- the number of a signed one is its 64 bits: read as two's complement they give it back
pub signed_bits_back : (z : ℤ) → SFits w64 z → signed 8 (signed_bits z) ≡ z
unfolding signed signed_bits pick
signed_bits_back (pos n) f = let l : n < 2 ^ 63 = f.sfits in rw (lt-ltb (2 * n) (256 ^ 8) (omega (arith, l)))
signed_bits_back (negsuc n) f =
    let l : n < 2 ^ 63 = f.sfits in
    let e : 2 ^ 64 - suc (2 ^ 64 - suc n) ≡ n = omega (arith, l) in
    rw (le-ltb (2 * (2 ^ 64 - suc n)) (256 ^ 8) (omega (arith, l)), lt-ltb (2 ^ 64 - suc n) (2 ^ 64) (omega (arith, l)), e)
