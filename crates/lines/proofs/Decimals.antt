-- Decimal numbers: those of any base, at 10.
-- Assumes nothing.
use Prim.Native.Nat.{ℕ, ◌+◌, ◌/◌, ◌%◌, ◌≤◌, ◌<◌}
use mathlib.Core.Path.{◌≡◌, ap, ◌∙◌}
use mathlib.Core.List.{[], ◌∷◌, ◌++◌}
use native.Mathlib.Omega.{arith}
use lib.ListN.{length}
use Rattle.rules.specs.Lines.{decimal}
use Rattle.text_laws.proofs.Numerals as numerals

pub decimal_small : (n : ℕ) → n < 10 → decimal n ≡ (48 + n) ∷ []
unfolding decimal
decimal_small n h = numerals.numeral_small 10 (omega arith) n h ∙ ap (λ (d : ℕ). d ∷ []) (numerals.digit_low n h)

pub decimal_more : (n : ℕ) → 10 ≤ n → decimal n ≡ decimal (n / 10) ++ ((48 + n % 10) ∷ [])
unfolding decimal
decimal_more n h = numerals.numeral_more 10 (omega arith) n h ∙ ap (λ (d : ℕ). decimal (n / 10) ++ (d ∷ [])) (numerals.digit_low (n % 10) (omega arith))

pub small_length : (n : ℕ) → n < 10 → length (decimal n) ≡ 1
unfolding decimal
small_length = numerals.small_length 10 (omega arith)

pub more_length : (n : ℕ) → 10 ≤ n → length (decimal n) ≡ length (decimal (n / 10)) + 1
unfolding decimal
more_length = numerals.more_length 10 (omega arith)

-- a number of 64 bits has at most 20 digits
pub decimal_short : (n : ℕ) → n < 18446744073709551616 → length (decimal n) ≤ 20
unfolding decimal
decimal_short n h = numerals.few_digits 10 (omega arith) 19 n (omega (arith, h))
