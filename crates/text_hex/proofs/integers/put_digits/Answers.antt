-- What is left to put, over what is put, is the whole.
-- Assumes nothing.
use native.Mathlib.Omega.{arith}
use Rattle.text_hex.proofs.Digits.{digit_small}
use Rattle.text_hex.proofs.Turns.{digits_first, digits_turn, digits_end}
use Rattle.text_hex.proofs.integers.put_digits.Goals as goal

pub loop-i-init : goal.loop-i-init
loop-i-init c = digits_first _ _ _ _ _ (λ j. omega (arith, c.type_inv.number j)) c.requires.0 _ c.digit_count-count.ensures

pub hex_digit-requires : goal.hex_digit-requires
hex_digit-requires c = rw c.digit_at.ensures (digit_small _ (λ j. omega (arith, c.type_inv.number j)) _ _)

pub loop-i-preserved : goal.loop-i-preserved
loop-i-preserved c = digits_turn _ _ _ _ _ _ _ _ c.loop-i.invariant (λ j. omega (arith, c.type_inv.number j)) c.loop-i-test.true _ c.digit_at.ensures _ c.hex_digit.ensures

pub returns : goal.returns
returns c = digits_end _ _ _ _ _ _ _ _ c.loop-i.invariant c.loop-i-test.false
