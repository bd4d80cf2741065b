-- By the parity of the digit.
-- Assumes nothing.
use native.Mathlib.Nat.{zero-add}
use borrow.Author.Tests.{eq-eqb, ne_eqb}
use Rattle.rules.specs.Choice.{pick}
use Rattle.text_hex.specs.Digits.{digit_at}
use Rattle.text_hex.proofs.integers.digit_at.Goals as goal

pub returns-then-i-eq0 : goal.returns-then-i-eq0
unfolding digit_at pick
returns-then-i-eq0 c = rw (zero-add, eq-eqb _ _ c.if-i-eq0.true)

pub returns : goal.returns
unfolding digit_at pick
returns c = rw (zero-add, ne_eqb _ _ c.if-i-eq0.false)
