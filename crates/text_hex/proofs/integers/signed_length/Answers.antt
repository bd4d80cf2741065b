-- By the sign.
-- Assumes nothing.
use mathlib.Core.Path.{ap, ◌∙◌}
use native.Mathlib.Omega.{arith}
use lib.ListN.{length}
use Rattle.text_hex.proofs.Texts.{negative_length, not_negative, number_few}
use Rattle.text_hex.proofs.integers.signed_length.Goals as goal

pub overflow_add-result : goal.overflow_add-result
overflow_add-result c = let e = negative_length _ (λ j. omega (arith, c.type_inv.number j)) _ c.is_negative.ensures c.if-is_negative.true c.requires.1 _ c.negated-magnitude.ensures in
    let f = number_few _ (λ j. omega (arith, c.type_inv.number j)) c.requires.0 in
    record { fits = omega (arith, c.digit_count.ensures, e, f, c.requires) }

pub returns-then-is_negative : goal.returns-then-is_negative
returns-then-is_negative c = rw c.digit_count.ensures (negative_length _ (λ j. omega (arith, c.type_inv.number j)) _ c.is_negative.ensures c.if-is_negative.true c.requires.1 _ c.negated-magnitude.ensures)

pub returns : goal.returns
returns c = c.digit_count-2.ensures ∙ ap length (not_negative _ (λ j. omega (arith, c.type_inv.number j)) _ c.is_negative.ensures c.if-is_negative.false)
