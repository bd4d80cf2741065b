use Rattle.std.proofs.lemmas.Result.{err_from_is_err_and}
use mathlib.Core.Path.{sym, ◌∙◌}
use Rattle.encode.proofs.Laws.{out_of_bounds, schema_refused, within, flat_row, placeable, encoded}
use Rattle.encode.proofs.encode.Goals as goal

-- Each return by the tests on its way.
-- Assumes nothing.

pub returns-then-not-writing_within_bounds : goal.returns-then-not-writing_within_bounds
returns-then-not-writing_within_bounds c = out_of_bounds _ _ _ _ _ _ _ _ _ (sym c.writing_within_bounds.ensures ∙ c.if-not-writing_within_bounds.true)

pub block_of-requires : goal.block_of-requires
block_of-requires c = within _ _ _ _ _ _ _ _ _ (sym c.writing_within_bounds.ensures ∙ c.if-not-writing_within_bounds.false) _ c.encoder_rules_at_once.ensures c.in_ok-encoder_rules_at_once.was

pub encode_by-requires : goal.encode_by-requires
encode_by-requires c = rw c.block_of.ensures (flat_row _ _ _ _ _ _ _ _ _ (sym c.writing_within_bounds.ensures ∙ c.if-not-writing_within_bounds.false) _ c.encoder_rules_at_once.ensures c.in_ok-encoder_rules_at_once.was, placeable _ _ _ _ _ _ _ _ _ (sym c.writing_within_bounds.ensures ∙ c.if-not-writing_within_bounds.false) _ c.encoder_rules_at_once.ensures c.in_ok-encoder_rules_at_once.was)

pub returns-in_err-encoder_rules_at_once : goal.returns-in_err-encoder_rules_at_once
returns-in_err-encoder_rules_at_once c =
    let p = err_from_is_err_and c.from_residual.result c.from_residual.ensures.1 in
    rw (p.1, p.2) (schema_refused _ _ _ _ _ _ _ _ _ (sym c.writing_within_bounds.ensures ∙ c.if-not-writing_within_bounds.false) _ c.encoder_rules_at_once.ensures _ c.in_err-encoder_rules_at_once.was)

pub returns : goal.returns
returns c = encoded _ _ _ _ _ _ _ _ _ (sym c.writing_within_bounds.ensures ∙ c.if-not-writing_within_bounds.false) _ c.encoder_rules_at_once.ensures c.in_ok-encoder_rules_at_once.was _ (rw c.block_of.ensures at c.encode_by.ensures)
