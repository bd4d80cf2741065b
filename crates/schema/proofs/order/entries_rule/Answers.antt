use Rattle.std.proofs.lemmas.Result.{err_from_is_err_and}
use mathlib.Core.Path.{sym, ◌∙◌}
use Rattle.rules.proofs.Checks.{in_order_end}
use Rattle.block.proofs.Turns.{turn_on, turn_off}
use Rattle.schema.proofs.Given.{entry_rule_lem}
use Rattle.schema.proofs.order.entries_rule.Goals as goal

pub returns-in_err-block_rule : goal.returns-in_err-block_rule
returns-in_err-block_rule c =
    let p = err_from_is_err_and c.from_residual.result c.from_residual.ensures.1 in
    rw (p.1, p.2, ← c.in_err-block_rule.was) (turn_off _ _ _ _ c.loop-j-test.true _ (entry_rule_lem _ _ _ _ c.entry_at-e.ensures _ c.block_rule.ensures) c.in_err-block_rule.was ∙ c.loop-j.invariant)

pub loop-j-preserved : goal.loop-j-preserved
loop-j-preserved c = turn_on _ _ _ _ c.loop-j-test.true _ (entry_rule_lem _ _ _ _ c.entry_at-e.ensures _ c.block_rule.ensures) c.in_ok-block_rule.was ∙ c.loop-j.invariant

pub returns : goal.returns
returns c = sym (in_order_end _ _ _ _ c.loop-j-test.false) ∙ c.loop-j.invariant
