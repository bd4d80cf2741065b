use Rattle.std.proofs.lemmas.Result.{err_from_is_err_and}
use mathlib.Core.Path.{sym, ◌∙◌}
use Rattle.rules.proofs.Checks.{in_order_end}
use Rattle.block.proofs.Turns.{turn_on, turn_off}
use Rattle.block.proofs.Level.{rule_at_lem}
use Rattle.block.proofs.validation.level_rule.Goals as goal

pub returns-in_err-node_rule : goal.returns-in_err-node_rule
returns-in_err-node_rule c =
    let p = err_from_is_err_and c.from_residual.result c.from_residual.ensures.1 in
    rw (p.1, p.2, ← c.in_err-node_rule.was) (turn_off _ 0 _ _ c.loop-i-test.true _ (rule_at_lem _ _ _ _ _ c.node_at.ensures c.node_rule.ensures) c.in_err-node_rule.was ∙ c.loop-i.invariant)

pub loop-i-preserved : goal.loop-i-preserved
loop-i-preserved c = turn_on _ 0 _ _ c.loop-i-test.true _ (rule_at_lem _ _ _ _ _ c.node_at.ensures c.node_rule.ensures) c.in_ok-node_rule.was ∙ c.loop-i.invariant

pub returns : goal.returns
returns c = sym (in_order_end _ _ _ _ c.loop-i-test.false) ∙ c.loop-i.invariant
