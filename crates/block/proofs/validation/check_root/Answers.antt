use Rattle.std.proofs.lemmas.Result.{err_from_is_err_and}
use native.Mathlib.Omega.{arith}
use mathlib.Core.Path.{sym, ap, ◌∙◌}
use Rattle.rules.specs.Refusals.{◌then◌}
use Rattle.rules.specs.SchemaRules.{table_rule}
use Rattle.rules.specs.declared.table_record.Node.{Node}
use Rattle.rules.proofs.Checks.{in_order_end}
use Rattle.block.proofs.Turns.{turn_on, turn_off}
use Rattle.block.proofs.Parts.{children_inside}
use Rattle.block.proofs.Columns.{child_rule_lem}
use Rattle.block.proofs.validation.check_root.Goals as goal

pub returns-in_err-root_rule : goal.returns-in_err-root_rule
unfolding table_rule ◌then◌
returns-in_err-root_rule c =
    let p = err_from_is_err_and c.from_residual.result c.from_residual.ensures.1 in
    rw (p.1, p.2, ← c.node_at-root.ensures, ← c.root_rule.ensures, c.in_err-root_rule.was)

pub overflow_add-first : goal.overflow_add-first
overflow_add-first c = omega (arith, children_inside _ c.requires.0 0 (omega arith) _ c.node_at-root.ensures, c.requires.2)

pub node_at-n-requires : goal.node_at-n-requires
node_at-n-requires c = omega (arith, children_inside _ c.requires.0 0 (omega arith) _ c.node_at-root.ensures)

pub overflow_add-first-in-loop-k : goal.overflow_add-first-in-loop-k
overflow_add-first-in-loop-k c = omega (arith, children_inside _ c.requires.0 0 (omega arith) _ c.node_at-root.ensures, c.requires.2)

pub overflow_add-base : goal.overflow_add-base
overflow_add-base c = omega (arith, children_inside _ c.requires.0 0 (omega arith) _ c.node_at-root.ensures, c.requires.2)

pub returns-in_err-name_rule : goal.returns-in_err-name_rule
unfolding table_rule ◌then◌
returns-in_err-name_rule c =
    let p = err_from_is_err_and c.from_residual-in_err-name_rule.result c.from_residual-in_err-name_rule.ensures.1 in
    rw (p.1, p.2, ← c.in_err-name_rule.was, ← c.node_at-root.ensures, ← c.root_rule.ensures, c.in_ok-root_rule.was)
    (turn_off _ _ _ _ c.loop-k-test.true _ (child_rule_lem _ _ _ _ _ _ c.node_at-n.ensures (ap (λ (n : Node). n.first) c.node_at-root.ensures) c.name_rule.ensures) c.in_err-name_rule.was ∙ c.loop-k.invariant)

pub loop-k-preserved : goal.loop-k-preserved
loop-k-preserved c =
    turn_on _ _ _ _ c.loop-k-test.true _ (child_rule_lem _ _ _ _ _ _ c.node_at-n.ensures (ap (λ (n : Node). n.first) c.node_at-root.ensures) c.name_rule.ensures) c.in_ok-name_rule.was ∙ c.loop-k.invariant

pub returns : goal.returns
unfolding table_rule ◌then◌
returns c =
    rw (← c.node_at-root.ensures, ← c.root_rule.ensures, c.in_ok-root_rule.was)
    (sym (in_order_end _ _ _ _ c.loop-k-test.false) ∙ c.loop-k.invariant)
