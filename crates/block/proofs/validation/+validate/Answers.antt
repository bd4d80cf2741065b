use Rattle.std.proofs.lemmas.Result.{err_from_is_err_and}
use native.Mathlib.Omega.{arith}
use Prim.Native.Nat.{◌+◌, ◌≤◌}
use mathlib.Core.Path.{sym, ◌∙◌}
use lib.ListN.{length}
use Rattle.rules.specs.Refusals.{◌then◌}
use Rattle.rules.specs.Block.{node_start}
use Rattle.rules.specs.SchemaRules.{schema_rule}
use Rattle.rules.proofs.Checks.{in_order_none, in_order_end}
use Rattle.block_laws.proofs.Rules.{schema_rule_suc}
use Rattle.block.proofs.Parts.{children_inside}
use Rattle.block.proofs.Turns.{turn_on, turn_off}
use Rattle.block.proofs.validation.+validate.Goals as goal

pub returns-then-depth-eq0 : goal.returns-then-depth-eq0
unfolding schema_rule
returns-then-depth-eq0 t c = rw c.if-depth-eq0.true

pub returns-in_err-node_rule : goal.returns-in_err-node_rule
unfolding ◌then◌
returns-in_err-node_rule t c =
    let p = err_from_is_err_and c.from_residual.result c.from_residual.ensures.1 in
    rw (p.1, p.2, schema_rule_suc _ _ _ _ c.if-depth-eq0.false, ← c.node_at-n.ensures, ← c.node_rule.ensures, c.in_err-node_rule.was)

pub loop-k-init : goal.loop-k-init
unfolding ◌then◌
loop-k-init t c = rw (schema_rule_suc _ _ _ _ c.if-depth-eq0.false, ← c.node_at-n.ensures, ← c.node_rule.ensures, c.in_ok-node_rule.was) (in_order_none _ _ _)

pub overflow_add-first : goal.overflow_add-first
overflow_add-first t c = omega (arith, children_inside _ c.requires.0 _ c.requires.1 _ c.node_at-n.ensures, c.requires.2)

pub validate-requires : goal.validate-requires
validate-requires t c =
    let inside : node_start (c.node_at-n.result.first + c.node_at-n.result.children) ≤ length c.args.s.now = children_inside _ c.requires.0 _ c.requires.1 _ c.node_at-n.ensures in
    (omega (arith, c.decreases, c.if-depth-eq0.false), (c.requires.0, omega (arith, inside), c.requires.2))

pub returns-in_err-validate : goal.returns-in_err-validate
returns-in_err-validate t c =
    let p = err_from_is_err_and c.from_residual-in_err-validate.result c.from_residual-in_err-validate.ensures.1 in
    rw (p.1, p.2, ← c.in_err-validate.was) (turn_off _ _ _ _ c.loop-k-test.true _ c.validate.ensures c.in_err-validate.was ∙ c.loop-k.invariant)

pub loop-k-preserved : goal.loop-k-preserved
loop-k-preserved t c = turn_on _ _ _ _ c.loop-k-test.true _ c.validate.ensures c.in_ok-validate.was ∙ c.loop-k.invariant

pub returns : goal.returns
returns t c = sym (in_order_end _ _ _ _ c.loop-k-test.false) ∙ c.loop-k.invariant
