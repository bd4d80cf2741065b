use borrow.Author.Tests.{eq-eqb, ne_eqb, le-leb, lt-leb}
use native.Mathlib.Omega.{arith}
use mathlib.Core.Path.{◌≡◌, refl, sym, ◌∙◌}
use Rattle.rules.specs.Choice.{◌and◌, all}
use Rattle.rules.specs.Block.{earlier, record_at, block_ok}
use Rattle.rules.proofs.Tests.{all_false, all_more}
use Rattle.rules.proofs.Checks.{in_order_none, in_order_end}
use Rattle.block_laws.proofs.Form.{next_suc, next_fits, record_at_lem, block_ends}
use Rattle.block.proofs.Turns.{turn_on, turn_off}
use Rattle.block.proofs.Level.{rule_at_lem}
use Rattle.block.proofs.Passing.{form_off, rule_off, both_end}
use Rattle.block.proofs.validation.passes.Goals as goal

pub returns-then-s-ne0 : goal.returns-then-s-ne0
unfolding block_ok ◌and◌
returns-then-s-ne0 c = form_off _ _ _ (rw (ne_eqb _ _ c.if-s-ne0.true))

pub returns-then-m-gt131072 : goal.returns-then-m-gt131072
unfolding block_ok ◌and◌
returns-then-m-gt131072 c = form_off _ _ _ (rw (eq-eqb _ _ c.if-s-ne0.false, lt-leb _ _ c.if-m-gt131072.true))

pub loop-i-init : goal.loop-i-init
unfolding earlier all
loop-i-init c = (refl, (refl, in_order_none _ _ _))

pub returns-then-not-node_ok : goal.returns-then-not-node_ok
unfolding block_ok ◌and◌
returns-then-not-node_ok c = let told_here : record_at c.args.s.now c.args.store c.loop-i.i ≡ c.node_ok.result = record_at_lem _ _ _ _ _ c.node_at-node.ensures c.loop-i.invariant.0 _ c.node_ok.ensures in
    form_off _ _ _
    (rw (eq-eqb _ _ c.if-s-ne0.false, le-leb _ _ c.if-m-gt131072.false, all_false _ _ _ (told_here ∙ c.if-not-node_ok.true) c.loop-i-test.true))

pub returns-in_default : goal.returns-in_default
returns-in_default c = rule_off _ _ _ _
    (turn_off _ 0 _ _ c.loop-i-test.true _ (rule_at_lem _ _ _ _ _ c.node_at-node.ensures c.node_rule-own.ensures) c.in_default.is ∙ c.loop-i.invariant.1.1)
    c.in_default.is

pub overflow_add-next : goal.overflow_add-next
overflow_add-next c = let h = next_fits _ (λ j. omega (arith, c.type_inv.s j)) c.loop-i.i c.loop-i.next _ c.node_at-node.ensures c.loop-i.invariant.0 (omega arith) in
    omega (arith, h)

pub loop-i-preserved : goal.loop-i-preserved
loop-i-preserved c = let told_here : record_at c.args.s.now c.args.store c.loop-i.i ≡ c.node_ok.result = record_at_lem _ _ _ _ _ c.node_at-node.ensures c.loop-i.invariant.0 _ c.node_ok.ensures in (
  next_suc _ _ _ _ c.node_at-node.ensures c.loop-i.invariant.0,
  (
    all_more _ _ c.loop-i.invariant.1.0 (told_here ∙ c.if-not-node_ok.false),
    turn_on _ 0 _ _ c.loop-i-test.true _ (rule_at_lem _ _ _ _ _ c.node_at-node.ensures c.node_rule-own.ensures) c.in-Ok.is ∙ c.loop-i.invariant.1.1,
  ),
)

pub returns : goal.returns
returns c = both_end _ _ _ _
    (block_ends _ _ _ _ c.if-s-ne0.false c.if-m-gt131072.false (omega (arith, c.loop-i.auto.i-end, c.loop-i-test.false)) c.loop-i.invariant.0 c.loop-i.invariant.1.0)
    (sym (in_order_end _ _ _ _ c.loop-i-test.false) ∙ c.loop-i.invariant.1.1)
