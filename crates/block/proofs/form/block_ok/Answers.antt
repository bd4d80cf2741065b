use borrow.Author.Tests.{eq-eqb, ne_eqb, le-leb, lt-leb}
use native.Mathlib.Omega.{arith}
use mathlib.Core.Path.{◌≡◌, refl, ◌∙◌}
use Rattle.rules.specs.Choice.{◌and◌, all}
use Rattle.rules.specs.Block.{earlier, record_at, block_ok}
use Rattle.rules.proofs.Tests.{all_false, all_more}
use Rattle.block_laws.proofs.Form.{next_suc, next_fits, record_at_lem, block_ends}
use Rattle.block.proofs.form.block_ok.Goals as goal

pub returns-then-s-ne0 : goal.returns-then-s-ne0
unfolding block_ok ◌and◌
returns-then-s-ne0 c = rw (ne_eqb _ _ c.if-s-ne0.true)

pub returns-then-m-gt131072 : goal.returns-then-m-gt131072
unfolding block_ok ◌and◌
returns-then-m-gt131072 c = rw (eq-eqb _ _ c.if-s-ne0.false, lt-leb _ _ c.if-m-gt131072.true)

pub loop-i-init : goal.loop-i-init
unfolding earlier all
loop-i-init c = (refl, refl)

pub returns-then-not-node_ok : goal.returns-then-not-node_ok
unfolding block_ok ◌and◌
returns-then-not-node_ok c = let told_here : record_at c.args.s.now c.args.store c.loop-i.i ≡ c.node_ok.result = record_at_lem _ _ _ _ _ c.node_at-n.ensures c.loop-i.invariant.0 _ c.node_ok.ensures in
    rw (eq-eqb _ _ c.if-s-ne0.false, le-leb _ _ c.if-m-gt131072.false, all_false _ _ _ (told_here ∙ c.if-not-node_ok.true) c.loop-i-test.true)

pub overflow_add-next : goal.overflow_add-next
overflow_add-next c = let h = next_fits _ (λ j. omega (arith, c.type_inv.s j)) c.loop-i.i c.loop-i.next _ c.node_at-n.ensures c.loop-i.invariant.0 (omega arith) in
    omega (arith, h)

pub loop-i-preserved : goal.loop-i-preserved
loop-i-preserved c = let told_here : record_at c.args.s.now c.args.store c.loop-i.i ≡ c.node_ok.result = record_at_lem _ _ _ _ _ c.node_at-n.ensures c.loop-i.invariant.0 _ c.node_ok.ensures in
    (next_suc _ _ _ _ c.node_at-n.ensures c.loop-i.invariant.0, all_more _ _ c.loop-i.invariant.1 (told_here ∙ c.if-not-node_ok.false))

pub returns : goal.returns
returns c = block_ends _ _ _ _ c.if-s-ne0.false c.if-m-gt131072.false (omega (arith, c.loop-i.auto.i-end, c.loop-i-test.false)) c.loop-i.invariant.0 c.loop-i.invariant.1
