use Rattle.rules.specs.Reading.{limits}
use native.Mathlib.Omega.{arith}
use mathlib.Core.Path.{sym, ◌∙◌}
use Rattle.rules.proofs.Checks.{value_in}
use Rattle.judge.proofs.Once.{below_there, below_asks, below_in, few_bytes_on, below_bounds, judged_once}
use Rattle.judge.proofs.walk.judge_at_once.Goals as goal

pub overflow_add-at : goal.overflow_add-at
overflow_add-at c = omega (arith, below_there _ (limits c.args.settings) _ _ _ _ _ c.requires.0 _ _ c.requires.1 c.if-code-gt16.false _ _ c.node_first-first.ensures c.node_children-count.ensures, c.well_formed)

pub value_record_at-below-requires : goal.value_record_at-below-requires
value_record_at-below-requires c = below_there _ (limits c.args.settings) _ _ _ _ _ c.requires.0 _ _ c.requires.1 c.if-code-gt16.false _ _ c.node_first-first.ensures c.node_children-count.ensures

pub next_child-requires : goal.next_child-requires
next_child-requires c = below_asks _ (limits c.args.settings) _ _ _ _ _ c.requires.0 _ _ c.requires.1 c.if-code-gt16.false _ _ c.node_first-first.ensures c.node_children-count.ensures (omega (arith, c.well_formed))

pub node_code-leaf-requires : goal.node_code-leaf-requires
node_code-leaf-requires c = below_in _ (limits c.args.settings) _ _ _ _ _ c.requires.0 _ _ c.requires.1 c.if-code-gt16.false _ _ c.node_first-first.ensures c.node_children-count.ensures _ c.value_record_at-below.ensures _ c.next_child.ensures _ c.ok.ensures.value _ _ c.in_ok-child.was

pub overflow_add-start : goal.overflow_add-start
overflow_add-start c = omega (arith, few_bytes_on _ (limits c.args.settings) _ _ _ _ _ c.requires.0 _ _ c.requires.1 c.if-code-gt16.false _ _ c.node_first-first.ensures c.node_children-count.ensures _ c.value_record_at-below.ensures _ c.next_child.ensures _ c.ok.ensures.value _ _ c.in_ok-child.was)

pub judge_leaf-requires : goal.judge_leaf-requires
judge_leaf-requires c = let k = below_bounds _ (limits c.args.settings) _ _ _ _ _ c.requires.0 _ _ c.requires.1 c.if-code-gt16.false _ _ c.node_first-first.ensures c.node_children-count.ensures _ c.value_record_at-below.ensures _ c.next_child.ensures _ c.ok.ensures.value _ _ c.in_ok-child.was in
    (omega (arith, c.if-leaf-gt14.false), k.0, k.1.0, k.1.1.0, k.1.1.1)

pub returns : goal.returns
returns c = λ q e. judged_once _ _ _ _ _ _ _ c.requires.0 _ _ c.requires.1 c.if-code-gt16.false _ _ c.node_first-first.ensures c.node_children-count.ensures _ c.value_record_at-below.ensures _ c.next_child.ensures _ c.ok.ensures.value _ _ c.in_ok-child.was _ c.node_code-leaf.ensures (omega (arith, c.if-leaf-gt14.false)) c.if-below-leaf.false _ c.judge_leaf.ensures q (value_in _ _ (sym c.ok-2.ensures.value ∙ e))
