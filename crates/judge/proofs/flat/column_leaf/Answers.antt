use native.Mathlib.Omega.{arith}
use Rattle.judge.specs.Flat.{LeadsToLeaf}
use Rattle.judge.proofs.Columns.{only_self, tag_asks, child_there, few_more, only_below}
use Rattle.judge.proofs.flat.column_leaf.Goals as goal

pub returns-then-code-lt15 : goal.returns-then-code-lt15
unfolding LeadsToLeaf
returns-then-code-lt15 c = only_self _ _ _ _ _ c.requires.0 c.requires.1 _ c.node_code-code.ensures c.if-code-lt15.true

pub returns-then-code-gt16 : goal.returns-then-code-gt16
unfolding LeadsToLeaf
returns-then-code-gt16 c = tt

pub returns-then-own-ne15 : goal.returns-then-own-ne15
unfolding LeadsToLeaf
returns-then-own-ne15 c = tt

pub returns-then-not-record_ok : goal.returns-then-not-record_ok
unfolding LeadsToLeaf
returns-then-not-record_ok c = tt

pub returns-then-records_in-at : goal.returns-then-records_in-at
unfolding LeadsToLeaf
returns-then-records_in-at c = tt

pub next_child-requires : goal.next_child-requires
next_child-requires c = tag_asks _ _ _ _ _ c.requires.0 c.requires.1 _ c.node_code-code.ensures c.if-code-lt15.false c.if-code-gt16.false _ c.value_record_at-own.ensures c.if-own-ne15.false _ c.record_ok.ensures c.if-not-record_ok.false _ c.records_in.ensures c.if-records_in-at.false _ c.value_record_at-below.ensures _ _ c.node_first-first.ensures c.node_children-count.ensures (omega (arith, c.well_formed))

pub returns-in_err-child : goal.returns-in_err-child
unfolding LeadsToLeaf
returns-in_err-child c = rw c.from_residual.ensures tt

pub node_code-leaf-requires : goal.node_code-leaf-requires
node_code-leaf-requires c = child_there _ _ _ _ _ c.requires.0 c.requires.1 _ c.node_code-code.ensures c.if-code-lt15.false c.if-code-gt16.false _ c.value_record_at-own.ensures c.if-own-ne15.false _ c.record_ok.ensures c.if-not-record_ok.false _ c.records_in.ensures c.if-records_in-at.false _ c.value_record_at-below.ensures _ _ c.node_first-first.ensures c.node_children-count.ensures _ c.next_child.ensures _ c.ok.ensures.value _ _ c.in_ok-child.was

pub returns-then-leaf-gt14 : goal.returns-then-leaf-gt14
unfolding LeadsToLeaf
returns-then-leaf-gt14 c = tt

pub overflow_add-result : goal.overflow_add-result
overflow_add-result c = omega (arith, few_more _ _ _ _ _ c.requires.0 c.requires.1 _ c.node_code-code.ensures c.if-code-lt15.false c.if-code-gt16.false _ c.value_record_at-own.ensures c.if-own-ne15.false _ c.record_ok.ensures c.if-not-record_ok.false _ c.records_in.ensures c.if-records_in-at.false _ c.value_record_at-below.ensures _ _ c.node_first-first.ensures c.node_children-count.ensures _ c.next_child.ensures _ c.ok.ensures.value _ _ c.in_ok-child.was)

pub returns : goal.returns
unfolding LeadsToLeaf
returns c = only_below _ _ _ _ _ c.requires.0 c.requires.1 _ c.node_code-code.ensures c.if-code-lt15.false c.if-code-gt16.false _ c.value_record_at-own.ensures c.if-own-ne15.false _ c.record_ok.ensures c.if-not-record_ok.false _ c.records_in.ensures c.if-records_in-at.false _ c.value_record_at-below.ensures _ _ c.node_first-first.ensures c.node_children-count.ensures _ c.next_child.ensures _ c.ok.ensures.value _ _ c.in_ok-child.was _ c.node_code-leaf.ensures (omega (arith, c.if-leaf-gt14.false))
