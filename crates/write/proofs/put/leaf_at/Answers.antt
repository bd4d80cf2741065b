use native.Mathlib.Omega.{arith}
use Rattle.write.proofs.Leads.{leads_self, leads_on, below_in, child_sums, child_in, tag_in, leads_child}
use Rattle.write.proofs.put.leaf_at.Goals as goal

pub returns-then-code-lt15 : goal.returns-then-code-lt15
returns-then-code-lt15 c = leads_self _ _ _ _ _ _ _ c.requires.0 _ c.requires.1 _ c.requires.2 c.if-code-lt15.true

pub returns-then-code-gt16 : goal.returns-then-code-gt16
returns-then-code-gt16 c = leads_on _ _ _ _ _ _ _ c.requires.0 _ c.requires.1 _ c.requires.2 c.if-code-lt15.false

pub overflow_add-at : goal.overflow_add-at
overflow_add-at c = omega (arith, below_in _ _ _ _ _ _ c.args.out.now c.requires.0 _ c.requires.1 _ c.requires.2 c.if-code-lt15.false c.if-code-gt16.false, c.well_formed)

pub value_record_at-below-requires : goal.value_record_at-below-requires
value_record_at-below-requires c = below_in _ _ _ _ _ _ c.args.out.now c.requires.0 _ c.requires.1 _ c.requires.2 c.if-code-lt15.false c.if-code-gt16.false

pub child_of-child-requires : goal.child_of-child-requires
child_of-child-requires c = child_sums _ _ _ _ _ _ c.args.out.now c.requires.0 _ c.requires.1 _ c.requires.2 c.if-code-lt15.false c.if-code-gt16.false _ c.value_record_at-below.ensures _ c.node_first.ensures (omega (arith, c.well_formed))

pub node_code-leaf-requires : goal.node_code-leaf-requires
node_code-leaf-requires c = child_in _ _ _ _ _ _ c.args.out.now c.requires.0 _ c.requires.1 _ c.requires.2 c.if-code-lt15.false c.if-code-gt16.false _ c.value_record_at-below.ensures _ c.node_first.ensures _ c.child_of-child.ensures

pub returns-then-leaf-gt14 : goal.returns-then-leaf-gt14
returns-then-leaf-gt14 c = leads_on _ _ _ _ _ _ _ c.requires.0 _ c.requires.1 _ c.requires.2 c.if-code-lt15.false

pub put_tag-to-requires : goal.put_tag-to-requires
put_tag-to-requires c = (c.if-code-lt15.false, omega (arith, c.if-code-gt16.false), tag_in _ _ _ _ _ _ c.args.out.now c.requires.0 _ c.requires.1 _ c.requires.2 c.if-code-lt15.false c.if-code-gt16.false _ c.value_record_at-below.ensures _ c.node_first.ensures)

pub returns : goal.returns
returns c = leads_child _ _ _ _ _ _ _ c.requires.0 _ c.requires.1 _ c.requires.2 c.if-code-lt15.false c.if-code-gt16.false _ c.value_record_at-below.ensures _ c.node_first.ensures _ c.child_of-child.ensures _ c.node_code-leaf.ensures (omega (arith, c.if-leaf-gt14.false)) _ _ c.put_tag-to.ensures.next c.put_tag-to.ensures.out
