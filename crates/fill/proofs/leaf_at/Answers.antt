use native.Mathlib.Omega.{arith}
use Rattle.fill.specs.Plain.{value_read, read_at}
use Rattle.value_laws.proofs.Sizes.{one_record}
use Rattle.fill.proofs.Leads.{leads_self, leads_on, leads_child, tag_there, child_there}
use Rattle.fill.proofs.leaf_at.Goals as goal

pub returns-then-code-lt15 : goal.returns-then-code-lt15
returns-then-code-lt15 c = leads_self _ _ _ _ _ c.requires.2 _ _ _ _ c.requires.3 c.if-code-lt15.true

pub returns-then-code-gt16 : goal.returns-then-code-gt16
returns-then-code-gt16 c = leads_on _ _ _ _ _ c.requires.2 _ _ _ c.if-code-lt15.false

pub tag_at-bears-requires : goal.tag_at-bears-requires
tag_at-bears-requires c = tag_there _ _ _ _ _ _ _ c.requires c.if-code-lt15.false c.if-code-gt16.false

pub overflow_add-child : goal.overflow_add-child
overflow_add-child c = omega (arith, child_there _ _ _ _ _ _ _ c.requires c.if-code-lt15.false c.if-code-gt16.false _ c.tag_at-bears.ensures.0 _ c.node_first-first.ensures, c.well_formed)

pub node_code-below-requires : goal.node_code-below-requires
node_code-below-requires c = child_there _ _ _ _ _ _ _ c.requires c.if-code-lt15.false c.if-code-gt16.false _ c.tag_at-bears.ensures.0 _ c.node_first-first.ensures

pub returns-then-below-gt14 : goal.returns-then-below-gt14
returns-then-below-gt14 c = leads_on _ _ _ _ _ c.requires.2 _ _ _ c.if-code-lt15.false

pub put_record-requires : goal.put_record-requires
put_record-requires c = let s = c.args in omega (arith, c.requires.3.records, one_record (value_read (read_at s.block.now s.input.now s.depth s.node s.s.at)))

pub overflow_add-result : goal.overflow_add-result
overflow_add-result c = omega (arith, tag_there _ _ _ _ _ _ _ c.requires c.if-code-lt15.false c.if-code-gt16.false, c.tag_width.ensures, c.well_formed)

pub returns : goal.returns
returns c = leads_child _ _ _ _ _ c.requires.2 _ _ _ c.requires.3.is c.if-code-lt15.false (omega (arith, c.if-code-gt16.false)) _ _ c.tag_at-bears.ensures.0 c.tag_width.ensures _ c.node_first-first.ensures _ c.node_code-below.ensures (omega (arith, c.if-below-gt14.false)) _ c.put_record.ensures
