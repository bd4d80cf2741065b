use Rattle.write.proofs.Putting.{record_in, has_depth, code_in, fill_first, last_room, placed, record_there_lem, sums, tag_room, may_write, fill_next}
use native.Mathlib.Omega.{arith}
use mathlib.Core.Path.{refl}
use Rattle.write.proofs.Putting.{record_in}
use Rattle.write.proofs.Stored.{parted_node}
use Rattle.write.proofs.Leads.{reached_room, reached_places, reached_children}
use Rattle.write.proofs.put.+put_children_put_value.Goals as goal

pub put_children-overflow_add-q : goal.put_children-overflow_add-q
put_children-overflow_add-q t c = omega (arith, record_in _ _ _ _ _ _ _ c.requires.0, c.well_formed)

pub put_children-loop-i-init : goal.put_children-loop-i-init
put_children-loop-i-init t c = fill_first _ _ _ _ _ _ _ c.requires.0 _ _ c.requires.1 _

pub put_children-value_record_at-below-requires : goal.put_children-value_record_at-below-requires
put_children-value_record_at-below-requires t c = record_there_lem _ _ _ _ _ _ _ c.requires.0 _ _ c.requires.1 _ c.node_first-first.ensures refl c.loop-i.invariant c.loop-i-test.true

pub put_children-child_of-child-requires : goal.put_children-child_of-child-requires
put_children-child_of-child-requires t c = sums _ _ _ _ _ _ _ c.requires.0 _ _ c.requires.1 _ c.node_first-first.ensures refl c.loop-i.invariant c.loop-i-test.true _ c.value_record_at-below.ensures (omega (arith, c.well_formed))

pub put_children-put_tag-requires : goal.put_children-put_tag-requires
put_children-put_tag-requires t c = (c.requires.1.compound, code_in _ _ _ _ _ _ _ c.requires.0 _ _ c.requires.1, tag_room _ _ _ _ _ _ _ c.requires.0 _ _ c.requires.1 _ c.node_first-first.ensures refl c.loop-i.invariant c.loop-i-test.true _ c.value_record_at-below.ensures)

pub put_children-overflow_sub-depth : goal.put_children-overflow_sub-depth
put_children-overflow_sub-depth t c = omega (arith, has_depth _ _ _ _ _ _ _ c.requires.0)

pub put_children-put_value-q-requires : goal.put_children-put_value-q-requires
put_children-put_value-q-requires t c = (omega (arith, c.decreases, has_depth _ _ _ _ _ _ _ c.requires.0), may_write _ _ _ _ _ _ _ c.requires.0 _ _ c.requires.1 _ c.node_first-first.ensures refl c.loop-i.invariant c.loop-i-test.true _ c.value_record_at-below.ensures _ _ c.child_of-child.ensures c.put_tag.ensures.next _ c.put_tag.auto.out)

pub put_children-loop-i-preserved : goal.put_children-loop-i-preserved
put_children-loop-i-preserved t c = fill_next _ _ _ _ _ _ _ c.requires.0 _ _ c.requires.1 _ c.node_first-first.ensures refl c.loop-i.invariant c.loop-i-test.true _ c.value_record_at-below.ensures _ _ c.child_of-child.ensures c.put_tag.ensures.next _ _ _ c.put_tag.ensures.out c.put_value-q.ensures

pub put_children-put_end-requires : goal.put_children-put_end-requires
put_children-put_end-requires t c = (c.requires.1.compound, code_in _ _ _ _ _ _ _ c.requires.0 _ _ c.requires.1, last_room _ _ _ _ _ _ _ c.requires.0 _ _ c.requires.1 _ c.node_first-first.ensures refl c.loop-i.invariant c.loop-i-test.false)

pub put_children-returns : goal.put_children-returns
put_children-returns t c = placed _ _ _ _ _ _ _ c.requires.0 _ _ c.requires.1 _ c.node_first-first.ensures refl c.loop-i.invariant c.loop-i-test.false _ _ c.put_end.ensures.next c.put_end.ensures.out

pub put_value-value_record_at-own-requires : goal.put_value-value_record_at-own-requires
put_value-value_record_at-own-requires t c = record_in _ _ _ _ _ _ _ c.requires

pub put_value-put_leaf-requires : goal.put_value-put_leaf-requires
put_value-put_leaf-requires t c = reached_room _ _ _ _ _ _ _ _ _ c.leaf_at-reached.ensures _ _ _ _ c.in-Some.is

pub put_value-put_children-requires : goal.put_value-put_children-requires
put_value-put_children-requires t c = let s = c in
    let l = reached_children _ _ _ _ _ _ _ _ _ c.leaf_at-reached.ensures c.in-None.is in
    (omega (arith, s.decreases), (rw l.1 s.requires, parted_node _ _ _ _ _ _ _ s.requires _ c.value_record_at-own.ensures _ c.node_code-code.ensures (omega (arith, l.0, c.node_code-code.ensures))))

pub put_value-returns-in-Some : goal.put_value-returns-in-Some
put_value-returns-in-Some t c = reached_places _ _ _ _ _ _ _ _ _ c.leaf_at-reached.ensures _ _ _ _ c.in-Some.is _ _ c.put_leaf.ensures.spot c.put_leaf.ensures.out

pub put_value-returns-in-None : goal.put_value-returns-in-None
put_value-returns-in-None t c = rw (reached_children _ _ _ _ _ _ _ _ _ c.leaf_at-reached.ensures c.in-None.is).1 at c.put_children.ensures
