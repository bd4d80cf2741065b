use native.Mathlib.Omega.{arith}
use Rattle.rules.specs.Block.{Closed}
use Rattle.fill.proofs.Children.{there}
use Rattle.fill.proofs.Going.{going_first, count_fits, begun, own_room, child_asked, child_smaller, child_filled, node_filled}
use Rattle.fill.proofs.Leads.{reached_leaf, reached_children}
use Rattle.fill.proofs.+fill_children_fill_value.Goals as goal

pub fill_children-loop-bears-init : goal.fill_children-loop-bears-init
fill_children-loop-bears-init t c = going_first _ _ _ _ _ _ _ _ _ _ _ (begun _ _ _ _ _ _ _ c.requires).begins.all

pub fill_children-next_child-next-requires : goal.fill_children-next_child-next-requires
unfolding Closed
fill_children-next_child-next-requires t c =
    let inside = c.requires.0 c.args.node c.requires.1 in
    rw c.node_code-code.ensures (c.requires.2, (begun _ _ _ _ _ _ _ c.requires).known, omega (arith, inside, c.node_first-first.ensures, c.node_children-count.ensures, c.well_formed), there _ _ _ _ _ _ _ _ _ c.loop-bears.invariant.reads)

pub fill_children-overflow_sub-depth : goal.fill_children-overflow_sub-depth
fill_children-overflow_sub-depth t c = omega (arith, (begun _ _ _ _ _ _ _ c.requires).deep)

pub fill_children-fill_value-q-requires : goal.fill_children-fill_value-q-requires
fill_children-fill_value-q-requires t c = (omega (arith, c.decreases, (begun _ _ _ _ _ _ _ c.requires).deep), child_asked _ _ _ _ _ c.requires c.loop-bears.invariant _ _ _ c.node_code-code.ensures c.node_first-first.ensures c.node_children-count.ensures _ c.next_child-next.ensures _ _ _ c.in-Child.is _ c.fill_pos_at-p.ensures)

pub fill_children-overflow_add-n : goal.fill_children-overflow_add-n
fill_children-overflow_add-n t c = omega (arith, count_fits c.loop-bears.invariant, own_room _ _ _ _ _ _ _ c.requires, c.well_formed)

pub fill_children-loop-bears-smaller : goal.fill_children-loop-bears-smaller
fill_children-loop-bears-smaller t c = omega (arith, child_smaller _ _ _ _ _ c.requires c.loop-bears.invariant _ _ _ c.node_code-code.ensures c.node_first-first.ensures c.node_children-count.ensures _ c.next_child-next.ensures _ _ _ c.in-Child.is _ c.fill_pos_at-p.ensures _ _ _ c.fill_value-q.ensures)

pub fill_children-loop-bears-preserved : goal.fill_children-loop-bears-preserved
fill_children-loop-bears-preserved t c = child_filled _ _ _ _ _ c.requires c.loop-bears.invariant _ _ _ c.node_code-code.ensures c.node_first-first.ensures c.node_children-count.ensures _ c.next_child-next.ensures _ _ _ c.in-Child.is _ c.fill_pos_at-p.ensures _ _ _ c.fill_value-q.ensures

pub fill_children-kind_of-requires : goal.fill_children-kind_of-requires
fill_children-kind_of-requires t c = rw c.node_code-code.ensures (c.requires.2, (begun _ _ _ _ _ _ _ c.requires).known)

pub fill_children-put_record-requires : goal.fill_children-put_record-requires
fill_children-put_record-requires t c = omega (arith, own_room _ _ _ _ _ _ _ c.requires, c.loop-bears.invariant.same_records)

pub fill_children-returns-in-End : goal.fill_children-returns-in-End
fill_children-returns-in-End t c = node_filled _ _ _ _ _ c.requires c.loop-bears.invariant _ _ _ c.node_code-code.ensures c.node_first-first.ensures c.node_children-count.ensures _ c.next_child-next.ensures _ _ c.in-End.is _ c.kind_of.ensures _ c.put_record.ensures _ c.fill_pos_at.ensures

pub fill_value-fill_leaf-requires : goal.fill_value-fill_leaf-requires
fill_value-fill_leaf-requires t c = let l = reached_leaf _ _ _ _ _ _ _ _ c.leaf_at-reached.ensures _ _ _ c.in-Some.is in
    (l.0, l.1.room _ _ (rw c.leaf_at-reached.auto.records c.requires.2))

pub fill_value-returns-in-Some : goal.fill_value-returns-in-Some
fill_value-returns-in-Some t c = let l = reached_leaf _ _ _ _ _ _ _ _ c.leaf_at-reached.ensures _ _ _ c.in-Some.is in
    l.1.fills _ _ _ _ c.fill_leaf.ensures

pub fill_value-fill_children-requires : goal.fill_value-fill_children-requires
fill_value-fill_children-requires t c = let s = c in
    let l = reached_children _ _ _ _ _ _ _ _ c.leaf_at-reached.ensures c.in-None.is in
    (omega (arith, s.decreases), (s.requires.0, s.requires.1, rw (← c.node_code-code.ensures) l.0, rw c.leaf_at-reached.auto.records s.requires.2))

pub fill_value-returns-in-None : goal.fill_value-returns-in-None
fill_value-returns-in-None t c = let l = reached_children _ _ _ _ _ _ _ _ c.leaf_at-reached.ensures c.in-None.is in
    rw l.1 at c.fill_children.ensures
