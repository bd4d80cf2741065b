use Rattle.std.proofs.lemmas.Result.{err_from_is_err_and}
use native.Mathlib.Omega.{arith}
use Rattle.leaves.specs.Leaf.{◌>>=◌}
use Rattle.leaves.proofs.Codes.{shape_variant}
use Rattle.read.proofs.Turn.{go_on}
use Rattle.read.proofs.Nodes.{node_code, node_children, skim_none, skim_dear}
use Rattle.read.proofs.Loop.{going_first, rest_refused, rest_end, rest_child, child_asked, child_counted, child_smaller, child_next}
use Rattle.read.proofs.Steps.{ready_paid}
use Rattle.read.proofs.Leads.{reached_leaf, reached_children, paid_leaf, paid_children}
use Rattle.read.proofs.walk.+skip_children_skip_value.Goals as goal

pub skip_children-loop-next-init : goal.skip_children-loop-next-init
skip_children-loop-next-init t c = going_first _ _ _ _ _ _ _ _ _ c.requires c.node_first-first.ensures c.node_children-count.ensures

pub skip_children-next_child-requires : goal.skip_children-next_child-requires
skip_children-next_child-requires t c =
    let inside = node_children _ _ _ _ _ c.requires.1 c.node_first-first.ensures c.node_children-count.ensures in
    (c.requires.2, node_code _ _ _ _ _ c.requires.1 c.node_first-first.ensures c.node_children-count.ensures, omega (arith, inside), c.loop-next.invariant.ready.stands.within)

pub skip_children-skip_value-s-requires : goal.skip_children-skip_value-s-requires
skip_children-skip_value-s-requires t c = (omega (arith, c.decreases, c.requires.0), child_asked _ _ _ _ _ _ _ _ _ c.requires c.node_first-first.ensures c.node_children-count.ensures _ _ c.loop-next.invariant _ c.next_child.ensures _ c.in_ok-next.was _ _ c.in-Child.is)

pub skip_children-returns-in_default : goal.skip_children-returns-in_default
unfolding ◌>>=◌
skip_children-returns-in_default t c = rw (rest_child _ _ _ _ _ _ _ _ _ c.requires c.node_first-first.ensures c.node_children-count.ensures _ _ c.loop-next.invariant _ c.next_child.ensures _ c.in_ok-next.was _ _ c.in-Child.is, ← c.skip_value-s.ensures, c.unwrap_err.ensures)

pub skip_children-returns-then-code-lt17 : goal.skip_children-returns-then-code-lt17
unfolding ◌>>=◌ go_on
skip_children-returns-then-code-lt17 t c = rw (rest_child _ _ _ _ _ _ _ _ _ c.requires c.node_first-first.ensures c.node_children-count.ensures _ _ c.loop-next.invariant _ c.next_child.ensures _ c.in_ok-next.was _ _ c.in-Child.is, ← c.skip_value-s.ensures, c.in-Ok.is, shape_variant _ c.if-code-lt17.true)

pub skip_children-overflow_add-i : goal.skip_children-overflow_add-i
skip_children-overflow_add-i t c = omega (arith, child_counted _ _ _ _ _ _ _ _ _ c.requires c.node_first-first.ensures c.node_children-count.ensures _ _ c.loop-next.invariant _ c.next_child.ensures _ c.in_ok-next.was _ _ c.in-Child.is, c.well_formed)

pub skip_children-loop-next-smaller : goal.skip_children-loop-next-smaller
skip_children-loop-next-smaller t c = child_smaller _ _ _ _ _ _ _ _ _ c.requires c.node_first-first.ensures c.node_children-count.ensures _ _ c.loop-next.invariant _ c.next_child.ensures _ c.in_ok-next.was _ _ c.in-Child.is _ c.skip_value-s.ensures _ c.in-Ok.is

pub skip_children-loop-next-preserved : goal.skip_children-loop-next-preserved
skip_children-loop-next-preserved t c = child_next _ _ _ _ _ _ _ _ _ c.requires c.node_first-first.ensures c.node_children-count.ensures _ _ c.loop-next.invariant _ c.next_child.ensures _ c.in_ok-next.was _ _ c.in-Child.is _ c.skip_value-s.ensures _ c.in-Ok.is c.if-code-lt17.false

pub skip_children-returns-in-End : goal.skip_children-returns-in-End
skip_children-returns-in-End t c = rw (rest_end _ _ _ _ _ _ _ _ _ c.requires c.node_first-first.ensures c.node_children-count.ensures _ _ c.loop-next.invariant _ c.next_child.ensures _ c.in_ok-next.was _ c.in-End.is)

pub skip_children-returns-in_err-next : goal.skip_children-returns-in_err-next
skip_children-returns-in_err-next t c =
    let p = err_from_is_err_and c.from_residual.result c.from_residual.ensures.1 in
    rw (p.1, p.2, rest_refused _ _ _ _ _ _ _ _ _ c.requires c.node_first-first.ensures c.node_children-count.ensures _ _ c.loop-next.invariant _ c.next_child.ensures _ c.in_err-next.was)

pub skip_value-returns-then-depth-eq0 : goal.skip_value-returns-then-depth-eq0
skip_value-returns-then-depth-eq0 t c = rw (skim_none _ _ _ _ _ _ c.if-depth-eq0.true)

pub skip_value-returns-in_err-rest : goal.skip_value-returns-in_err-rest
skip_value-returns-in_err-rest t c =
    let p = err_from_is_err_and c.from_residual.result c.from_residual.ensures.1 in
    rw (p.1, p.2, skim_dear _ _ _ _ _ c.args.p c.if-depth-eq0.false _ c.charge.ensures _ c.in_err-rest.was)

pub skip_value-leaf_at-reached-requires : goal.skip_value-leaf_at-reached-requires
skip_value-leaf_at-reached-requires t c = (record { sound = c.requires.0; inside = c.requires.1; is = c.node_code-code.ensures }, ready_paid _ _ _ _ _ c.requires.2 c.charge.ensures c.in_ok-rest.was)

pub skip_value-skip_leaf-requires : goal.skip_value-skip_leaf-requires
skip_value-skip_leaf-requires t c = (reached_leaf _ _ _ _ _ _ c.leaf_at-reached.ensures _ _ c.in-Some.is).1

pub skip_value-returns-in_err-r-in-Some : goal.skip_value-returns-in_err-r-in-Some
skip_value-returns-in_err-r-in-Some t c =
    let p = err_from_is_err_and c.from_residual-in_err-r-in-Some.result c.from_residual-in_err-r-in-Some.ensures.1 in
    rw (p.1, p.2, ← c.in_err-r-in-Some.was) (paid_leaf _ _ _ _ _ c.args.p c.if-depth-eq0.false _ c.charge.ensures _ c.in_ok-rest.was _ _ c.leaf_at-reached.ensures _ _ c.in-Some.is c.skip_leaf.ensures)

pub skip_value-skip_children-requires : goal.skip_value-skip_children-requires
skip_value-skip_children-requires t c = (omega (arith, c.decreases), (omega (arith, c.if-depth-eq0.false), record { sound = c.requires.0; inside = c.requires.1; is = c.node_code-code.ensures }, rw c.node_code-code.ensures (reached_children _ _ _ _ _ _ c.leaf_at-reached.ensures c.in-None.is), ready_paid _ _ _ _ _ c.requires.2 c.charge.ensures c.in_ok-rest.was))

pub skip_value-returns-in_err-r-in-None : goal.skip_value-returns-in_err-r-in-None
skip_value-returns-in_err-r-in-None t c =
    let p = err_from_is_err_and c.from_residual-in_err-r-in-None.result c.from_residual-in_err-r-in-None.ensures.1 in
    rw (p.1, p.2, ← c.in_err-r-in-None.was) (paid_children _ _ _ _ _ c.args.p c.if-depth-eq0.false _ c.charge.ensures _ c.in_ok-rest.was _ c.skip_children.ensures)

pub skip_value-returns-in_ok-r-in-Some : goal.skip_value-returns-in_ok-r-in-Some
skip_value-returns-in_ok-r-in-Some t c = rw (← c.in_ok-r-in-Some.was) (paid_leaf _ _ _ _ _ c.args.p c.if-depth-eq0.false _ c.charge.ensures _ c.in_ok-rest.was _ _ c.leaf_at-reached.ensures _ _ c.in-Some.is c.skip_leaf.ensures)

pub skip_value-returns-in_ok-r-in-None : goal.skip_value-returns-in_ok-r-in-None
skip_value-returns-in_ok-r-in-None t c = rw (← c.in_ok-r-in-None.was) (paid_children _ _ _ _ _ c.args.p c.if-depth-eq0.false _ c.charge.ensures _ c.in_ok-rest.was _ c.skip_children.ensures)
