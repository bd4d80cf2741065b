use Rattle.value.proofs.Walks.{children_none, children_break, children_on, walk_ends}
use native.Mathlib.Omega.{arith}
use mathlib.Core.Path.{sym, ◌≡◌, ◌∙◌}
use Rattle.value.proofs.Walks.{walk_none, walk_out, walk_bad, walk_scalar, scalar_ends, walk_parent, walk_variant}
use Prim.Native.Nat.{◌+◌, ◌-◌}
use Rattle.value.proofs.+walk_children_walk_value.Goals as goal

pub walk_children-returns-in_err-next : goal.walk_children-returns-in_err-next
walk_children-returns-in_err-next t c = rw (c.from_residual.ensures, ← c.in_err-next.was) (children_break _ _ _ _ (omega (arith, c.loop-test.true)) c.walk_value.ensures c.in_err-next.was ∙ c.loop.invariant.1)

pub walk_children-loop-preserved : goal.walk_children-loop-preserved
walk_children-loop-preserved t c = (walk_ends _ _ _ _ _ _ _ c.loop.invariant.0 c.walk_value.ensures c.in_ok-next.was, let left : c.args.count - (c.loop.counter + 1) ≡ c.args.count - c.loop.counter - 1 = omega arith in rw left (children_on _ _ _ _ _ (omega (arith, c.loop-test.true)) c.walk_value.ensures c.in_ok-next.was) ∙ c.loop.invariant.1)

pub walk_children-returns : goal.walk_children-returns
walk_children-returns t c = sym (children_none _ _ _ (omega (arith, c.loop-test.false))) ∙ c.loop.invariant.1

pub walk_value-returns-then-depth-eq0 : goal.walk_value-returns-then-depth-eq0
walk_value-returns-then-depth-eq0 t c = walk_none _ _ _ _ _ (omega (arith, c.if-depth-eq0.true))

pub walk_value-returns-then-records_in-at : goal.walk_value-returns-then-records_in-at
walk_value-returns-then-records_in-at t c = walk_out _ _ _ _ _ c.if-depth-eq0.false _ c.records_in.ensures c.if-records_in-at.true

pub walk_value-returns-then-not-record_ok : goal.walk_value-returns-then-not-record_ok
walk_value-returns-then-not-record_ok t c = walk_bad _ _ _ _ _ c.if-depth-eq0.false _ c.records_in.ensures c.if-records_in-at.false _ c.value_record_at-r.ensures _ c.record_ok.ensures c.if-not-record_ok.true

pub walk_value-overflow_add-result-then-kind-lt15 : goal.walk_value-overflow_add-result-then-kind-lt15
walk_value-overflow_add-result-then-kind-lt15 t c = omega (arith, scalar_ends _ _ _ _ _ c.if-depth-eq0.false _ c.records_in.ensures c.if-records_in-at.false _ c.value_record_at-r.ensures _ c.record_ok.ensures c.if-not-record_ok.false c.if-kind-lt15.true c.requires, c.ranges.store)

pub walk_value-returns-then-kind-lt15 : goal.walk_value-returns-then-kind-lt15
walk_value-returns-then-kind-lt15 t c = walk_scalar _ _ _ _ _ c.if-depth-eq0.false _ c.records_in.ensures c.if-records_in-at.false _ c.value_record_at-r.ensures _ c.record_ok.ensures c.if-not-record_ok.false c.if-kind-lt15.true

pub walk_value-returns-in-Some : goal.walk_value-returns-in-Some
walk_value-returns-in-Some t c = walk_variant _ _ _ _ _ c.if-depth-eq0.false _ c.records_in.ensures c.if-records_in-at.false _ c.value_record_at-r.ensures _ c.record_ok.ensures c.if-not-record_ok.false c.if-kind-eq15.true _ _ (c.walk_scalar-leaf.ensures _ c.in-Some.is) c.in-Some.is

pub walk_value-returns-in_err-q : goal.walk_value-returns-in_err-q
walk_value-returns-in_err-q t c = rw (c.from_residual.ensures, ← c.in_err-q.was) (walk_parent _ _ _ _ _ c.if-depth-eq0.false _ c.records_in.ensures c.if-records_in-at.false _ c.value_record_at-r.ensures _ c.record_ok.ensures c.if-not-record_ok.false c.if-kind-lt15.false _ c.walk_children.ensures)

pub walk_value-returns : goal.walk_value-returns
walk_value-returns t c = sym c.in_ok-q.was ∙ walk_parent _ _ _ _ _ c.if-depth-eq0.false _ c.records_in.ensures c.if-records_in-at.false _ c.value_record_at-r.ensures _ c.record_ok.ensures c.if-not-record_ok.false c.if-kind-lt15.false _ c.walk_children.ensures
