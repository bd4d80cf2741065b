use Rattle.std.proofs.lemmas.Result.{err_from_is_err_and}
use Rattle.judge.proofs.Going.{closing_short, wrong_count, begins, bounds, ends_there, there, asks, no_pick, narrow, child, no_child_fits, goes_on_lem, whole_inside, whole_deep}
use native.Mathlib.Omega.{arith}
use mathlib.Core.Path.{◌∙◌}
use Rattle.judge.proofs.Going.{whole_inside}
use Rattle.judge.proofs.Leaves.{leaf_bounds, other_kind, leaf_answer}
use mathlib.Core.Path.{sym, ◌∙◌}
use Rattle.judge.proofs.walk.+judge_children_judge_value.Goals as goal

pub judge_children-returns-then-not-count_fits : goal.judge_children-returns-then-not-count_fits
judge_children-returns-then-not-count_fits t c = wrong_count _ _ _ _ _ _ _ c.requires.0 _ _ c.requires.1 _ _ c.node_first-first.ensures c.node_children-count.ensures _ c.count_fits.ensures (c.if-not-count_fits.true)

pub judge_children-overflow_add-q : goal.judge_children-overflow_add-q
judge_children-overflow_add-q t c = omega (arith, whole_inside _ _ _ _ _ _ c.requires.0)

pub judge_children-loop-i-init : goal.judge_children-loop-i-init
judge_children-loop-i-init t c = begins _ _ _ _ _ _ _ c.requires.0 _ _ c.requires.1 _ _ c.node_first-first.ensures c.node_children-count.ensures _ c.count_fits.ensures (c.if-not-count_fits.false)

pub judge_children-value_record_at-below-requires : goal.judge_children-value_record_at-below-requires
judge_children-value_record_at-below-requires t c = there _ _ _ _ _ _ _ c.requires.0 _ _ c.requires.1 _ _ c.node_first-first.ensures c.node_children-count.ensures _ c.count_fits.ensures (c.if-not-count_fits.false) c.loop-i.invariant c.loop-i-test.true

pub judge_children-next_child-requires : goal.judge_children-next_child-requires
judge_children-next_child-requires t c = asks _ _ _ _ _ _ _ c.requires.0 _ _ c.requires.1 _ _ c.node_first-first.ensures c.node_children-count.ensures _ c.count_fits.ensures (c.if-not-count_fits.false) c.loop-i.invariant c.loop-i-test.true (omega arith)

pub judge_children-returns-in_err-child : goal.judge_children-returns-in_err-child
judge_children-returns-in_err-child t c =
    let p = err_from_is_err_and c.from_residual.result c.from_residual.ensures.1 in
    rw (p.1, p.2) (no_pick _ _ _ _ _ _ _ c.requires.0 _ _ c.requires.1 _ _ c.node_first-first.ensures c.node_children-count.ensures _ c.count_fits.ensures (c.if-not-count_fits.false) c.loop-i.invariant c.loop-i-test.true _ c.value_record_at-below.ensures _ c.next_child.ensures _ c.in_err-child.was)

pub judge_children-overflow_add-start : goal.judge_children-overflow_add-start
judge_children-overflow_add-start t c = omega (arith, bounds _ _ _ _ _ _ _ c.requires.0 _ _ c.requires.1 _ _ c.node_first-first.ensures c.node_children-count.ensures _ c.count_fits.ensures (c.if-not-count_fits.false) c.loop-i.invariant, narrow _ _ _ _ _ _ _ c.requires.0 _ _ c.requires.1 _ _ c.node_first-first.ensures c.node_children-count.ensures _ c.count_fits.ensures (c.if-not-count_fits.false) c.loop-i.invariant c.loop-i-test.true _ c.value_record_at-below.ensures _ c.next_child.ensures _ _ c.in_ok-child.was)

pub judge_children-overflow_sub-depth : goal.judge_children-overflow_sub-depth
judge_children-overflow_sub-depth t c = omega (arith, whole_deep _ _ _ _ _ _ c.requires.0)

pub judge_children-judge_value-requires : goal.judge_children-judge_value-requires
judge_children-judge_value-requires t c = (omega (arith, c.decreases, whole_deep _ _ _ _ _ _ c.requires.0), child _ _ _ _ _ _ _ c.requires.0 _ _ c.requires.1 _ _ c.node_first-first.ensures c.node_children-count.ensures _ c.count_fits.ensures (c.if-not-count_fits.false) c.loop-i.invariant c.loop-i-test.true _ c.value_record_at-below.ensures _ c.next_child.ensures _ _ c.in_ok-child.was)

pub judge_children-returns-in_err-r : goal.judge_children-returns-in_err-r
judge_children-returns-in_err-r t c =
    let p = err_from_is_err_and c.from_residual-in_err-r.result c.from_residual-in_err-r.ensures.1 in
    rw (p.1, p.2) (no_child_fits _ _ _ _ _ _ _ c.requires.0 _ _ c.requires.1 _ _ c.node_first-first.ensures c.node_children-count.ensures _ c.count_fits.ensures (c.if-not-count_fits.false) c.loop-i.invariant c.loop-i-test.true _ c.value_record_at-below.ensures _ c.next_child.ensures _ _ c.in_ok-child.was _ c.judge_value.ensures _ c.in_err-r.was)

pub judge_children-loop-i-preserved : goal.judge_children-loop-i-preserved
judge_children-loop-i-preserved t c = goes_on_lem _ _ _ _ _ _ _ c.requires.0 _ _ c.requires.1 _ _ c.node_first-first.ensures c.node_children-count.ensures _ c.count_fits.ensures (c.if-not-count_fits.false) c.loop-i.invariant c.loop-i-test.true _ c.value_record_at-below.ensures _ c.next_child.ensures _ _ c.in_ok-child.was _ c.judge_value.ensures _ c.in_ok-r.was

pub judge_children-overflow_add-result : goal.judge_children-overflow_add-result
judge_children-overflow_add-result t c = omega (arith, bounds _ _ _ _ _ _ _ c.requires.0 _ _ c.requires.1 _ _ c.node_first-first.ensures c.node_children-count.ensures _ c.count_fits.ensures (c.if-not-count_fits.false) c.loop-i.invariant, closing_short c.args.code, c.closing.ensures)

pub judge_children-returns : goal.judge_children-returns
judge_children-returns t c = ends_there _ _ _ _ _ _ _ c.requires.0 _ _ c.requires.1 _ _ c.node_first-first.ensures c.node_children-count.ensures _ c.count_fits.ensures (c.if-not-count_fits.false) c.loop-i.invariant _ c.closing.ensures c.loop-i-test.false

pub judge_value-value_record_at-own-requires : goal.judge_value-value_record_at-own-requires
judge_value-value_record_at-own-requires t c = whole_inside _ _ _ _ _ _ c.requires

pub judge_value-returns-then-kind-kind_of : goal.judge_value-returns-then-kind-kind_of
judge_value-returns-then-kind-kind_of t c = other_kind _ _ _ _ _ _ c.requires _ c.value_record_at-own.ensures _ c.node_code-code.ensures _ c.kind_of.ensures _ c.if-kind-kind_of.true

pub judge_value-judge_leaf-requires : goal.judge_value-judge_leaf-requires
judge_value-judge_leaf-requires t c = let k = leaf_bounds _ _ _ _ _ _ c.requires _ c.value_record_at-own.ensures in (c.if-code-lt15.true, k.0, k.1.0, k.1.1.0, k.1.1.1)

pub judge_value-returns-in_err-q : goal.judge_value-returns-in_err-q
judge_value-returns-in_err-q t c =
    let p = err_from_is_err_and c.from_residual.result c.from_residual.ensures.1 in
    rw (p.1, p.2, ← c.in_err-q.was) (c.judge_leaf.ensures ∙ leaf_answer _ _ _ _ _ _ c.requires _ c.value_record_at-own.ensures _ c.node_code-code.ensures _ c.kind_of.ensures _ c.if-kind-kind_of.false c.if-code-lt15.true)

pub judge_value-returns-then-code-lt15 : goal.judge_value-returns-then-code-lt15
judge_value-returns-then-code-lt15 t c = sym c.in_ok-q.was ∙ c.judge_leaf.ensures ∙ leaf_answer _ _ _ _ _ _ c.requires _ c.value_record_at-own.ensures _ c.node_code-code.ensures _ c.kind_of.ensures _ c.if-kind-kind_of.false c.if-code-lt15.true
