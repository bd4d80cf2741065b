use Rattle.listing_lines.proofs.Walks.{none_left, record_in, has_depth, line_asked, count_low, from_low, going_first, listed, child_listable, going_next}
use native.Mathlib.Omega.{arith}
use mathlib.Core.Path.{◌≡◌, refl}
use Prim.Native.Nat.{ℕ, ◌+◌, ◌-◌, ◌≤◌, ◌<◌}
use Rattle.listing_lines.proofs.rows.+list_value.Goals as goal

left_here : {k n : ℕ} → k < n → 0 < n - k
left_here h = omega arith

none_here : {k n : ℕ} → n ≤ k → n - k ≤ 0
none_here h = omega arith

pub value_record_at-own-requires : goal.value_record_at-own-requires
value_record_at-own-requires t c = record_in _ _ _ _ _ _ _ c.requires

pub overflow_add-q : goal.overflow_add-q
overflow_add-q t c = omega (arith, record_in _ _ _ _ _ _ _ c.requires, c.requires.short)

pub overflow_sub-q : goal.overflow_sub-q
overflow_sub-q t c = count_low _ _ _ _ _ _ _ c.requires _ c.value_record_at-own.ensures _ c.children_of-count.ensures

pub overflow_add-q-2 : goal.overflow_add-q-2
overflow_add-q-2 t c = omega (arith, from_low _ _ _ _ _ _ _ c.requires _ c.value_record_at-own.ensures _ c.children_of-count.ensures, c.requires.small)

pub put_line-requires : goal.put_line-requires
put_line-requires t c = line_asked _ _ _ _ _ _ _ c.requires _ c.value_record_at-own.ensures

pub loop-done-init : goal.loop-done-init
loop-done-init t c =
    let z : c.children_of-count.result - 0 ≡ c.children_of-count.result = omega arith in
    rw z (going_first _ _ _ _ _ _ _ c.requires _ c.value_record_at-own.ensures _ c.children_of-count.ensures _ _ _ refl _ c.put_line.ensures.text_put c.put_line.ensures.upper_bound)

pub overflow_sub-depth-in-loop-done : goal.overflow_sub-depth-in-loop-done
overflow_sub-depth-in-loop-done t c = omega (arith, has_depth _ _ _ _ _ _ _ c.requires)

pub list_value-q-requires : goal.list_value-q-requires
list_value-q-requires t c = (omega (arith, c.decreases, has_depth _ _ _ _ _ _ _ c.requires), child_listable _ _ _ _ _ _ _ c.requires _ _ _ _ _ _ _ c.loop-done.invariant (left_here c.loop-done-test.true))

pub loop-done-preserved : goal.loop-done-preserved
loop-done-preserved t c =
    let less : c.children_of-count.result - (c.loop-done._done + 1) ≡ c.children_of-count.result - c.loop-done._done - 1 = omega arith in
    rw less (going_next _ _ _ _ _ _ _ c.requires _ _ _ _ _ _ _ c.loop-done.invariant (left_here c.loop-done-test.true) _ _ c.list_value-q.ensures)

pub returns : goal.returns
returns t c = listed _ _ _ _ _ _ _ c.requires _ c.value_record_at-own.ensures _ c.children_of-count.ensures _ _ _ refl _ c.put_line.ensures.text_put c.put_line.ensures.upper_bound _ refl _ _ (none_left _ _ (none_here c.loop-done-test.false) c.loop-done.invariant)
