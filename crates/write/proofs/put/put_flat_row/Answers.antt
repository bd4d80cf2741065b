use Rattle.write.proofs.Root.{tag_fits, root_in, row_placed}
use Rattle.write.proofs.RowColumns.{columns_first, column_sum, column_writable, columns_next, columns_end}
use native.Mathlib.Omega.{arith}
use mathlib.Core.Path.{refl, ap}
use Rattle.write.proofs.put.put_flat_row.Goals as goal

pub put16-requires : goal.put16-requires
put16-requires c = tag_fits _ _ _ _ _ c.requires

pub value_record_at-own-requires : goal.value_record_at-own-requires
value_record_at-own-requires c = root_in _ _ _ _ _ c.requires

pub loop-i-init : goal.loop-i-init
loop-i-init c = columns_first _ _ _ _ _ c.requires _ (ap (λ u. u.size) c.value_record_at-own.ensures) _ c.put16.auto.s _

pub overflow_add-column : goal.overflow_add-column
overflow_add-column c = let h = column_sum _ _ _ _ _ c.requires _ (ap (λ u. u.size) c.value_record_at-own.ensures) _ c.node_first-first.ensures c.put16.auto.s c.loop-i.invariant c.loop-i-test.true (omega (arith, c.well_formed)) in omega (arith, h)

pub put_value-q-requires : goal.put_value-q-requires
put_value-q-requires c = column_writable _ _ _ _ _ c.requires _ (ap (λ u. u.size) c.value_record_at-own.ensures) _ c.node_first-first.ensures c.put16.auto.s c.loop-i.invariant c.loop-i-test.true _ refl

pub loop-i-preserved : goal.loop-i-preserved
loop-i-preserved c = columns_next _ _ _ _ _ c.requires _ (ap (λ u. u.size) c.value_record_at-own.ensures) _ c.node_first-first.ensures c.put16.auto.s c.loop-i.invariant c.loop-i-test.true _ _ c.put_value-q.ensures

pub returns : goal.returns
returns c = let both = row_placed _ _ _ _ _ c.requires _ _ _ _ c.put16.ensures
    (columns_end _ _ _ _ _ c.requires _ (ap (λ u. u.size) c.value_record_at-own.ensures) _ c.node_first-first.ensures c.put16.auto.s c.loop-i.invariant c.loop-i-test.false) in
    record { next = both.0; out = both.1 }
