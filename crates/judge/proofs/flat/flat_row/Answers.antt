use native.Mathlib.Omega.{arith}
use mathlib.Core.Path.{sym, ◌∙◌}
use Rattle.judge.proofs.Columns.{row_said_lem, along_first, column_in, column_flat, along_next, row_seen}
use Rattle.judge.proofs.flat.flat_row.Goals as goal

pub loop-i-init : goal.loop-i-init
loop-i-init c = along_first _ _ _ c.requires _ _ c.value_record_at-own.ensures c.if-own-ne17.false _ _ c.node_first-first.ensures c.node_children-count.ensures c.if-own-count.false

pub overflow_add-column : goal.overflow_add-column
overflow_add-column c = omega (arith, column_in _ _ _ c.requires _ _ c.value_record_at-own.ensures c.if-own-ne17.false _ _ c.node_first-first.ensures c.node_children-count.ensures c.if-own-count.false c.loop-i.invariant c.loop-i-test.true, c.well_formed)

pub column_fits-requires : goal.column_fits-requires
column_fits-requires c = column_flat _ _ _ c.requires _ _ c.value_record_at-own.ensures c.if-own-ne17.false _ _ c.node_first-first.ensures c.node_children-count.ensures c.if-own-count.false c.loop-i.invariant c.loop-i-test.true

pub loop-i-preserved : goal.loop-i-preserved
loop-i-preserved c = along_next _ _ _ c.requires _ _ c.value_record_at-own.ensures c.if-own-ne17.false _ _ c.node_first-first.ensures c.node_children-count.ensures c.if-own-count.false c.loop-i.invariant c.loop-i-test.true _ (c.column_fits.ensures _ c.in_ok-r.was)

pub returns : goal.returns
returns c = λ q e.
    row_said_lem _ _ _ _ _ q e
    (row_seen _ _ _ c.requires _ _ c.value_record_at-own.ensures c.if-own-ne17.false _ _ c.node_first-first.ensures c.node_children-count.ensures c.if-own-count.false c.loop-i.invariant c.loop-i-test.false _ c.records_in-total.ensures (omega (arith, c.if-total-eq0.false)) _ c.record_ok.ensures (c.if-not-record_ok.false) c.if-q-total.false c.if-q-payload.false
    (λ j. omega (arith, c.type_inv.records j)) (sym c.whole_records.ensures ∙ c.if-not-whole_records.false))
