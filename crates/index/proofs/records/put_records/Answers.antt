-- At each turn the records of the rows that are left are still to be written.
-- Assumes nothing.
use mathlib.Core.Logic.{inl}
use native.Mathlib.Omega.{arith}
use Rattle.row.proofs.Laws.{row_told, other_told}
use Rattle.index.proofs.Passes.{writing_first, asked, reads_row, turn_goes, turn_short, row_left, record_room_lem, writing_on, written}
use Rattle.index.proofs.records.put_records.Goals as goal

pub loop-at-init : goal.loop-at-init
loop-at-init c = writing_first _ _ _ _ _ _ c.requires.few c.requires.starts

pub row_at-read-requires : goal.row_at-read-requires
row_at-read-requires c = asked _ _ _ (λ j. omega (arith, c.type_inv.input j)) c.requires.ended _ _ c.loop-at.invariant.passing (inl c.loop-at-test.true)

pub shape_of-index-in_default : goal.shape_of-index-in_default
shape_of-index-in_default c = c.loop-at.invariant.same

pub returns-in_default : goal.returns-in_default
returns-in_default c = absurd (reads_row _ _ _ (λ j. omega (arith, c.type_inv.input j)) c.requires.ended _ _ c.loop-at.invariant.passing (inl c.loop-at-test.true) _ c.row_at-read.ensures (other_told _ c.in_default.not-Ok))

pub put_index_record-requires : goal.put_index_record-requires
put_index_record-requires c = record_room_lem _ _ _ (λ j. omega (arith, c.type_inv.input j)) c.requires.ended _ _ _ _ _ c.loop-at.invariant c.loop-at-test.true _ c.row_at-read.ensures _ (row_told _ _ c.in-Ok.is) c.requires.within

pub overflow_add-at : goal.overflow_add-at
overflow_add-at c = let g = turn_goes _ _ _ (λ j. omega (arith, c.type_inv.input j)) c.requires.ended _ _ c.loop-at.invariant.passing (inl c.loop-at-test.true) _ c.row_at-read.ensures _ (row_told _ _ c.in-Ok.is) in
    let h = turn_short _ _ _ (λ j. omega (arith, c.type_inv.input j)) c.requires.ended _ _ c.loop-at.invariant.passing (inl c.loop-at-test.true) _ c.row_at-read.ensures _ (row_told _ _ c.in-Ok.is) in
    omega (arith, g, h)

pub overflow_add-i : goal.overflow_add-i
overflow_add-i c = let g = row_left _ _ _ (λ j. omega (arith, c.type_inv.input j)) c.requires.ended _ _ c.loop-at.invariant.passing (inl c.loop-at-test.true) _ c.row_at-read.ensures _ (row_told _ _ c.in-Ok.is) in
    omega (arith, g, c.requires.within)

pub loop-at-smaller : goal.loop-at-smaller
loop-at-smaller c = let g = turn_goes _ _ _ (λ j. omega (arith, c.type_inv.input j)) c.requires.ended _ _ c.loop-at.invariant.passing (inl c.loop-at-test.true) _ c.row_at-read.ensures _ (row_told _ _ c.in-Ok.is) in
    omega (arith, g)

pub loop-at-preserved : goal.loop-at-preserved
loop-at-preserved c = writing_on _ _ _ (λ j. omega (arith, c.type_inv.input j)) c.requires.ended _ _ _ _ _ c.loop-at.invariant c.loop-at-test.true _ c.row_at-read.ensures _ (row_told _ _ c.in-Ok.is) _ c.put_index_record.ensures

pub shape_of-index : goal.shape_of-index
shape_of-index c = c.loop-at.invariant.same

pub returns : goal.returns
returns c = written _ _ _ (λ j. omega (arith, c.type_inv.input j)) c.requires.ended _ _ _ _ _ c.loop-at.invariant c.loop-at-test.false
