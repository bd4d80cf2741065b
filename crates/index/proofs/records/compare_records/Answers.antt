use mathlib.Core.Bool.{not}
use mathlib.Core.Path.{ap}
-- At each turn the records so far are those of the rows so far.
-- Assumes nothing.
use mathlib.Core.Logic.{inr}
use native.Mathlib.Omega.{arith}
use Rattle.row.proofs.Laws.{row_told, other_told}
use Rattle.index.proofs.Passes.{comparing_first, asked, reads_row, turn_goes, turn_short, not_same, told_same, comparing_on, compared_same, compared_other}
use Rattle.index.proofs.records.compare_records.Goals as goal

pub loop-i-init : goal.loop-i-init
loop-i-init c = comparing_first _ _ _ _ _

pub row_at-read-requires : goal.row_at-read-requires
row_at-read-requires c = asked _ _ _ (λ j. omega (arith, c.type_inv.input j)) c.requires.ended _ _ c.loop-i.invariant.passing (inr (omega (arith, c.loop-i-test.true, c.requires.few)))

pub returns-in_default : goal.returns-in_default
returns-in_default c = absurd (reads_row _ _ _ (λ j. omega (arith, c.type_inv.input j)) c.requires.ended _ _ c.loop-i.invariant.passing (inr (omega (arith, c.loop-i-test.true, c.requires.few))) _ c.row_at-read.ensures (other_told _ c.in_default.not-Ok))

pub index_record_at-requires : goal.index_record_at-requires
index_record_at-requires c = omega (arith, c.loop-i-test.true, c.requires.within)

pub returns-then-not-same_span : goal.returns-then-not-same_span
returns-then-not-same_span c = compared_other _ _ _ (λ j. omega (arith, c.type_inv.input j)) c.requires.ended _ _ (λ j. omega (arith, c.type_inv.index j)) c.requires.few c.requires.within _ _ c.loop-i.invariant c.loop-i-test.true _ c.row_at-read.ensures _ (row_told _ _ c.in-Ok.is) (λ z. not_same _ _ _ _ (ap not c.if-not-same_span.true) c.same_span.ensures c.index_record_at.ensures z)

pub overflow_add-at : goal.overflow_add-at
overflow_add-at c = let g = turn_goes _ _ _ (λ j. omega (arith, c.type_inv.input j)) c.requires.ended _ _ c.loop-i.invariant.passing (inr (omega (arith, c.loop-i-test.true, c.requires.few))) _ c.row_at-read.ensures _ (row_told _ _ c.in-Ok.is) in
    let h = turn_short _ _ _ (λ j. omega (arith, c.type_inv.input j)) c.requires.ended _ _ c.loop-i.invariant.passing (inr (omega (arith, c.loop-i-test.true, c.requires.few))) _ c.row_at-read.ensures _ (row_told _ _ c.in-Ok.is) in
    omega (arith, g, h)

pub loop-i-preserved : goal.loop-i-preserved
loop-i-preserved c = comparing_on _ _ _ (λ j. omega (arith, c.type_inv.input j)) c.requires.ended _ _ (λ j. omega (arith, c.type_inv.index j)) c.requires.few c.requires.within _ _ c.loop-i.invariant c.loop-i-test.true _ c.row_at-read.ensures _ (row_told _ _ c.in-Ok.is) (told_same _ _ _ _ (ap not c.if-not-same_span.false) c.same_span.ensures c.index_record_at.ensures)

pub returns : goal.returns
returns c = compared_same _ _ _ (λ j. omega (arith, c.type_inv.input j)) c.requires.ended _ _ (λ j. omega (arith, c.type_inv.index j)) c.requires.few c.requires.within _ _ c.loop-i.invariant c.loop-i-test.false
