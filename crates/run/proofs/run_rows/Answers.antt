-- The run goes on as long as skip accepts; what is left comes to the whole.
-- Assumes nothing.
use mathlib.Core.Path.{refl, ap, ◌∙◌}
use native.Mathlib.Omega.{arith}
use Rattle.row.proofs.Laws.{block_asked, block_refused, found_walkable, found_told}
use Rattle.row.specs.Steps.{a_row}
use Rattle.run.proofs.Runs.{going_first, row_inside, going_on, ends_refused, ends_last}
use Rattle.run.proofs.run_rows.Goals as goal

pub loop-at-init : goal.loop-at-init
loop-at-init c = going_first _ _ _

pub block_at-found-requires : goal.block_at-found-requires
block_at-found-requires c = block_asked _ _ _ _ (c.requires, c.loop-at.invariant.within)

pub returns-in_default : goal.returns-in_default
returns-in_default c = c.ran_to.ensures ∙ ends_refused _ _ _ _ _ c.loop-at.invariant _ (block_refused _ _ _ _ c.block_at-found.ensures _ _ c.unwrap_err.ensures) c.loop-at-test.true _ refl

pub row_of-read-requires : goal.row_of-read-requires
row_of-read-requires c = found_walkable _ _ _ _ c.block_at-found.ensures _ c.in-Ok.is _ c.format.view_is _ c.requires

pub overflow_add-at : goal.overflow_add-at
unfolding a_row
overflow_add-at c = omega (arith, row_inside _ _ _ _ _ c.loop-at.invariant _ (found_told _ _ _ _ c.block_at-found.ensures _ c.in-Ok.is _ c.format.view_is _ _ c.row_of-read.ensures) c.loop-at-test.true (λ j. omega (arith, c.type_inv.input j)) _ (ap a_row c.in-Ok-read.is), c.requires.short)

pub overflow_add-rows : goal.overflow_add-rows
overflow_add-rows c = omega (arith, c.loop-at.invariant.few, c.loop-at.invariant.within, c.requires.short)

pub loop-at-smaller : goal.loop-at-smaller
unfolding a_row
loop-at-smaller c = omega (arith, row_inside _ _ _ _ _ c.loop-at.invariant _ (found_told _ _ _ _ c.block_at-found.ensures _ c.in-Ok.is _ c.format.view_is _ _ c.row_of-read.ensures) c.loop-at-test.true (λ j. omega (arith, c.type_inv.input j)) _ (ap a_row c.in-Ok-read.is))

pub loop-at-preserved : goal.loop-at-preserved
unfolding a_row
loop-at-preserved c = going_on _ _ _ _ _ c.loop-at.invariant _ (found_told _ _ _ _ c.block_at-found.ensures _ c.in-Ok.is _ c.format.view_is _ _ c.row_of-read.ensures) c.loop-at-test.true (λ j. omega (arith, c.type_inv.input j)) _ (ap a_row c.in-Ok-read.is)

pub returns-in_default-read : goal.returns-in_default-read
unfolding a_row
returns-in_default-read c = c.ran_to-in_default-read.ensures ∙ ends_refused _ _ _ _ _ c.loop-at.invariant _ (found_told _ _ _ _ c.block_at-found.ensures _ c.in-Ok.is _ c.format.view_is _ _ c.row_of-read.ensures) c.loop-at-test.true _ (ap a_row c.unwrap_err-in_default-read.ensures)

pub returns : goal.returns
returns c = c.ran_to-2.ensures ∙ ends_last _ _ _ _ _ c.loop-at.invariant c.loop-at-test.false
