-- Table, then length.
-- Assumes nothing.
use borrow.Author.Tests.{eq-eqb, ne_eqb}
use Rattle.rules.specs.Choice.{pick, ◌and◌}
use Rattle.rules.specs.Index.{is_that_row}
use Rattle.indexed_row.proofs.is_that_row.Goals as goal

pub returns-then-row-indexed : goal.returns-then-row-indexed
unfolding is_that_row ◌and◌ pick
returns-then-row-indexed c = rw (ne_eqb _ _ c.if-row-indexed.true)

pub returns : goal.returns
unfolding is_that_row ◌and◌ pick
returns c = rw (eq-eqb _ _ c.if-row-indexed.false)
