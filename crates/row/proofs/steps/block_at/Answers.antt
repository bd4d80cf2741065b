-- Each return by what was read on its way.
-- Assumes nothing.
use Rattle.std.proofs.lemmas.Result.{err_from_is_err_and}
use Rattle.row.specs.Steps.{row_block_in, row_block_by}
use Rattle.row.proofs.steps.block_at.Goals as goal

pub returns-in_err-tag : goal.returns-in_err-tag
unfolding row_block_by
returns-in_err-tag c =
    let p = err_from_is_err_and c.from_residual.result c.from_residual.ensures.1 in
    rw (p.1, p.2, ← c.read_table.ensures, c.in_err-tag.was)

pub returns-in-Block : goal.returns-in-Block
unfolding row_block_by row_block_in
returns-in-Block c = rw (← c.read_table.ensures, c.in_ok-tag.was, ← c.table_schema-found.ensures, c.in-Block.is)

pub returns-in-NoTable : goal.returns-in-NoTable
unfolding row_block_by row_block_in
returns-in-NoTable c = rw (← c.read_table.ensures, c.in_ok-tag.was, ← c.table_schema-found.ensures, c.in-NoTable.is)

pub returns-in-NoEntry : goal.returns-in-NoEntry
unfolding row_block_by row_block_in
returns-in-NoEntry c = rw (← c.read_table.ensures, c.in_ok-tag.was, ← c.table_schema-found.ensures, c.in-NoEntry.is)
