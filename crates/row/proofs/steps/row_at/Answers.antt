-- Each return by the block that was found on its way.
-- Assumes nothing.
use Rattle.std.proofs.lemmas.Result.{err_from_is_err_and}
use Rattle.row.specs.Steps.{a_row}
use Rattle.row.proofs.Laws.{block_asked, block_refused, found_walkable, found_told}
use Rattle.row.proofs.steps.row_at.Goals as goal

pub block_at-requires : goal.block_at-requires
block_at-requires c = block_asked _ _ _ _ c.requires

pub returns-in_err-found : goal.returns-in_err-found
unfolding a_row
returns-in_err-found c =
    let p = err_from_is_err_and c.from_residual.result c.from_residual.ensures.1 in
    rw (p.1, p.2) (block_refused _ _ _ _ c.block_at.ensures _ _ c.in_err-found.was)

pub row_of-requires : goal.row_of-requires
row_of-requires c = found_walkable _ _ _ _ c.block_at.ensures _ c.in_ok-found.was _ c.format.view_is _ c.requires.0

pub returns : goal.returns
returns c = found_told _ _ _ _ c.block_at.ensures _ c.in_ok-found.was _ c.format.view_is _ _ c.row_of.ensures
