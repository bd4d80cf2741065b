-- The block is the part of the record table.
-- Assumes nothing.
use Rattle.decode.proofs.steps.fill_at.Goals as goal

pub fill_row-requires : goal.fill_row-requires
fill_row-requires c = rw c.block_of.ensures c.requires.fills

pub returns : goal.returns
returns c = record {
  records = rw c.block_of.ensures at c.fill_row.ensures.records;
  payload = rw c.block_of.ensures at c.fill_row.ensures.payload;
}
