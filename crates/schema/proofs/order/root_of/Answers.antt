use Rattle.rules.specs.Format.{root_of}
use Rattle.schema.proofs.order.root_of.Goals as goal

pub returns-in-Block : goal.returns-in-Block
unfolding root_of
returns-in-Block c = rw c.in-Block.is c.block_root.ensures

pub returns-in-NoTable : goal.returns-in-NoTable
unfolding root_of
returns-in-NoTable c = rw c.in-NoTable.is

pub returns-in-NoEntry : goal.returns-in-NoEntry
unfolding root_of
returns-in-NoEntry c = rw c.in-NoEntry.is
