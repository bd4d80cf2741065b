-- The cases of the number.
-- Assumes nothing.
use Rattle.reads.proofs.Outcomes.{table_long, table_whole, table_failed}
use Rattle.reads.proofs.table_read.Goals as goal

pub returns-then-end-space : goal.returns-then-end-space
returns-then-end-space c = table_long _ _ _ c.if-end-space.true

pub returns-then-last-eq0 : goal.returns-then-last-eq0
returns-then-last-eq0 c = table_whole _ _ _ c.if-end-space.false c.ranges.last c.if-last-eq0.true

pub returns-else-last-eq0 : goal.returns-else-last-eq0
returns-else-last-eq0 c = table_failed _ _ _ c.if-end-space.false c.if-last-eq0.false
