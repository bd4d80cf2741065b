-- The cases of the number.
-- Assumes nothing.
use Rattle.reads.proofs.Outcomes.{told, no_room, left_short, failed}
use Rattle.reads.proofs.outcome_of_last_read.Goals as goal

pub returns-then-last-eq0 : goal.returns-then-last-eq0
returns-then-last-eq0 c = told _ _ _ c.ranges.last c.if-last-eq0.true

pub returns-then-last-ne1 : goal.returns-then-last-ne1
returns-then-last-ne1 c = failed _ _ _ c.if-last-eq0.false c.if-last-ne1.true

pub returns-then-full : goal.returns-then-full
returns-then-full c = no_room _ _ _ c.ranges.last c.if-last-ne1.false c.if-full.true

pub returns-else-full : goal.returns-else-full
returns-else-full c = left_short _ _ _ c.ranges.last c.if-last-ne1.false c.if-full.false
