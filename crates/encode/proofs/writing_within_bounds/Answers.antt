use borrow.Author.Tests.{le-leb, lt-leb}
use Rattle.rules.specs.Choice.{◌and◌}
use Rattle.rules.specs.Reading.{room}
use Rattle.rules.specs.Writing.{encode_ok}
use Rattle.encode.proofs.Laws.{within_both, beyond_both}
use Rattle.encode.proofs.writing_within_bounds.Goals as goal

-- Each test as it is met.
-- Assumes nothing.

pub returns-then-not-within_bounds : goal.returns-then-not-within_bounds
unfolding encode_ok ◌and◌
returns-then-not-within_bounds c = rw (← c.within_bounds.ensures, c.if-not-within_bounds.true)

pub returns-then-table-gt-LONGEST : goal.returns-then-table-gt-LONGEST
unfolding encode_ok ◌and◌
returns-then-table-gt-LONGEST c = rw (← c.within_bounds.ensures, c.if-not-within_bounds.false, lt-leb _ _ c.if-table-gt-LONGEST.true)

pub returns-then-names-gt-LONGEST : goal.returns-then-names-gt-LONGEST
unfolding encode_ok ◌and◌
returns-then-names-gt-LONGEST c = rw (← c.within_bounds.ensures, c.if-not-within_bounds.false, le-leb _ _ c.if-table-gt-LONGEST.false, lt-leb _ _ c.if-names-gt-LONGEST.true)

pub returns-then-records-gt-LONGEST : goal.returns-then-records-gt-LONGEST
unfolding encode_ok ◌and◌
returns-then-records-gt-LONGEST c = rw (← c.within_bounds.ensures, c.if-not-within_bounds.false, le-leb _ _ c.if-table-gt-LONGEST.false, le-leb _ _ c.if-names-gt-LONGEST.false, lt-leb _ _ c.if-records-gt-LONGEST.true)

pub returns-then-payload-gt-LONGEST : goal.returns-then-payload-gt-LONGEST
unfolding encode_ok ◌and◌
returns-then-payload-gt-LONGEST c = rw (← c.within_bounds.ensures, c.if-not-within_bounds.false, le-leb _ _ c.if-table-gt-LONGEST.false, le-leb _ _ c.if-names-gt-LONGEST.false, le-leb _ _ c.if-records-gt-LONGEST.false, lt-leb _ _ c.if-payload-gt-LONGEST.true)

pub returns-then-position : goal.returns-then-position
unfolding encode_ok ◌and◌ room
returns-then-position c = rw (← c.within_bounds.ensures, c.if-not-within_bounds.false, le-leb _ _ c.if-table-gt-LONGEST.false, le-leb _ _ c.if-names-gt-LONGEST.false, le-leb _ _ c.if-records-gt-LONGEST.false, le-leb _ _ c.if-payload-gt-LONGEST.false, beyond_both _ _ _ c.if-position.true)

pub returns : goal.returns
unfolding encode_ok ◌and◌ room
returns c = rw (← c.within_bounds.ensures, c.if-not-within_bounds.false, le-leb _ _ c.if-table-gt-LONGEST.false, le-leb _ _ c.if-names-gt-LONGEST.false, le-leb _ _ c.if-records-gt-LONGEST.false, le-leb _ _ c.if-payload-gt-LONGEST.false) (within_both _ _ _ c.if-position.false)
