use borrow.Author.Tests.{le-leb, lt-leb}
use Rattle.rules.specs.Choice.{◌and◌}
use Rattle.rules.specs.Format.{sizes_ok}
use Rattle.row.proofs.door.within_bounds.Goals as goal

-- Each test as it is met.
-- Assumes nothing.

pub returns-then-not-within_bounds : goal.returns-then-not-within_bounds
unfolding ◌and◌
returns-then-not-within_bounds c = rw (← c.within_bounds.ensures, c.if-not-within_bounds.true)

pub returns-then-format-gt-LONGEST : goal.returns-then-format-gt-LONGEST
unfolding sizes_ok ◌and◌
returns-then-format-gt-LONGEST c = rw (← c.format.view_is, ← c.within_bounds.ensures, c.if-not-within_bounds.false, lt-leb _ _ c.if-format-gt-LONGEST.true)

pub returns-then-format-gt-LONGEST-2 : goal.returns-then-format-gt-LONGEST-2
unfolding sizes_ok ◌and◌
returns-then-format-gt-LONGEST-2 c = rw (← c.format.view_is, ← c.within_bounds.ensures, c.if-not-within_bounds.false, le-leb _ _ c.if-format-gt-LONGEST.false, lt-leb _ _ c.if-format-gt-LONGEST-2.true)

pub returns-then-format-gt-LONGEST-3 : goal.returns-then-format-gt-LONGEST-3
unfolding sizes_ok ◌and◌
returns-then-format-gt-LONGEST-3 c = rw (← c.format.view_is, ← c.within_bounds.ensures, c.if-not-within_bounds.false, le-leb _ _ c.if-format-gt-LONGEST.false, le-leb _ _ c.if-format-gt-LONGEST-2.false, lt-leb _ _ c.if-format-gt-LONGEST-3.true)

pub returns-then-format-gt-LONGEST-4 : goal.returns-then-format-gt-LONGEST-4
unfolding sizes_ok ◌and◌
returns-then-format-gt-LONGEST-4 c = rw (← c.format.view_is, ← c.within_bounds.ensures, c.if-not-within_bounds.false, le-leb _ _ c.if-format-gt-LONGEST.false, le-leb _ _ c.if-format-gt-LONGEST-2.false, le-leb _ _ c.if-format-gt-LONGEST-3.false, lt-leb _ _ c.if-format-gt-LONGEST-4.true)

pub returns : goal.returns
unfolding sizes_ok ◌and◌
returns c = rw (← c.format.view_is, ← c.within_bounds.ensures, c.if-not-within_bounds.false, le-leb _ _ c.if-format-gt-LONGEST.false, le-leb _ _ c.if-format-gt-LONGEST-2.false, le-leb _ _ c.if-format-gt-LONGEST-3.false, le-leb _ _ c.if-format-gt-LONGEST-4.false)
