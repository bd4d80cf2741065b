-- Each test as it is met.
use borrow.Author.Tests.{le-leb, lt-leb}
use Rattle.rules.specs.Choice.{◌and◌}
use Rattle.rules.specs.Reading.{settings_ok}
use Rattle.rules.proofs.settings.Settings.within_bounds.Goals as goal

pub returns-then-charge-lt1 : goal.returns-then-charge-lt1
unfolding settings_ok ◌and◌
returns-then-charge-lt1 c = rw (lt-leb _ _ c.if-charge-lt1.true)

pub returns-then-charge-gt-MAX_NODE_CHARGE : goal.returns-then-charge-gt-MAX_NODE_CHARGE
unfolding settings_ok ◌and◌
returns-then-charge-gt-MAX_NODE_CHARGE c = rw (le-leb _ _ c.if-charge-lt1.false, lt-leb _ _ c.if-charge-gt-MAX_NODE_CHARGE.true)

pub returns-then-string32-gt-MAX_LIMIT : goal.returns-then-string32-gt-MAX_LIMIT
unfolding settings_ok ◌and◌
returns-then-string32-gt-MAX_LIMIT c = rw (le-leb _ _ c.if-charge-lt1.false, le-leb _ _ c.if-charge-gt-MAX_NODE_CHARGE.false, lt-leb _ _ c.if-string32-gt-MAX_LIMIT.true)

pub returns-then-yson32-gt-MAX_LIMIT : goal.returns-then-yson32-gt-MAX_LIMIT
unfolding settings_ok ◌and◌
returns-then-yson32-gt-MAX_LIMIT c = rw (le-leb _ _ c.if-charge-lt1.false, le-leb _ _ c.if-charge-gt-MAX_NODE_CHARGE.false, le-leb _ _ c.if-string32-gt-MAX_LIMIT.false, lt-leb _ _ c.if-yson32-gt-MAX_LIMIT.true)

pub returns : goal.returns
unfolding settings_ok ◌and◌
returns c = rw (le-leb _ _ c.if-charge-lt1.false, le-leb _ _ c.if-charge-gt-MAX_NODE_CHARGE.false, le-leb _ _ c.if-string32-gt-MAX_LIMIT.false, le-leb _ _ c.if-yson32-gt-MAX_LIMIT.false)
