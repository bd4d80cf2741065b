-- Each test as it is met.
-- Assumes nothing.
use borrow.Author.Tests.{le-leb, lt-leb}
use Rattle.rules.specs.Choice.{pick}
use Rattle.rules.specs.Reading.{room_for}
use Rattle.decode.specs.Steps.{given_room}
use Rattle.decode.proofs.steps.room_for.Goals as goal

pub returns-then-records_in-row : goal.returns-then-records_in-row
unfolding room_for pick given_room
returns-then-records_in-row c = let whole = c in
    rw (lt-leb _ _ (rw (whole.records_in.ensures, whole.room_in.ensures) at c.if-records_in-row.true))

pub returns-then-room_in-row : goal.returns-then-room_in-row
unfolding room_for pick given_room
returns-then-room_in-row c = let whole = c in
    rw (le-leb _ _ (rw (whole.records_in.ensures, whole.room_in.ensures) at c.if-records_in-row.false), lt-leb _ _ (rw c.room_in-2.ensures at c.if-room_in-row.true))

pub returns : goal.returns
unfolding room_for pick given_room
returns c = let whole = c in
    rw (le-leb _ _ (rw (whole.records_in.ensures, whole.room_in.ensures) at c.if-records_in-row.false), le-leb _ _ (rw c.room_in-2.ensures at c.if-room_in-row.false))
