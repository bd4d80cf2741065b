use Rattle.write.proofs.Rows.{no_room, has_room}
use Rattle.write.proofs.steps.room_for.Goals as goal

pub returns-then-room_in-at : goal.returns-then-room_in-at
returns-then-room_in-at c = no_room _ _ _ _ c.room_in.ensures c.requires c.if-room_in-at.true

pub returns : goal.returns
returns c = has_room _ _ _ _ c.room_in.ensures c.requires c.if-room_in-at.false
