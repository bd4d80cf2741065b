-- Each return by what the run answered and what was compared and tested after it.
-- Assumes nothing.
use Rattle.index.proofs.Calls.{not_end, not_other, extend_beyond, extend_refused, extend_few, extend_comparable, extend_other, extend_no_room, extend_writable, extend_put}
use Rattle.index.proofs.extend_index.Goals as goal

pub returns-then-room-old : goal.returns-then-room-old
returns-then-room-old c = rw c.refused_after.ensures (extend_beyond _ _ _ _ _ _ _ c.room_in.ensures c.index_records_in-room.ensures c.if-room-old.true)

pub returns-in_default : goal.returns-in_default
returns-in_default c = extend_refused _ _ _ _ _ _ _ c.room_in.ensures c.index_records_in-room.ensures c.if-room-old.false _ c.run-ran.ensures (not_end _ _ c.in_default.is)

pub returns-then-ran-old : goal.returns-then-ran-old
returns-then-ran-old c = rw c.refused_after-then-ran-old.ensures (extend_few _ _ _ _ _ _ _ c.room_in.ensures c.index_records_in-room.ensures c.if-room-old.false _ c.run-ran.ensures c.in-Ok.is c.if-ran-old.true)

pub compare_records-compared-requires : goal.compare_records-compared-requires
compare_records-compared-requires c = extend_comparable _ _ _ _ c.args.index.now _ _ c.room_in.ensures c.index_records_in-room.ensures c.if-room-old.false _ c.run-ran.ensures c.in-Ok.is c.if-ran-old.false

pub returns-in_default-compared : goal.returns-in_default-compared
returns-in_default-compared c = rw c.refused_after-in_default-compared.ensures (extend_other _ _ _ _ _ _ _ c.room_in.ensures c.index_records_in-room.ensures c.if-room-old.false _ c.run-ran.ensures c.in-Ok.is c.if-ran-old.false _ c.compare_records-compared.ensures (not_other _ c.in_default-compared.is))

pub returns-then-room-ran : goal.returns-then-room-ran
returns-then-room-ran c = rw c.refused_after-then-room-ran.ensures (extend_no_room _ _ _ _ _ _ _ c.room_in.ensures c.index_records_in-room.ensures c.if-room-old.false _ c.run-ran.ensures c.in-Ok.is c.if-ran-old.false _ c.compare_records-compared.ensures _ c.in-Some.is c.if-room-ran.true)

pub put_records-requires : goal.put_records-requires
put_records-requires c = extend_writable _ _ _ _ c.args.index.now _ _ c.room_in.ensures c.index_records_in-room.ensures c.if-room-old.false _ c.run-ran.ensures c.in-Ok.is c.if-ran-old.false _ c.compare_records-compared.ensures _ c.in-Some.is c.if-room-ran.false

pub returns : goal.returns
returns c = extend_put _ _ _ _ _ _ _ c.room_in.ensures c.index_records_in-room.ensures c.if-room-old.false _ c.run-ran.ensures c.in-Ok.is c.if-ran-old.false _ c.compare_records-compared.ensures _ c.in-Some.is c.if-room-ran.false _ c.put_records.ensures
