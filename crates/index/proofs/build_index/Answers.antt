-- Each return by what the run answered and what was tested after it.
-- Assumes nothing.
use mathlib.Core.Path.{refl}
use native.Mathlib.Omega.{arith}
use Rattle.rules.specs.Reading.{byte_count}
use Rattle.index.proofs.Calls.{not_end, build_refused, build_no_room, build_put, writable}
use Rattle.index.proofs.build_index.Goals as goal

pub returns-in_default : goal.returns-in_default
returns-in_default c = build_refused _ _ _ _ c.run-ran.ensures (not_end _ _ c.in_default.is) _

pub returns-then-index_records_in-ran : goal.returns-then-index_records_in-ran
returns-then-index_records_in-ran c = rw c.refused_after.ensures (build_no_room _ _ _ _ c.run-ran.ensures c.in-Ok.is _ _ _ c.room_in.ensures c.index_records_in.ensures c.if-index_records_in-ran.true)

pub put_records-requires : goal.put_records-requires
put_records-requires c = writable _ _ _ _ c.run-ran.ensures c.in-Ok.is c.args.index.now 0 _ _ c.room_in.ensures c.index_records_in.ensures 0 (omega arith) (unfold byte_count in refl) c.if-index_records_in-ran.false

pub returns : goal.returns
returns c = build_put _ _ _ _ c.run-ran.ensures c.in-Ok.is _ _ _ c.room_in.ensures c.index_records_in.ensures c.if-index_records_in-ran.false _ c.put_records.ensures
