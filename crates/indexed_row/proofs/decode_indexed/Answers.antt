-- Each return by the test that it comes after.
-- Assumes nothing.
use Rattle.std.proofs.lemmas.Result.{err_from_is_err_and}
use native.Mathlib.Omega.{arith}
use Rattle.indexed_row.proofs.Laws.{accepted_not, long_index, door_refused, no_such_row, past_the_end, row_asked, row_found_there}
use Rattle.indexed_row.proofs.decode_indexed.Goals as goal

pub returns-then-index-gt-LONGEST : goal.returns-then-index-gt-LONGEST
returns-then-index-gt-LONGEST c = long_index _ _ _ _ _ _ _ c.if-index-gt-LONGEST.true

pub returns-in_err-door : goal.returns-in_err-door
returns-in_err-door c =
    let p = err_from_is_err_and c.from_residual.result c.from_residual.ensures.1 in
    rw (p.1, p.2) (door_refused _ _ _ _ _ _ _ c.if-index-gt-LONGEST.false _ c.door.ensures _ c.in_err-door.was)

pub returns-then-index_records_in-row : goal.returns-then-index_records_in-row
returns-then-index_records_in-row c = no_such_row _ _ _ _ _ _ _ c.if-index-gt-LONGEST.false _ c.door.ensures (accepted_not _ _ c.in_ok-door.was) _ c.index_records_in.ensures c.if-index_records_in-row.true

pub index_record_at-indexed-requires : goal.index_record_at-indexed-requires
index_record_at-indexed-requires c = omega (arith, c.if-index_records_in-row.false, c.index_records_in.ensures)

pub returns-then-input-indexed : goal.returns-then-input-indexed
returns-then-input-indexed c = past_the_end _ _ _ _ _ _ _ c.if-index-gt-LONGEST.false _ c.door.ensures (accepted_not _ _ c.in_ok-door.was) _ c.index_records_in.ensures c.if-index_records_in-row.false _ c.index_record_at-indexed.ensures c.if-input-indexed.true

pub decode_record-requires : goal.decode_record-requires
decode_record-requires c = row_asked _ _ _ _ _ c.args.records.now c.args.payload.now c.if-index-gt-LONGEST.false _ c.door.ensures (accepted_not _ _ c.in_ok-door.was) _ c.index_records_in.ensures c.if-index_records_in-row.false _ c.index_record_at-indexed.ensures c.if-input-indexed.false

pub returns : goal.returns
returns c = row_found_there _ _ _ _ _ _ _ c.if-index-gt-LONGEST.false _ c.door.ensures (accepted_not _ _ c.in_ok-door.was) _ c.index_records_in.ensures c.if-index_records_in-row.false _ c.index_record_at-indexed.ensures c.if-input-indexed.false _ c.decode_record.ensures
