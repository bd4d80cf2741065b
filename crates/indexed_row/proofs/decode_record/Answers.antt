-- Each return by what was found, judged, held to the record and tested on its way.
-- Assumes nothing.
use Rattle.std.proofs.lemmas.Result.{err_from_is_err_and}
use native.Mathlib.Omega.{arith}
use mathlib.Core.Path.{refl}
use Rattle.row.proofs.Laws.{block_asked, block_refused, found_walkable}
use Rattle.decode.proofs.Laws.{refused_filled, found_granted}
use Rattle.indexed_row.proofs.Laws.{refused_row, none_there, another_there, no_room_there, filled_there}
use Rattle.indexed_row.proofs.decode_record.Goals as goal

pub block_at-requires : goal.block_at-requires
block_at-requires c = block_asked _ _ _ _ c.requires

pub returns-in_err-found : goal.returns-in_err-found
returns-in_err-found c =
    let p = err_from_is_err_and c.from_residual.result c.from_residual.ensures.1 in
    let r = block_refused _ _ _ _ c.block_at.ensures _ _ c.in_err-found.was in
    rw (p.1, p.2) (refused_row _ _ _ _ _ _ _ r _ refl _ (refused_filled _ _ _ _ _ _ refl r))

pub row_of-requires : goal.row_of-requires
row_of-requires c = found_walkable _ _ _ _ c.block_at.ensures _ c.in_ok-found.was _ c.format.view_is _ c.requires.0

pub returns-in_err-row : goal.returns-in_err-row
returns-in_err-row c =
    let p = err_from_is_err_and c.from_residual-in_err-row.result c.from_residual-in_err-row.ensures.1 in
    rw (p.1, p.2) (none_there _ _ _ _ _ c.block_at.ensures _ c.in_ok-found.was _ c.format.view_is (λ j. omega (arith, c.type_inv.input j)) _ _ _ c.row_of.ensures _ c.in_err-row.was)

pub returns-then-not-is_that_row : goal.returns-then-not-is_that_row
returns-then-not-is_that_row c = another_there _ _ _ _ _ c.block_at.ensures _ c.in_ok-found.was _ c.format.view_is (λ j. omega (arith, c.type_inv.input j)) _ _ _ c.row_of.ensures _ c.in_ok-row.was _ c.is_that_row.ensures c.if-not-is_that_row.true

pub returns-in_err-room_for : goal.returns-in_err-room_for
returns-in_err-room_for c =
    let p = err_from_is_err_and c.from_residual-in_err-room_for.result c.from_residual-in_err-room_for.ensures.1 in
    rw (p.1, p.2) (no_room_there _ _ _ _ _ c.block_at.ensures _ c.in_ok-found.was _ c.format.view_is (λ j. omega (arith, c.type_inv.input j)) _ _ _ c.row_of.ensures _ c.in_ok-row.was _ c.is_that_row.ensures c.if-not-is_that_row.false _ c.room_for.ensures _ c.in_err-room_for.was)

pub fill_at-requires : goal.fill_at-requires
fill_at-requires c = found_granted _ _ _ _ _ c.block_at.ensures _ c.in_ok-found.was _ c.format.view_is (λ j. omega (arith, c.type_inv.input j)) _ _ _ c.row_of.ensures _ c.in_ok-row.was _ c.room_for.ensures _ c.requires.0 c.in_ok-room_for.was

pub returns : goal.returns
returns c = filled_there _ _ _ _ _ c.block_at.ensures _ c.in_ok-found.was _ c.format.view_is (λ j. omega (arith, c.type_inv.input j)) _ _ _ c.row_of.ensures _ c.in_ok-row.was _ c.is_that_row.ensures c.if-not-is_that_row.false _ c.room_for.ensures c.in_ok-room_for.was _ _ c.fill_at.ensures.records c.fill_at.ensures.payload
