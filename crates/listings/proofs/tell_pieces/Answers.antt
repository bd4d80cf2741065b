-- Piece after piece: what is left is the pieces from a position on.
-- Assumes nothing.
use Rattle.std.proofs.Common.{arith}
use Rattle.listings.proofs.Telling.{row_end, last_end, telling_first, row_handed, row_goes, row_told, last_handed, never}
use Rattle.listings.proofs.tell_pieces.Goals as goal

pub loop-end-init : goal.loop-end-init
loop-end-init g c = telling_first _ _ _

pub hand_on-requires : goal.hand_on-requires
hand_on-requires g c =
    let p = c.put_piece-shown in
    let h = row_end _ _ _ c.in-Row.is p.ensures.result_bound in
    (row_handed _ _ _ _ _ c.loop-end.invariant _ (omega (arith, c.loop-end.auto.text, c.requires)) _ p.ensures.text_after _ _ c.in-Row.is h, omega (arith, h, p.auto.text, c.loop-end.auto.text, c.requires))

pub overflow_add-at : goal.overflow_add-at
overflow_add-at g c =
    let p = c.put_piece-shown in
    let goes = row_goes _ _ _ _ _ c.loop-end.invariant _ (omega (arith, c.loop-end.auto.text, c.requires)) _ p.ensures.text_after (λ j. omega (arith, c.type_inv.stream j)) _ _ c.in-Row.is (row_end _ _ _ c.in-Row.is p.ensures.result_bound) in
    omega (arith, goes, c.well_formed)

pub loop-end-smaller : goal.loop-end-smaller
loop-end-smaller g c =
    let p = c.put_piece-shown in
    let goes = row_goes _ _ _ _ _ c.loop-end.invariant _ (omega (arith, c.loop-end.auto.text, c.requires)) _ p.ensures.text_after (λ j. omega (arith, c.type_inv.stream j)) _ _ c.in-Row.is (row_end _ _ _ c.in-Row.is p.ensures.result_bound) in
    omega (arith, goes)

pub loop-end-preserved : goal.loop-end-preserved
loop-end-preserved g c =
    let p = c.put_piece-shown in
    row_told _ _ _ _ _ c.loop-end.invariant _ (omega (arith, c.loop-end.auto.text, c.requires)) _ p.ensures.text_after (λ j. omega (arith, c.type_inv.stream j)) _ _ c.in-Row.is (row_end _ _ _ c.in-Row.is p.ensures.result_bound)

pub hand_on-requires-in-Last : goal.hand_on-requires-in-Last
hand_on-requires-in-Last g c =
    let p = c.put_piece-shown in
    let h = last_end _ _ c.in-Last.is p.ensures.result_bound in
    ((last_handed _ _ _ _ _ c.loop-end.invariant _ (omega (arith, c.loop-end.auto.text, c.requires)) _ p.ensures.text_after _ c.in-Last.is h).0, omega (arith, h, p.auto.text, c.loop-end.auto.text, c.requires))

pub returns-in-Last : goal.returns-in-Last
returns-in-Last g c =
    let p = c.put_piece-shown in
    (last_handed _ _ _ _ _ c.loop-end.invariant _ (omega (arith, c.loop-end.auto.text, c.requires)) _ p.ensures.text_after _ c.in-Last.is (last_end _ _ c.in-Last.is p.ensures.result_bound)).1

pub returns-in-NoRoom : goal.returns-in-NoRoom
returns-in-NoRoom g c = never _ _ _ _ _ c.loop-end.invariant _ (omega (arith, c.loop-end.auto.text, c.requires)) _ c.put_piece-shown.ensures.text_after c.in-NoRoom.is
