use Rattle.std.proofs.lemmas.Result.{err_from_is_err_and}
use mathlib.Core.Path.{refl}
use Rattle.write.proofs.Rows.{row_answer, row_unplaced, row_writable, row_left}
use Rattle.write.proofs.steps.place_row.Goals as goal

pub returns-in_err-own : goal.returns-in_err-own
returns-in_err-own c =
    let p = err_from_is_err_and c.from_residual.result c.from_residual.ensures.1 in
    let k = row_unplaced _ _ _ _ c.requires.0 _ c.requires.1 _ _ _ refl _ c.room_for.ensures _ c.in_err-own.was in
    rw (p.1, p.2) (record { answer = k.0; out = k.1 })

pub put_row-requires : goal.put_row-requires
put_row-requires c = row_writable _ _ _ _ c.requires.0 _ c.requires.1 c.args.out.now _ _ refl _ c.room_for.ensures _ c.in_ok-own.was

pub returns : goal.returns
returns c = record { answer = row_answer _ _ _ _ c.requires.0 _ c.requires.1 _ _ _ refl _ c.room_for.ensures _ c.in_ok-own.was; out = row_left _ _ _ _ c.requires.0 _ c.requires.1 _ _ _ refl _ c.room_for.ensures _ c.in_ok-own.was _ c.put_row.ensures.out }
