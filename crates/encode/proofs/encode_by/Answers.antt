-- Each return by the tests on its way.
-- Assumes nothing.
use Rattle.std.proofs.lemmas.Result.{err_from_is_err_and}
use mathlib.Core.Path.{refl}
use Rattle.encode.proofs.Laws.{form_refused, judgeable, row_encoded}
use Rattle.encode.proofs.encode_by.Goals as goal

pub place_flat_row-requires : goal.place_flat_row-requires
place_flat_row-requires c = let s = c in
    let seen = c.flat_row-now.ensures _ c.in-Some.is in
    (judgeable _ s.args.settings _ _ s.args.output.now s.args.at s.requires.0 _ seen.form refl, seen.row, s.requires.1)

pub returns-in-Some : goal.returns-in-Some
returns-in-Some c = let s = c in
    let seen = c.flat_row-now.ensures _ c.in-Some.is in
    row_encoded _ s.args.settings _ _ s.args.output.now s.args.at s.requires.0 _ seen.form refl _ _ c.place_flat_row.ensures.answer c.place_flat_row.ensures.out

pub write_row-requires : goal.write_row-requires
write_row-requires c = let s = c in
    (judgeable _ s.args.settings _ _ s.args.output.now s.args.at s.requires.0 _ c.table_form.ensures c.in_ok-table_form.was, s.requires.1)

pub returns-in_err-table_form : goal.returns-in_err-table_form
returns-in_err-table_form c =
    let p = err_from_is_err_and c.from_residual.result c.from_residual.ensures.1 in
    rw (p.1, p.2) (form_refused _ _ _ _ _ _ _ c.table_form.ensures _ c.in_err-table_form.was)

pub returns : goal.returns
returns c = let s = c in
    row_encoded _ s.args.settings _ _ s.args.output.now s.args.at s.requires.0 _ c.table_form.ensures c.in_ok-table_form.was _ _ c.write_row.ensures.answer c.write_row.ensures.out
