use Rattle.std.proofs.lemmas.Result.{err_from_is_err_and}
use Rattle.write.proofs.Rows.{row_refused}
use Rattle.write.proofs.steps.write_row.Goals as goal

pub returns-in_err-p : goal.returns-in_err-p
returns-in_err-p c =
    let p = err_from_is_err_and c.from_residual.result c.from_residual.ensures.1 in
    rw (p.1, p.2) (let k = row_refused _ _ _ _ c.requires.0 _ c.judge_row.ensures _ _ _ c.in_err-p.was in record { answer = k.0; out = k.1 })
