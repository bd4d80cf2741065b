use Rattle.answers.proofs.Told.{checked_accepted, checked_refused}
use Rattle.answers.proofs.answer_of_checked.Goals as goal

pub returns-in-Ok : goal.returns-in-Ok
returns-in-Ok c = checked_accepted _ _ _ c.in-Ok.is c.no_refusal.ensures c.extent_of_bytes.ensures

pub returns-in-Err : goal.returns-in-Err
returns-in-Err c = checked_refused _ _ _ c.in-Err.is c.answer_of_read.ensures
