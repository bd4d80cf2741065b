use Rattle.answers.proofs.Told.{number_told, view_refused}
use Rattle.answers.proofs.answer_of_viewed.Goals as goal

pub returns-in-Ok : goal.returns-in-Ok
returns-in-Ok c = number_told _ _ _ c.in-Ok.is c.no_refusal.ensures

pub returns-in-Err : goal.returns-in-Err
returns-in-Err c = view_refused _ _ _ c.in-Err.is c.answer_of_read.ensures
