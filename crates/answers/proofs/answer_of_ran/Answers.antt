use Rattle.answers.proofs.Told.{ran_end, ran_refused}
use Rattle.answers.proofs.answer_of_ran.Goals as goal

pub returns-in-Ok : goal.returns-in-Ok
returns-in-Ok c = ran_end _ _ _ _ _ c.in-Ok.is c.no_refusal.ensures c.extent_of_bytes.ensures

pub returns-in-Err : goal.returns-in-Err
returns-in-Err c = ran_refused _ _ _ _ _ _ c.in-Err.is c.in_numbers.ensures c.extent_of_bytes-in-Err.ensures
