use Rattle.answers.proofs.Told.{written_row, written_refused}
use Rattle.answers.proofs.answer_of_written.Goals as goal

pub returns-in-Ok : goal.returns-in-Ok
returns-in-Ok c = written_row _ _ _ c.in-Ok.is c.answer_of_read.ensures

pub returns-in-Err : goal.returns-in-Err
returns-in-Err c = written_refused _ _ _ c.in-Err.is c.answer_of_read-in-Err.ensures
