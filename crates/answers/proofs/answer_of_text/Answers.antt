use Rattle.answers.proofs.Told.{text_told, text_refused}
use Rattle.answers.proofs.answer_of_text.Goals as goal

pub returns-in-Ok : goal.returns-in-Ok
returns-in-Ok c = text_told _ _ _ _ c.in-Ok.is c.no_refusal.ensures c.extent_of_bytes.ensures

pub returns-in-Err : goal.returns-in-Err
returns-in-Err c = text_refused _ _ _ c.in-Err.is c.answer_of_read.ensures
