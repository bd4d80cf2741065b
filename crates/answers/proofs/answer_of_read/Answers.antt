use mathlib.Core.Path.{ap, ◌∙◌}
use Rattle.std.proofs.Common.{Ok}
use Rattle.answers.proofs.Told.{told_row, told_end, told_refused}
use Rattle.answers.proofs.answer_of_read.Goals as goal

pub returns-in-Some : goal.returns-in-Some
returns-in-Some c = told_row _ _ _ (c.in-Ok.is ∙ ap Ok c.in-Some.is) c.no_refusal.ensures

pub returns-in-None : goal.returns-in-None
returns-in-None c = told_end _ _ _ (c.in-Ok.is ∙ ap Ok c.in-None.is) c.no_refusal-in-None.ensures c.extent_of_bytes.ensures

pub returns-in-Err : goal.returns-in-Err
returns-in-Err c = told_refused _ _ _ _ c.in-Err.is c.in_numbers.ensures c.extent_of_bytes-in-Err.ensures
