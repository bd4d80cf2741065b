use Rattle.rules.specs.Choice.{pick}
use Rattle.answers.proofs.Told.{window_told}
use Rattle.skiff.proofs.window.answer_of_window.Goals as goal

pub returns-then-goes_on : goal.returns-then-goes_on
unfolding pick
returns-then-goes_on c = window_told _ _ _ _ _ c.answer_of_ran-ran.ensures (rw (← c.goes_on.ensures, c.if-goes_on.true))

pub returns-else-goes_on : goal.returns-else-goes_on
unfolding pick
returns-else-goes_on c = window_told _ _ _ _ _ c.answer_of_ran-ran.ensures (rw (← c.goes_on.ensures, c.if-goes_on.false))
