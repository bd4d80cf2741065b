use Rattle.skiff.specs.Calls.{run_given}
use Rattle.answers.specs.Answers.{answer_of_ran}
use Rattle.skiff.proofs.Laws.{short_given, room_given}
use Rattle.skiff.proofs.reading.skiff2_run.Goals as goal

pub returns-then-answer-lt-ANSWER : goal.returns-then-answer-lt-ANSWER
unfolding run_given
returns-then-answer-lt-ANSWER c = short_given _ _ c.if-answer-lt-ANSWER.true

pub returns : goal.returns
unfolding run_given
returns c = room_given answer_of_ran _ _ _ _ _ _ c.if-answer-lt-ANSWER.false c.answer_of_ran.ensures c.run-ran.ensures c.give.ensures
