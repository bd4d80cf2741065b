use Rattle.skiff.specs.Calls.{run_window_given}
use Rattle.answers.specs.Answers.{answer_of_window}
use Rattle.skiff.proofs.Laws.{short_given, room_given}
use Rattle.skiff.proofs.window.skiff2_run_window.Goals as goal

pub returns-then-answer-lt-ANSWER : goal.returns-then-answer-lt-ANSWER
unfolding run_window_given
returns-then-answer-lt-ANSWER c = short_given _ _ c.if-answer-lt-ANSWER.true

pub returns : goal.returns
unfolding run_window_given
returns c = room_given answer_of_window _ _ _ _ _ _ c.if-answer-lt-ANSWER.false c.answer_of_window.ensures c.run_after-ran.ensures c.give.ensures
