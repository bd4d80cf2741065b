use Rattle.skiff.specs.Calls.{skip_given}
use Rattle.answers.specs.Answers.{answer_of_read}
use Rattle.skiff.proofs.Laws.{short_given, room_given}
use Rattle.skiff.proofs.reading.skiff2_skip.Goals as goal

pub returns-then-answer-lt-ANSWER : goal.returns-then-answer-lt-ANSWER
unfolding skip_given
returns-then-answer-lt-ANSWER c = short_given _ _ c.if-answer-lt-ANSWER.true

pub returns : goal.returns
unfolding skip_given
returns c = room_given answer_of_read _ _ _ _ _ _ c.if-answer-lt-ANSWER.false c.answer_of_read.ensures c.skip_row-read.ensures c.give.ensures
