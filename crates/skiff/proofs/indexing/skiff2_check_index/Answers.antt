use Rattle.skiff.specs.Calls.{check_index_given}
use Rattle.answers.specs.Answers.{answer_of_ran}
use Rattle.skiff.proofs.Laws.{short_given, room_given}
use Rattle.skiff.proofs.indexing.skiff2_check_index.Goals as goal

pub returns-then-answer-lt-ANSWER : goal.returns-then-answer-lt-ANSWER
unfolding check_index_given
returns-then-answer-lt-ANSWER c = short_given _ _ c.if-answer-lt-ANSWER.true

pub returns : goal.returns
unfolding check_index_given
returns c = room_given answer_of_ran _ _ _ _ _ _ c.if-answer-lt-ANSWER.false c.answer_of_ran.ensures c.check_index-ran.ensures c.give.ensures
