use Rattle.skiff.specs.Calls.{value_given}
use Rattle.answers.specs.Answers.{answer_of_queried}
use Rattle.skiff.proofs.Laws.{short_given, room_given, says_bits}
use Rattle.skiff.proofs.querying.skiff2_value.Goals as goal

pub returns-then-answer-lt-ANSWER : goal.returns-then-answer-lt-ANSWER
unfolding value_given
returns-then-answer-lt-ANSWER c = short_given _ _ c.if-answer-lt-ANSWER.true

pub answer_of_queried-requires : goal.answer_of_queried-requires
answer_of_queried-requires c = says_bits _ _ _ c.value_of-queried.ensures

pub returns : goal.returns
unfolding value_given
returns c = room_given answer_of_queried _ _ _ _ _ _ c.if-answer-lt-ANSWER.false c.answer_of_queried.ensures c.value_of-queried.ensures c.give.ensures
