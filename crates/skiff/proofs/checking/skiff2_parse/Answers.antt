use Rattle.skiff.specs.Calls.{parse_given}
use Rattle.answers.specs.Answers.{answer_of_known}
use Rattle.skiff.proofs.Laws.{short_given, room_given}
use Rattle.skiff.proofs.checking.skiff2_parse.Goals as goal

pub returns-then-answer-lt-ANSWER : goal.returns-then-answer-lt-ANSWER
unfolding parse_given
returns-then-answer-lt-ANSWER c = short_given _ _ c.if-answer-lt-ANSWER.true

pub returns : goal.returns
unfolding parse_given
returns c = room_given answer_of_known _ _ _ _ _ _ c.if-answer-lt-ANSWER.false c.answer_of_known.ensures c.parse-known.ensures c.give.ensures
