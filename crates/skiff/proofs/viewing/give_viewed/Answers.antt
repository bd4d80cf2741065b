use mathlib.Core.Path.{refl}
use Rattle.skiff.specs.Calls.{view_given}
use Rattle.answers.specs.Answers.{answer_of_viewed}
use Rattle.skiff.proofs.Laws.{short_given, room_given}
use Rattle.skiff.proofs.viewing.give_viewed.Goals as goal

pub returns-then-answer-lt-ANSWER : goal.returns-then-answer-lt-ANSWER
unfolding view_given
returns-then-answer-lt-ANSWER c = short_given _ _ c.if-answer-lt-ANSWER.true

pub returns : goal.returns
unfolding view_given
returns c = room_given answer_of_viewed _ _ _ _ _ _ c.if-answer-lt-ANSWER.false c.answer_of_viewed.ensures refl c.give.ensures
