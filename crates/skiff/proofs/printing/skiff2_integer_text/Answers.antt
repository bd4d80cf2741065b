use mathlib.Core.Path.{ap}
use Rattle.rules.specs.Numerals.{TextLeft}
use Rattle.answers.specs.Answers.{answer_of_text}
use Rattle.skiff.specs.Calls.{integer_text_given}
use Rattle.skiff.proofs.Laws.{short_slice, room_slice}
use Rattle.skiff.proofs.printing.skiff2_integer_text.Goals as goal

pub returns-then-answer-lt-ANSWER : goal.returns-then-answer-lt-ANSWER
unfolding integer_text_given
returns-then-answer-lt-ANSWER c = short_slice _ _ _ _ c.if-answer-lt-ANSWER.true

pub returns : goal.returns
unfolding integer_text_given
returns c = let left = c.integer_text-written.ensures in
    room_slice answer_of_text _ _ _ _ _ _ _ _ _ c.if-answer-lt-ANSWER.false c.answer_of_text.ensures (ap (λ (d : TextLeft). d.answer) left) (ap (λ (d : TextLeft). d.text) left) c.give.ensures
