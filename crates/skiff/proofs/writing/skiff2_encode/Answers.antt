use mathlib.Core.Path.{ap}
use Rattle.rules.specs.Writing.{Encoded}
use Rattle.answers.specs.Answers.{answer_of_written}
use Rattle.skiff.specs.Calls.{encode_given}
use Rattle.skiff.proofs.Laws.{short_slice, room_slice}
use Rattle.skiff.proofs.writing.skiff2_encode.Goals as goal

pub returns-then-answer-lt-ANSWER : goal.returns-then-answer-lt-ANSWER
unfolding encode_given
returns-then-answer-lt-ANSWER c = short_slice _ _ _ _ c.if-answer-lt-ANSWER.true

pub returns : goal.returns
unfolding encode_given
returns c = let left = c.encode-written.ensures in
    room_slice answer_of_written _ _ _ _ _ _ _ _ _ c.if-answer-lt-ANSWER.false c.answer_of_written.ensures (ap (λ (d : Encoded). d.answer) left) (ap (λ (d : Encoded). d.output) left) c.give.ensures
