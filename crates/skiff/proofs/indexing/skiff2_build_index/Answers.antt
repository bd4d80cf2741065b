use mathlib.Core.Path.{ap}
use Rattle.rules.specs.Index.{Indexed}
use Rattle.answers.specs.Answers.{answer_of_ran}
use Rattle.skiff.specs.Calls.{build_index_given}
use Rattle.skiff.proofs.Laws.{short_slice, room_slice}
use Rattle.skiff.proofs.indexing.skiff2_build_index.Goals as goal

pub returns-then-answer-lt-ANSWER : goal.returns-then-answer-lt-ANSWER
unfolding build_index_given
returns-then-answer-lt-ANSWER c = short_slice _ _ _ _ c.if-answer-lt-ANSWER.true

pub returns : goal.returns
unfolding build_index_given
returns c = let left = c.build_index-ran.ensures in
    room_slice answer_of_ran _ _ _ _ _ _ _ _ _ c.if-answer-lt-ANSWER.false c.answer_of_ran.ensures (ap (λ (d : Indexed). d.answer) left) (ap (λ (d : Indexed). d.index) left) c.give.ensures
