use Rattle.skiff.specs.Calls.{decode_given}
use Rattle.skiff.proofs.Laws.{short_row, room_row}
use Rattle.skiff.proofs.reading.skiff2_decode.Goals as goal

pub returns-then-answer-lt-ANSWER : goal.returns-then-answer-lt-ANSWER
unfolding decode_given
returns-then-answer-lt-ANSWER c = short_row _ _ _ _ c.if-answer-lt-ANSWER.true

pub returns : goal.returns
unfolding decode_given
returns c = room_row _ _ _ _ _ _ _ _ _ _ c.if-answer-lt-ANSWER.false c.answer_of_read.ensures c.next_row-read.ensures c.give.ensures
