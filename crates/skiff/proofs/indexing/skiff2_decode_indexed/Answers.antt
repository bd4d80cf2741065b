use Rattle.skiff.specs.Calls.{decode_indexed_given}
use Rattle.skiff.proofs.Laws.{short_row, room_row}
use Rattle.skiff.proofs.indexing.skiff2_decode_indexed.Goals as goal

pub returns-then-answer-lt-ANSWER : goal.returns-then-answer-lt-ANSWER
unfolding decode_indexed_given
returns-then-answer-lt-ANSWER c = short_row _ _ _ _ c.if-answer-lt-ANSWER.true

pub returns : goal.returns
unfolding decode_indexed_given
returns c = room_row _ _ _ _ _ _ _ _ _ _ c.if-answer-lt-ANSWER.false c.answer_of_read.ensures c.decode_indexed-read.ensures c.give.ensures
