use Rattle.skiff.specs.Calls.{check_value_table_given}
use Rattle.answers.specs.Answers.{answer_of_checked}
use Rattle.skiff.proofs.Laws.{short_given, room_given}
use Rattle.skiff.proofs.writing.skiff2_check_value_table.Goals as goal

pub returns-then-answer-lt-ANSWER : goal.returns-then-answer-lt-ANSWER
unfolding check_value_table_given
returns-then-answer-lt-ANSWER c = short_given _ _ c.if-answer-lt-ANSWER.true

pub returns : goal.returns
unfolding check_value_table_given
returns c = room_given answer_of_checked _ _ _ _ _ _ c.if-answer-lt-ANSWER.false c.answer_of_checked.ensures c.check_value_table-checked.ensures c.give.ensures
