-- There is none where the text is empty or begins with a blank.
-- Assumes nothing.
use borrow.Author.Rules.{rules}
use Rattle.lines.proofs.Putting.{none_empty, none_blank}
use Rattle.lines.proofs.no_word.Goals as goal

pub returns-then-text-eq0 : goal.returns-then-text-eq0
returns-then-text-eq0 c = none_empty _ (search rules)

pub returns : goal.returns
returns c = none_blank _ (search rules)
