-- Closed where the first value was put.
-- Assumes nothing.
use mathlib.Core.Path.{sym, ◌∙◌}
use borrow.Author.Rules.{rules}
use Rattle.rules.specs.Names.{ascii}
use Rattle.lines.proofs.Putting.{put_no_closing, put_the_closing}
use Rattle.lines.proofs.put_closing.Goals as goal

pub returns-then-no_word : goal.returns-then-no_word
returns-then-no_word c = record { text_put = put_no_closing _ _ _ _ c.label_word-name.ensures.0 (sym c.no_word.ensures ∙ c.if-no_word.true); upper_bound = search rules }

pub returns : goal.returns
unfolding ascii
returns c = record { text_put = put_the_closing _ _ _ _ c.label_word-name.ensures.0 _ _ (sym c.no_word.ensures ∙ c.if-no_word.false) c.put_text.ensures; upper_bound = search rules }
