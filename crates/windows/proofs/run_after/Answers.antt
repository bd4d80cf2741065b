-- Too many rows or bytes are refused; else the run goes on over the window.
-- Assumes nothing.
use mathlib.Core.Path.{◌∙◌}
use borrow.Author.Rules.{rules}
use Rattle.windows.proofs.Moves.{after_too_many_rows, after_too_long, after_some}
use Rattle.windows.proofs.run_after.Goals as goal

pub returns-then-bytes-rows : goal.returns-then-bytes-rows
returns-then-bytes-rows c = c.no_rows.ensures.value ∙ after_too_many_rows _ _ _ _ _ (search rules)

pub returns-then-longest-bytes : goal.returns-then-longest-bytes
returns-then-longest-bytes c = c.no_rows-then-longest-bytes.ensures.value ∙ after_too_long _ _ _ _ _ (search rules)

pub returns-then-longest-bytes-2 : goal.returns-then-longest-bytes-2
returns-then-longest-bytes-2 c = c.no_rows-then-longest-bytes-2.ensures.value ∙ after_too_long _ _ _ _ _ (search rules)

pub returns : goal.returns
returns c = c.run_on.ensures.value ∙ after_some _ _ _ _ _ (search rules) (search rules)
