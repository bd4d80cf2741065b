use mathlib.Core.Path.{refl, sym, ◌∙◌}
use borrow.Author.Rules.{rules}
use Rattle.windows.proofs.Steps.{goes_nowhere, goes_over, left_in_front}
use Rattle.windows.proofs.Streams.{tables_stay}
use Rattle.windows.proofs.space.run_filled_window.Goals as goal

-- Refused for good, the run stands; else it goes on by the run over the window, whose rest is brought to the front.
-- Assumes nothing.

pub returns-then-not-goes_on : goal.returns-then-not-goes_on
returns-then-not-goes_on c = record {
  goes_over = goes_nowhere _ _ _ _ (sym c.goes_on.ensures ∙ c.if-not-goes_on.true) _;
  ends_unchanged = refl;
  registry_le_end = search rules;
}

pub returns : goal.returns
returns c = let u = c.bytes_to_keep-n.ensures in record {
  goes_over = goes_over _ _ _ _ (sym c.goes_on.ensures ∙ c.if-not-goes_on.false) _ _ c.run_window-next.ensures.value
      (left_in_front _ _ _ _ _ _ _ c.move_bytes.ensures u.0 (search rules));
  ends_unchanged = tables_stay c.requires.0 _ _ _ _ c.move_bytes.ensures (search rules);
  registry_le_end = search rules;
}
