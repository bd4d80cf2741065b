use mathlib.Core.Path.{refl, ◌∙◌}
use Rattle.rules.proofs.Slices.{part-between}
use Rattle.words.proofs.word_at.Goals as goal

pub returns : goal.returns
returns c = (c.copy_from_slice.ensures.after ∙ part-between _ _ _ 20 refl c.requires, c.copy_from_slice.ensures.len)
