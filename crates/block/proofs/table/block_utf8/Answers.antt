use mathlib.Core.Path.{sym, ◌∙◌}
use Rattle.rules.specs.Format.{block_utf8}
use Rattle.block.proofs.Parts.{form_sound}
use Rattle.block.proofs.Spans.{ascii_names, form_of}
use Rattle.block.proofs.table.block_utf8.Goals as goal

pub block_of-s-requires : goal.block_of-s-requires
block_of-s-requires c = (form_sound _ _ _ _ c.requires).within

pub names_utf8-requires : goal.names_utf8-requires
names_utf8-requires c = rw c.block_of-s.ensures (form_of _ _ _ _ c.requires)

pub returns-then-short_ascii : goal.returns-then-short_ascii
returns-then-short_ascii c = c.if-short_ascii.true ∙ sym (ascii_names _ _ _ (sym c.short_ascii.ensures ∙ c.if-short_ascii.true) _ _)

pub returns-else-short_ascii : goal.returns-else-short_ascii
unfolding block_utf8
returns-else-short_ascii c = rw (← c.block_of-s.ensures) c.names_utf8.ensures
