use mathlib.Core.Path.{sym, ◌∙◌}
use native.Mathlib.Omega.{arith}
use Rattle.rules.specs.Choice.{◌and◌}
use Rattle.schema.proofs.Naming.{names_is, forms_both, all_ascii}
use Rattle.schema.proofs.names.format_utf8.Goals as goal

pub entries_utf8-requires : goal.entries_utf8-requires
entries_utf8-requires c = (forms_both _ _ _ _ (rw (← c.format.view_is) at c.requires)).0

pub references_utf8-requires : goal.references_utf8-requires
references_utf8-requires c = (forms_both _ _ _ _ (rw (← c.format.view_is) at c.requires)).1

pub returns-then-short_ascii : goal.returns-then-short_ascii
returns-then-short_ascii c = c.if-short_ascii.true ∙ rw (← c.format.view_is) (sym (all_ascii _ _ _ _ _ (sym c.short_ascii.ensures ∙ c.if-short_ascii.true)))

pub returns-then-entries_utf8 : goal.returns-then-entries_utf8
unfolding ◌and◌
returns-then-entries_utf8 c = rw (← c.format.view_is, names_is) (grind arith)

pub returns-else-entries_utf8 : goal.returns-else-entries_utf8
unfolding ◌and◌
returns-else-entries_utf8 c = rw (← c.format.view_is, names_is) (grind arith)
