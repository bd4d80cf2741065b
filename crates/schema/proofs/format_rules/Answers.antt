use mathlib.Core.Path.{sym, ◌∙◌}
use Rattle.rules.specs.Choice.{pick}
use Rattle.rules.specs.Format.{format_rules}
use Rattle.schema.proofs.Tables.{forms}
use Rattle.schema.proofs.format_rules.Goals as goal

pub returns-then-not-forms_ok : goal.returns-then-not-forms_ok
unfolding format_rules pick
returns-then-not-forms_ok c = rw (← c.forms_ok.ensures, c.if-not-forms_ok.true)

pub depths_ok-requires : goal.depths_ok-requires
depths_ok-requires c = let f = forms _ _ _ _ (sym c.forms_ok.ensures ∙ c.if-not-forms_ok.false) in (f.entries, f.inline)

pub returns-then-not-depths_ok : goal.returns-then-not-depths_ok
unfolding format_rules pick
returns-then-not-depths_ok c = rw (← c.forms_ok.ensures, c.if-not-forms_ok.false, ← c.depths_ok.ensures, c.if-not-depths_ok.true)

pub returns-then-not-format_utf8 : goal.returns-then-not-format_utf8
unfolding pick format_rules
returns-then-not-format_utf8 c = rw (← c.forms_ok.ensures, c.if-not-forms_ok.false, ← c.depths_ok.ensures, c.if-not-depths_ok.false, ← c.format_utf8.ensures, c.if-not-format_utf8.true)

pub rules_order-requires : goal.rules_order-requires
rules_order-requires c = forms _ _ _ _ (sym c.forms_ok.ensures ∙ c.if-not-forms_ok.false)

pub returns : goal.returns
unfolding pick format_rules
returns c = rw (← c.forms_ok.ensures, c.if-not-forms_ok.false, ← c.depths_ok.ensures, c.if-not-depths_ok.false, ← c.format_utf8.ensures, c.if-not-format_utf8.false) c.rules_order.ensures
