use native.Mathlib.Omega.{arith}
use Rattle.rules.specs.Choice.{◌and◌}
use Rattle.schema.proofs.Given.{forms_is}
use Rattle.schema.proofs.forms.forms_ok.Goals as goal

pub returns-then-entries_ok : goal.returns-then-entries_ok
unfolding ◌and◌
returns-then-entries_ok c = rw (← c.format.view_is, forms_is) (grind arith)

pub returns-else-entries_ok : goal.returns-else-entries_ok
unfolding ◌and◌
returns-else-entries_ok c = rw (← c.format.view_is, forms_is) (grind arith)
