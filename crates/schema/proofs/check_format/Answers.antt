use native.Mathlib.Omega.{arith}
use Rattle.rules.specs.Choice.{pick, ◌and◌}
use Rattle.rules.specs.Format.{sizes_ok, format_rule}
use Rattle.schema.proofs.check_format.Goals as goal

pub returns-then-format-gt-LONGEST : goal.returns-then-format-gt-LONGEST
unfolding format_rule sizes_ok pick ◌and◌
returns-then-format-gt-LONGEST c = rw (← c.format.view_is) (grind arith)

pub returns : goal.returns
unfolding format_rule sizes_ok pick ◌and◌
returns c = rw (← c.format.view_is) (grind arith)
