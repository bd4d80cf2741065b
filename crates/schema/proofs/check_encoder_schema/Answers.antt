use native.Mathlib.Omega.{arith}
use Rattle.rules.specs.Choice.{pick, ◌and◌}
use Rattle.rules.specs.Format.{encoder_rule}
use Rattle.schema.proofs.check_encoder_schema.Goals as goal

pub returns-then-table-gt-LONGEST : goal.returns-then-table-gt-LONGEST
unfolding encoder_rule pick ◌and◌
returns-then-table-gt-LONGEST c = grind arith

pub returns : goal.returns
unfolding encoder_rule pick ◌and◌
returns c = grind arith
