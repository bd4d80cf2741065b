use native.Mathlib.Omega.{arith}
use Rattle.rules.specs.Choice.{pick, ◌and◌}
use Rattle.rules.specs.SchemaRules.{name_rule}
use Rattle.block.proofs.validation.name_rule.Goals as goal

pub returns-then-len-gt0 : goal.returns-then-len-gt0
unfolding name_rule pick ◌and◌
returns-then-len-gt0 c = grind arith

pub returns : goal.returns
unfolding name_rule pick ◌and◌
returns c = grind arith
