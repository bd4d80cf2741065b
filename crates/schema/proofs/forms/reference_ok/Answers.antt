use native.Mathlib.Omega.{arith}
use Rattle.rules.specs.Choice.{pick, ◌and◌}
use Rattle.rules.specs.Format.{reference_ok}
use Rattle.schema.proofs.forms.reference_ok.Goals as goal

pub returns-then-r-ne0 : goal.returns-then-r-ne0
unfolding reference_ok pick ◌and◌
returns-then-r-ne0 c = grind arith

pub returns-in-0 : goal.returns-in-0
unfolding reference_ok pick ◌and◌
returns-in-0 c = grind arith

pub returns-in-1 : goal.returns-in-1
unfolding reference_ok pick ◌and◌
returns-in-1 c = grind arith

pub returns-in_default : goal.returns-in_default
unfolding reference_ok pick ◌and◌
returns-in_default c = grind arith
