use native.Mathlib.Omega.{arith}
use Rattle.rules.specs.Choice.{pick}
use Rattle.schema.proofs.depths.reference_shallow.Goals as goal

pub returns-then-kind-ne0 : goal.returns-then-kind-ne0
unfolding pick
returns-then-kind-ne0 c = grind arith

pub returns-else-kind-ne0 : goal.returns-else-kind-ne0
unfolding pick
returns-else-kind-ne0 c = grind arith
