use native.Mathlib.Omega.{arith}
use Rattle.rules.specs.Choice.{◌and◌}
use Rattle.schema.proofs.names.entry_utf8.Goals as goal

pub returns-then-is_utf8 : goal.returns-then-is_utf8
unfolding ◌and◌
returns-then-is_utf8 c = grind arith

pub returns-else-is_utf8 : goal.returns-else-is_utf8
unfolding ◌and◌
returns-else-is_utf8 c = grind arith
