use native.Mathlib.Omega.{arith}
use Rattle.rules.specs.Choice.{◌and◌}
use Rattle.block.specs.Passing.{passes_at_once}
use Rattle.block.proofs.table.block_passes.Goals as goal

pub returns-then-span_ok : goal.returns-then-span_ok
unfolding passes_at_once ◌and◌
returns-then-span_ok c = grind arith

pub returns-else-span_ok : goal.returns-else-span_ok
unfolding passes_at_once ◌and◌
returns-else-span_ok c = grind arith
