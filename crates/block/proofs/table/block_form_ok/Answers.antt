use native.Mathlib.Omega.{arith}
use Rattle.rules.specs.Choice.{◌and◌}
use Rattle.rules.specs.Format.{block_form_ok}
use Rattle.block.proofs.table.block_form_ok.Goals as goal

pub returns-then-span_ok : goal.returns-then-span_ok
unfolding block_form_ok ◌and◌
returns-then-span_ok c = grind arith

pub returns-else-span_ok : goal.returns-else-span_ok
unfolding block_form_ok ◌and◌
returns-else-span_ok c = grind arith
