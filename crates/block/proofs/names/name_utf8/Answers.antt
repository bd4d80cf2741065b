use native.Mathlib.Omega.{arith}
use Rattle.rules.specs.Choice.{pick}
use Rattle.rules.specs.Block.{name_in, is_name_utf8}
use Rattle.block.proofs.names.name_utf8.Goals as goal

pub returns-then-named-ne1 : goal.returns-then-named-ne1
unfolding name_in is_name_utf8 pick
returns-then-named-ne1 c = grind arith

pub returns-else-named-ne1 : goal.returns-else-named-ne1
unfolding name_in is_name_utf8 pick
returns-else-named-ne1 c = grind arith
