use native.Mathlib.Omega.{arith}
use Rattle.rules.specs.Choice.{◌and◌}
use Rattle.schema.proofs.Given.{depths_is}
use Rattle.schema.proofs.depths.depths_ok.Goals as goal

pub entries_shallow-requires : goal.entries_shallow-requires
entries_shallow-requires c = (rw (← c.format.view_is) at c.requires).0

pub references_shallow-requires : goal.references_shallow-requires
references_shallow-requires c = (rw (← c.format.view_is) at c.requires).1

pub returns-then-entries_shallow : goal.returns-then-entries_shallow
unfolding ◌and◌
returns-then-entries_shallow c = rw (← c.format.view_is, depths_is) (grind arith)

pub returns-else-entries_shallow : goal.returns-else-entries_shallow
unfolding ◌and◌
returns-else-entries_shallow c = rw (← c.format.view_is, depths_is) (grind arith)
