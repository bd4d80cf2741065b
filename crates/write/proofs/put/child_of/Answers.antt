use Rattle.leaves.proofs.Codes.{shape_tuple}
use Rattle.write.specs.Putting.{child_node}
use Rattle.write.proofs.Codes.{tagged_child_lem}
use Rattle.write.proofs.put.child_of.Goals as goal

pub returns-then-code-lt19 : goal.returns-then-code-lt19
returns-then-code-lt19 c = tagged_child_lem _ _ _ _ c.if-code-lt19.true

pub returns : goal.returns
unfolding child_node
returns c = rw (shape_tuple _ c.if-code-lt19.false)
