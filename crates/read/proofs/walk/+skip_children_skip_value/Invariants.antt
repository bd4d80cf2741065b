use lib.ListN.{length}
use Prim.Native.Nat.{◌+◌, ◌-◌, ◌*◌}
use Rattle.read.proofs.Loop.{Going}
use Rattle.read.proofs.walk.+skip_children_skip_value.Given as goal

abbrev pub decreases-skip_children : goal.decreases-skip_children
decreases-skip_children l = 2 * l.depth

abbrev pub invariant-skip_children-loop-next : goal.invariant-skip_children-loop-next
invariant-skip_children-loop-next l = Going l.block l.input l.charge l.depth l.node l.code l.first l.count l.initial.q l.i l.q

abbrev pub decreases-skip_children-loop-next : goal.decreases-skip_children-loop-next
decreases-skip_children-loop-next l = l.count - l.i + (length l.input - l.q.at)

abbrev pub decreases-skip_value : goal.decreases-skip_value
decreases-skip_value l = 2 * l.depth + 1
