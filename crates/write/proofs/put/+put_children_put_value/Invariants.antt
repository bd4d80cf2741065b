use Rattle.leaves.specs.Shapes.{shape_of}
use Rattle.judge.specs.Table.{whole_end, value_standing_at}
use Rattle.write.specs.Putting.{put_of, written_at}
use Rattle.write.proofs.Putting.{Filling}
use Prim.Native.Nat.{◌+◌, ◌-◌, ◌*◌}
use Rattle.write.proofs.put.+put_children_put_value.Given as goal

abbrev pub decreases-put_children : goal.decreases-put_children
decreases-put_children l = 2 * l.depth

abbrev pub invariant-put_children-loop-i : goal.invariant-put_children-loop-i
invariant-put_children-loop-i l = Filling l.block l.node l.records l.payload (shape_of l.code) (l.depth - 1) l.size (whole_end (value_standing_at l.records l.payload l.depth l.own l.initial.q.from)) l.initial.q.to (put_of (written_at l.block l.node l.depth l.records l.payload l.own l.initial.q.from)) l.initial.out l.out l.q l.i

abbrev pub decreases-put_value : goal.decreases-put_value
decreases-put_value l = 2 * l.depth + 1
