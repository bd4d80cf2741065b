use Rattle.rules.specs.Reading.{limits}
use Rattle.leaves.specs.Shapes.{shape_of}
use Rattle.judge.specs.Table.{whole_end, value_standing_at}
use Rattle.judge.specs.Judging.{judge_pos, judged_at}
use Rattle.judge.proofs.Going.{Going}
use Prim.Native.Nat.{◌+◌, ◌-◌, ◌*◌}
use Rattle.judge.proofs.walk.+judge_children_judge_value.Given as goal

abbrev pub decreases-judge_children : goal.decreases-judge_children
decreases-judge_children l = 2 * l.depth

abbrev pub invariant-judge_children-loop-i : goal.invariant-judge_children-loop-i
invariant-judge_children-loop-i l = let p = judge_pos l.own l.initial.q.from l.initial.q.bytes in
    Going l.block (limits l.settings) l.node l.records l.payload (shape_of l.code) (l.depth - 1) l.size (whole_end (value_standing_at l.records l.payload l.depth l.own l.initial.q.from)) (judged_at l.block (limits l.settings) l.node l.depth l.records l.payload p) l.q l.i

abbrev pub decreases-judge_value : goal.decreases-judge_value
decreases-judge_value l = 2 * l.depth + 1
