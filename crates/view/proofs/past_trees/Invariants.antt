use Prim.Native.Nat.{◌+◌, ◌-◌, ◌*◌, ◌≤◌, ◌<◌}
use mathlib.Core.Path.{◌≡◌}
use Rattle.rules.specs.View.{past_trees, records_from}
use Rattle.view.proofs.past_trees.Given as goal

-- what is left to pass, from here, comes to the whole; and each record adds less than 2 ^ 32 trees
abbrev pub invariant-loop-left : goal.invariant-loop-left
invariant-loop-left l = (l.i ≤ l.at) × ((l.left < 4294967296 * (1 + (l.at - l.i))) × (past_trees l.records (records_from l.records l.at) l.left l.at ≡ past_trees l.records (records_from l.records l.i) l.trees l.i))

abbrev pub decreases-loop-left : goal.decreases-loop-left
decreases-loop-left l = l.count - l.at
