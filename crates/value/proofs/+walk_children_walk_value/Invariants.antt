use Rattle.value.specs.Walk.{walk_children, walk_table}
use Prim.Native.Nat.{◌-◌, ◌≤◌}
use mathlib.Core.Path.{◌≡◌}
use Prim.Native.Nat.{◌*◌}
use Prim.Native.Nat.{◌+◌}
use Rattle.value.proofs.+walk_children_walk_value.Given as goal

abbrev pub decreases-walk_children : goal.decreases-walk_children
decreases-walk_children l = 2 * l.depth

-- what is left of the children, from here, comes to the whole
abbrev pub invariant-walk_children-loop : goal.invariant-walk_children-loop
invariant-walk_children-loop l = (l.q.from ≤ l.store) × (walk_children (walk_table l.records l.store (l.depth - 1) l.tagged) (l.count - l.counter) l.q ≡ walk_children (walk_table l.records l.store (l.depth - 1) l.tagged) l.count l.initial.q)

abbrev pub decreases-walk_value : goal.decreases-walk_value
decreases-walk_value l = 2 * l.depth + 1
