use mathlib.Core.Path.{◌≡◌}
use Prim.Native.Nat.{◌+◌, ◌-◌}
use Rattle.rules.specs.Refusals.{in_order}
use Rattle.rules.specs.SchemaRules.{child_rule}
use Rattle.block.proofs.validation.check_root.Given as goal

abbrev pub invariant-loop-k : goal.invariant-loop-k
invariant-loop-k l = in_order (child_rule l.s l.base) (l.first + l.k) (l.children - l.k) ≡ in_order (child_rule l.s l.base) l.first l.children
