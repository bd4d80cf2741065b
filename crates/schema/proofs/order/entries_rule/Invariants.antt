use Prim.Native.Nat.{◌+◌, ◌-◌}
use mathlib.Core.Path.{◌≡◌}
use mathlib.Core.List.{[]}
use Rattle.rules.specs.Refusals.{in_order}
use Rattle.rules.specs.Format.{entry_rule}
use Rattle.schema.specs.Slices.{slices}
use Rattle.schema.proofs.order.entries_rule.Given as goal

abbrev pub invariant-loop-j : goal.invariant-loop-j
invariant-loop-j l = in_order (entry_rule (slices l.table [] [] l.registry)) (0 + l.j) (l.m - l.j) ≡ in_order (entry_rule (slices l.table [] [] l.registry)) 0 l.m
