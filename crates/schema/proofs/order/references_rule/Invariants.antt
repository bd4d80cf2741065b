use Prim.Native.Nat.{◌+◌, ◌-◌}
use mathlib.Core.Path.{◌≡◌}
use Rattle.rules.specs.Refusals.{in_order}
use Rattle.rules.specs.Format.{reference_rule}
use Rattle.schema.proofs.order.references_rule.Given as goal

abbrev pub invariant-loop-t : goal.invariant-loop-t
invariant-loop-t l = in_order (reference_rule l.format) (0 + l.t) (l.m - l.t) ≡ in_order (reference_rule l.format) 0 l.m
