use Prim.Native.Nat.{◌+◌, ◌-◌}
use mathlib.Core.Path.{◌≡◌}
use Rattle.rules.specs.Refusals.{in_order}
use Rattle.rules.specs.SchemaRules.{rule_at}
use Rattle.block.proofs.validation.level_rule.Given as goal

-- what is left comes to the whole
abbrev pub invariant-loop-i : goal.invariant-loop-i
invariant-loop-i l = in_order (rule_at l.s l.base) (0 + l.i) (l.m - l.i) ≡ in_order (rule_at l.s l.base) 0 l.m
