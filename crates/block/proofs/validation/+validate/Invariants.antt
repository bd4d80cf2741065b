use Prim.Native.Nat.{◌+◌, ◌-◌}
use mathlib.Core.Path.{◌≡◌}
use Rattle.rules.specs.Refusals.{in_order}
use Rattle.rules.specs.SchemaRules.{schema_rule}
use Rattle.block.proofs.validation.+validate.Given as goal

abbrev pub decreases-validate : goal.decreases-validate
decreases-validate l = l.depth

-- what is left comes to the whole
abbrev pub invariant-loop-k : goal.invariant-loop-k
invariant-loop-k l = in_order (schema_rule l.s l.base (l.depth - 1)) (l.first + l.k) (l.children - l.k) ≡ schema_rule l.s l.base l.depth l.i
