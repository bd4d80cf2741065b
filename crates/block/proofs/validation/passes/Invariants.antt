use Prim.Native.Nat.{◌+◌, ◌-◌}
use mathlib.Core.Path.{◌≡◌}
use mathlib.Core.Bool.{true}
use Rattle.rules.specs.Choice.{all}
use Rattle.rules.specs.Refusals.{in_order}
use Rattle.rules.specs.Block.{earlier, record_at}
use Rattle.rules.specs.SchemaRules.{rule_at}
use Rattle.block.proofs.validation.passes.Given as goal

-- the records before passed the form, and what is left of the rules comes to the whole
abbrev pub invariant-loop-i : goal.invariant-loop-i
invariant-loop-i l = (l.next ≡ 1 + earlier l.s l.i) × ((all (record_at l.s l.store) l.i ≡ true) × (in_order (rule_at l.s l.base) (0 + l.i) (l.m - l.i) ≡ in_order (rule_at l.s l.base) 0 l.m))
