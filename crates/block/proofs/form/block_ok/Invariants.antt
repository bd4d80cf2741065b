use Prim.Native.Nat.{◌+◌}
use mathlib.Core.Path.{◌≡◌}
use mathlib.Core.Bool.{true}
use Rattle.rules.specs.Choice.{all}
use Rattle.rules.specs.Block.{earlier, record_at}
use Rattle.block.proofs.form.block_ok.Given as goal

abbrev pub invariant-loop-i : goal.invariant-loop-i
invariant-loop-i l = (l.next ≡ 1 + earlier l.s l.i) × (all (record_at l.s l.store) l.i ≡ true)
