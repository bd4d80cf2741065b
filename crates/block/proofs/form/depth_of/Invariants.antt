use Prim.Native.Nat.{◌+◌}
use mathlib.Core.Path.{◌≡◌}
use Rattle.rules.specs.Block.{earlier}
use Rattle.block_laws.proofs.Levels.{LevelSpot}
use Rattle.block.proofs.form.depth_of.Given as goal

abbrev pub invariant-loop-i : goal.invariant-loop-i
invariant-loop-i l = (l.next ≡ 1 + earlier l.s l.i) × LevelSpot l.s l.i l.edge l.depth
