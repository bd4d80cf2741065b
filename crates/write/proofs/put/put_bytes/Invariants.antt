use Prim.Native.Nat.{◌+◌, ◌-◌}
use mathlib.Core.Path.{◌≡◌}
use lib.ListN.{length}
use Rattle.rules.specs.Bytes.{le, over}
use Rattle.write.proofs.put.put_bytes.Given as goal

abbrev pub invariant-loop-k : goal.invariant-loop-k
invariant-loop-k l = (length l.out ≡ length l.initial.out) × (over l.out (l.at + l.k) (le (l.width - l.k) l.left) ≡ over l.initial.out l.at (le l.width l.x))
