use Prim.Native.Nat.{◌+◌, ◌-◌}
use mathlib.Core.Path.{◌≡◌}
use lib.ListN.{length}
use Rattle.rules.specs.Bytes.{part, over}
use Rattle.payload.proofs.copy_few.Given as goal

abbrev pub invariant-loop-k : goal.invariant-loop-k
invariant-loop-k l = (length l.payload ≡ length l.initial.payload) × (over l.payload (l.to + l.k) (part l.input (l.from + l.k) (l.n - l.k)) ≡ over l.initial.payload l.to (part l.input l.from l.n))
