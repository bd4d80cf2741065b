use Prim.Native.Nat.{◌≤◌}
use Rattle.wire.proofs.Compared.{Rest}
use Rattle.wire.proofs.order.by_bytes.Given as goal

-- the rest decides as the whole does
abbrev pub invariant-loop-k : goal.invariant-loop-k
invariant-loop-k l = (l.k ≤ l.lb) × Rest l.s l.t l.a l.la l.b l.lb l.k
