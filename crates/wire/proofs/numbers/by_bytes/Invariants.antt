use Rattle.std.proofs.Common.{◌≡◌, ◌+◌, ◌-◌}
use Rattle.rules.specs.Bytes.{le_at}
use Rattle.wire.proofs.numbers.by_bytes.Given as goal

abbrev pub invariant-loop-k : goal.invariant-loop-k
invariant-loop-k l = l.v ≡ le_at l.s (l.at + l.k) (l.width - l.k)
