use Rattle.wire.proofs.NameTable.{Left}
use Rattle.wire.proofs.names.parse.Given as goal

abbrev pub invariant-loop-t : goal.invariant-loop-t
invariant-loop-t l = Left l.name l.t-index
