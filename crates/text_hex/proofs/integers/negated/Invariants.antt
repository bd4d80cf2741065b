use Rattle.text_hex.proofs.Negated.{Negates}
use lib.ListN.{length}
use Rattle.text_hex.proofs.integers.negated.Given as goal

abbrev pub invariant-loop-k : goal.invariant-loop-k
invariant-loop-k l = Negates l.number l.initial.bytes 0 (length l.number) l.bytes l.k l.carry
