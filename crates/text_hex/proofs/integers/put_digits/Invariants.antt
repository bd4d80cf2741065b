use Rattle.text_hex.proofs.Turns.{PutsDigits}
use lib.ListN.{length}
use Rattle.text_hex.proofs.integers.put_digits.Given as goal

abbrev pub invariant-loop-i : goal.invariant-loop-i
invariant-loop-i l = PutsDigits l.initial.buffer l.number l.at 0 (length l.number) l.buffer l.i l.next
