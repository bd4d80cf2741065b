use lib.ListN.{length}
use Rattle.text_hex.proofs.Putting.{PutsHex}
use Rattle.text_hex.proofs.put_hex.Given as goal

abbrev pub invariant-loop-byte : goal.invariant-loop-byte
invariant-loop-byte l = PutsHex l.initial.buffer l.bytes l.at 0 (length l.bytes) l.buffer l.byte-index l.next
