-- What is left to put, over what is put, is the whole.
-- Assumes nothing.
use native.Mathlib.Nat.{zero-add}
use Rattle.rules.proofs.Stands.{part-whole}
use Rattle.text_hex.proofs.Putting.{puts_hex_none, puts_hex_turn, puts_hex_end}
use Rattle.text_hex.proofs.put_hex.Goals as goal

pub loop-byte-init : goal.loop-byte-init
loop-byte-init c = puts_hex_none _ _ _ _ _

pub loop-byte-preserved : goal.loop-byte-preserved
loop-byte-preserved c =
    puts_hex_turn _ _ _ _ _ _ _ _ c.loop-byte.invariant _ _ c.loop-byte-test.true (rw zero-add c.hex_digit.ensures) (rw zero-add c.hex_digit-in-loop-byte.ensures)

pub returns : goal.returns
returns c =
    let both = puts_hex_end _ _ _ _ _ _ _ _ c.loop-byte.invariant c.loop-byte-test.false in
    record { text_put = rw part-whole at both.0; value = both.1 }
