-- The highest bit is the highest byte's.
-- Assumes nothing.
use native.Mathlib.Omega.{arith}
use native.Mathlib.Nat.{zero-add}
use lib.ListN.{length}
use Rattle.text_hex.proofs.Negated.{top_bit}
use Rattle.text_hex.proofs.integers.is_negative.Goals as goal

pub returns : goal.returns
returns c = rw zero-add at (top_bit c.args.number.now (λ j. omega (arith, c.type_inv.number j)) (length c.args.number.now) 0 c.requires.0)
