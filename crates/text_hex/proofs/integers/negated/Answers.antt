-- What is left to write, over what is written, is the whole.
-- Assumes nothing.
use mathlib.Core.Path.{◌∙◌}
use native.Mathlib.Omega.{arith}
use native.Mathlib.Nat.{zero-add}
use Rattle.text_hex.proofs.Negated.{negates_first, negates_turn, negates_end}
use Rattle.text_hex.proofs.integers.negated.Goals as goal

pub loop-k-init : goal.loop-k-init
loop-k-init c = negates_first _ _ _ _ (λ j. omega (arith, c.type_inv.number j))

pub loop-k-preserved : goal.loop-k-preserved
loop-k-preserved c = negates_turn _ _ _ _ _ _ _ c.loop-k.invariant (λ j. omega (arith, c.type_inv.number j)) c.loop-k-test.true _ (rw zero-add c.wide.ensures.0)

pub returns : goal.returns
returns c = let e = negates_end _ _ _ _ _ _ _ c.loop-k.invariant c.loop-k-test.false in
    (e ∙ rw c.no_bytes-bytes.ensures.0, c.loop-k.invariant.size ∙ c.no_bytes-bytes.ensures.1)
