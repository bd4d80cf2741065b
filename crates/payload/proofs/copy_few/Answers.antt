use mathlib.Core.Path.{refl, sym, ◌∙◌}
use lib.ListN.{length-set}
use Rattle.payload.proofs.Turns.{copy_none, copy_turn, copy_end}
use Rattle.payload.proofs.copy_few.Goals as goal

pub loop-k-init : goal.loop-k-init
loop-k-init c = (refl, copy_none _ _ _ _ _)

pub loop-k-preserved : goal.loop-k-preserved
loop-k-preserved c = (simp length-set c.loop-k.invariant.0, sym (copy_turn _ _ _ _ _ _ c.loop-k-test.true) ∙ c.loop-k.invariant.1)

pub shape_of-payload : goal.shape_of-payload
shape_of-payload c = c.loop-k.invariant.0

pub returns : goal.returns
returns c = sym (copy_end _ _ _ _ _ _ c.loop-k-test.false) ∙ c.loop-k.invariant.1
