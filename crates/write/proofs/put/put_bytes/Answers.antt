use mathlib.Core.Path.{sym, ◌∙◌}
use lib.ListN.{length-set}
use Rattle.write.proofs.Numbers.{le_turn, le-end}
use Rattle.write.proofs.put.put_bytes.Goals as goal

pub loop-k-preserved : goal.loop-k-preserved
loop-k-preserved c = (simp length-set c.loop-k.invariant.0, sym (le_turn _ _ _ _ _ c.loop-k-test.true) ∙ c.loop-k.invariant.1)

pub returns : goal.returns
returns c = sym (le-end _ _ _ _ _ c.loop-k-test.false) ∙ c.loop-k.invariant.1
