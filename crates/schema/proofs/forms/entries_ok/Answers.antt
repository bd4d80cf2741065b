use mathlib.Core.Path.{refl}
use Rattle.rules.specs.Choice.{all}
use Rattle.block.proofs.Turns.{test_on, test_off}
use Rattle.schema.proofs.forms.entries_ok.Goals as goal

pub loop-j-init : goal.loop-j-init
unfolding all
loop-j-init c = refl

pub returns-then-not-entry_ok : goal.returns-then-not-entry_ok
returns-then-not-entry_ok c = test_off _ _ _ c.loop-j-test.true _ c.entry_ok.ensures (c.if-not-entry_ok.true)

pub loop-j-preserved : goal.loop-j-preserved
loop-j-preserved c = test_on _ _ c.loop-j.invariant _ c.entry_ok.ensures (c.if-not-entry_ok.false)
