use mathlib.Core.Path.{sym, ◌∙◌}
use native.Mathlib.Omega.{arith}
use Rattle.utf8.proofs.Steps.{from_eights, ended}
use Rattle.utf8.proofs.check.is_utf8.Goals as goal

pub loop-i-init : goal.loop-i-init
loop-i-init c = let r = c.ascii_eights-i.ensures in (r.within, from_eights _ _ _ _ r.after r.within r.before)

pub returns-then-n-eq0 : goal.returns-then-n-eq0
returns-then-n-eq0 c = sym (c.character-n.ensures.none c.if-n-eq0.true) ∙ c.loop-i.invariant.1

pub loop-i-preserved : goal.loop-i-preserved
loop-i-preserved c = let r = c.character-n.ensures in (r.within, sym (r.rest (omega (arith, c.if-n-eq0.false))) ∙ c.loop-i.invariant.1)

pub returns : goal.returns
returns c = ended _ _ _ c.loop-i-test.false ∙ c.loop-i.invariant.1
