use mathlib.Core.Path.{sym, ◌∙◌}
use native.Mathlib.Omega.{arith}
use Rattle.utf8.proofs.Runs.{nothing, next}
use Rattle.utf8.proofs.ascii.ascii_eights.Goals as goal

pub loop-i-init : goal.loop-i-init
loop-i-init c = (omega arith, (omega arith, (omega arith, nothing _ _ _ (omega arith))))

pub returns-then-not-eight_ascii : goal.returns-then-not-eight_ascii
returns-then-not-eight_ascii c = let l = c.loop-i in
    record { after = l.invariant.0; within = l.invariant.1.0; eights = l.invariant.1.1.0; before = l.invariant.1.1.1; stops = λ h. sym c.eight_ascii.ensures ∙ c.if-not-eight_ascii.true }

pub loop-i-preserved : goal.loop-i-preserved
loop-i-preserved c = let l = c.loop-i in
    (omega arith, (omega arith, (omega arith, next _ _ _ l.invariant.0 l.invariant.1.1.1 (sym c.eight_ascii.ensures ∙ c.if-not-eight_ascii.false))))

pub returns : goal.returns
returns c = let l = c.loop-i in
    record { after = l.invariant.0; within = l.invariant.1.0; eights = l.invariant.1.1.0; before = l.invariant.1.1.1; stops = λ h. absurd (omega arith) }
