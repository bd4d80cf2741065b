use borrow.Author.Tests.{eq-eqb, ne_eqb}
use Rattle.rules.specs.Choice.{pick, ◌and◌}
use Rattle.rules.specs.Block.{name_ok}
use Rattle.block.proofs.form.name_ok.Goals as goal

pub returns-then-len-eq0 : goal.returns-then-len-eq0
unfolding name_ok pick ◌and◌
returns-then-len-eq0 c = rw (eq-eqb _ _ c.if-named-eq0.true, eq-eqb _ _ c.if-len-eq0.true)

pub returns-then-named-eq0 : goal.returns-then-named-eq0
unfolding name_ok pick ◌and◌
returns-then-named-eq0 c = rw (eq-eqb _ _ c.if-named-eq0.true, ne_eqb _ _ c.if-len-eq0.false)

pub returns-then-named-eq1 : goal.returns-then-named-eq1
unfolding name_ok pick ◌and◌
returns-then-named-eq1 c = rw (ne_eqb _ _ c.if-named-eq0.false, eq-eqb _ _ c.if-named-eq1.true) c.span_ok.ensures

pub returns : goal.returns
unfolding name_ok pick ◌and◌
returns c = rw (ne_eqb _ _ c.if-named-eq0.false, ne_eqb _ _ c.if-named-eq1.false)
