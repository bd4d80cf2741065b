use borrow.Author.Tests.{eq-eqb, ne_eqb}
use Rattle.rules.specs.Choice.{pick, ◌and◌}
use Rattle.rules.specs.Block.{children_ok}
use Rattle.block.proofs.form.children_ok.Goals as goal

pub returns-then-children-eq0 : goal.returns-then-children-eq0
unfolding children_ok pick ◌and◌
returns-then-children-eq0 c = rw (eq-eqb _ _ c.if-children-eq0.true)

pub returns-then-first-next : goal.returns-then-first-next
unfolding children_ok pick ◌and◌
returns-then-first-next c = rw (ne_eqb _ _ c.if-children-eq0.false, eq-eqb _ _ c.if-first-next.true)

pub returns : goal.returns
unfolding children_ok pick ◌and◌
returns c = rw (ne_eqb _ _ c.if-children-eq0.false, ne_eqb _ _ c.if-first-next.false)
