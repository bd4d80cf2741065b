use borrow.Author.Tests.{eq-eqb, ne_eqb}
use Rattle.rules.specs.Choice.{pick}
use Rattle.rules.specs.Utf8.{lowest}
use Rattle.utf8.proofs.check.lowest.Goals as goal

pub returns-then-b-eq224 : goal.returns-then-b-eq224
unfolding lowest pick
returns-then-b-eq224 c = rw (eq-eqb _ _ c.if-b-eq224.true)

pub returns-then-b-eq240 : goal.returns-then-b-eq240
unfolding lowest pick
returns-then-b-eq240 c = rw (ne_eqb _ _ c.if-b-eq224.false, eq-eqb _ _ c.if-b-eq240.true)

pub returns : goal.returns
unfolding lowest pick
returns c = rw (ne_eqb _ _ c.if-b-eq224.false, ne_eqb _ _ c.if-b-eq240.false)
