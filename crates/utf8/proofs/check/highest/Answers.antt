use borrow.Author.Tests.{eq-eqb, ne_eqb}
use Rattle.rules.specs.Choice.{pick}
use Rattle.rules.specs.Utf8.{highest}
use Rattle.utf8.proofs.check.highest.Goals as goal

pub returns-then-b-eq237 : goal.returns-then-b-eq237
unfolding highest pick
returns-then-b-eq237 c = rw (eq-eqb _ _ c.if-b-eq237.true)

pub returns-then-b-eq244 : goal.returns-then-b-eq244
unfolding highest pick
returns-then-b-eq244 c = rw (ne_eqb _ _ c.if-b-eq237.false, eq-eqb _ _ c.if-b-eq244.true)

pub returns : goal.returns
unfolding highest pick
returns c = rw (ne_eqb _ _ c.if-b-eq237.false, ne_eqb _ _ c.if-b-eq244.false)
