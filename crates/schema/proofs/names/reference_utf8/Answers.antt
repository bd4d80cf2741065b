use native.Mathlib.Omega.{arith}
use borrow.Author.Tests.{eq-eqb, ne_eqb}
use Rattle.rules.specs.Choice.{pick}
use Rattle.schema.proofs.Given.{inline_form, name_inside}
use Rattle.schema.proofs.names.reference_utf8.Goals as goal

pub block_utf8-requires : goal.block_utf8-requires
block_utf8-requires c = inline_form _ _ _ c.requires c.if-kind-eq0.true

pub returns-then-kind-eq0 : goal.returns-then-kind-eq0
unfolding pick
returns-then-kind-eq0 c = rw (eq-eqb _ _ c.if-kind-eq0.true) c.block_utf8.ensures

pub is_utf8-requires : goal.is_utf8-requires
is_utf8-requires c = let a = c.args in
    let h = name_inside a.table.now a.names.now a.r c.requires c.if-kind-eq0.false in
    omega (arith, h)

pub returns-else-kind-eq0 : goal.returns-else-kind-eq0
unfolding pick
returns-else-kind-eq0 c = rw (ne_eqb _ _ c.if-kind-eq0.false) c.is_utf8.ensures
