use Rattle.std.proofs.lemmas.Result.{err_from_is_err_and}
use borrow.Author.Tests.{eq-eqb, ne_eqb}
use Rattle.rules.specs.Choice.{pick}
use Rattle.rules.specs.Refusals.{◌then◌}
use Rattle.schema.proofs.Tables.{rules_is}
use Rattle.schema.proofs.order.rules_order.Goals as goal

pub returns-then-format-eq0 : goal.returns-then-format-eq0
unfolding pick
returns-then-format-eq0 c = rw (← c.format.view_is, rules_is, eq-eqb _ _ c.if-format-eq0.true)

pub returns-in_err-entries_rule : goal.returns-in_err-entries_rule
unfolding pick ◌then◌
returns-in_err-entries_rule c =
    let p = err_from_is_err_and c.from_residual.result c.from_residual.ensures.1 in
    rw (p.1, p.2, ← c.format.view_is, rules_is, ne_eqb _ _ c.if-format-eq0.false, ← c.entries_rule.ensures, c.in_err-entries_rule.was)

pub returns : goal.returns
unfolding pick ◌then◌
returns c = rw (← c.format.view_is, rules_is, ne_eqb _ _ c.if-format-eq0.false, ← c.entries_rule.ensures, c.in_ok-entries_rule.was) (rw (← c.format.view_is) at c.references_rule.ensures)
