use Rattle.std.proofs.lemmas.Result.{err_from_is_err_and}
use Rattle.rules.specs.View.{viewed_of, child_count_rule}
use Rattle.view.proofs.child_count_at.Goals as goal

pub returns : goal.returns
unfolding viewed_of child_count_rule
returns c = rw (← c.record_seen.ensures, c.in_ok-r.was, ← c.children_of.ensures)

pub returns-in_err-r : goal.returns-in_err-r
unfolding viewed_of child_count_rule
returns-in_err-r c =
    let p = err_from_is_err_and c.from_residual.result c.from_residual.ensures.1 in
    rw (p.1, p.2, ← c.record_seen.ensures, c.in_err-r.was)
