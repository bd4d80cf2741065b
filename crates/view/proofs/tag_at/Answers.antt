use Rattle.std.proofs.lemmas.Result.{err_from_is_err_and}
use Rattle.rules.specs.View.{viewed_of, tag_rule}
use Rattle.view.proofs.tag_at.Goals as goal

pub returns : goal.returns
unfolding viewed_of tag_rule
returns c = rw (← c.record_seen.ensures, c.in_ok-r.was)

pub returns-in_err-r : goal.returns-in_err-r
unfolding viewed_of tag_rule
returns-in_err-r c =
    let p = err_from_is_err_and c.from_residual.result c.from_residual.ensures.1 in
    rw (p.1, p.2, ← c.record_seen.ensures, c.in_err-r.was)
