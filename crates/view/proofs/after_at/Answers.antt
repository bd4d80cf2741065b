use Rattle.std.proofs.lemmas.Result.{err_from_is_err_and}
use native.Mathlib.Omega.{arith}
use Rattle.rules.specs.View.{after_seen, after_rule}
use Rattle.query.proofs.Says.{seen_short}
use Rattle.view.proofs.after_at.Goals as goal

pub past_trees-requires : goal.past_trees-requires
past_trees-requires c = (seen_short _ _ _ _ c.record_seen.ensures c.in_ok-record_seen.was, omega arith)

pub returns : goal.returns
unfolding after_seen after_rule
returns c = rw (← c.record_seen.ensures, c.in_ok-record_seen.was) c.past_trees.ensures

pub returns-in_err-record_seen : goal.returns-in_err-record_seen
unfolding after_seen after_rule
returns-in_err-record_seen c =
    let p = err_from_is_err_and c.from_residual.result c.from_residual.ensures.1 in
    rw (p.1, p.2, ← c.record_seen.ensures, c.in_err-record_seen.was)
