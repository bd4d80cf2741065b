use Rattle.std.proofs.lemmas.Result.{err_from_is_err_and}
use Rattle.rules.specs.Query.{queried_of, query_rule}
use Rattle.query.proofs.Says.{seen_alone}
use Rattle.query.proofs.value_of.Goals as goal

pub record_said-requires : goal.record_said-requires
record_said-requires c = seen_alone _ _ _ _ c.record_seen.ensures c.in_ok-r.was

pub returns : goal.returns
unfolding queried_of query_rule
returns c = rw (← c.record_seen.ensures, c.in_ok-r.was, ← c.record_said.ensures)

pub returns-in_err-r : goal.returns-in_err-r
unfolding queried_of query_rule
returns-in_err-r c =
    let p = err_from_is_err_and c.from_residual.result c.from_residual.ensures.1 in
    rw (p.1, p.2, ← c.record_seen.ensures, c.in_err-r.was)
