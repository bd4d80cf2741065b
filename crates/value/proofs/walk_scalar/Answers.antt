use native.Mathlib.Omega.{arith}
use Rattle.value.proofs.Walks.{walk_scalar, scalar_ends}
use Rattle.value.proofs.walk_scalar.Goals as goal

pub overflow_add-result-2 : goal.overflow_add-result-2
overflow_add-result-2 c = omega (arith, scalar_ends _ _ _ _ _ c.if-depth-eq0.false _ c.records_in.ensures c.if-records_in-at.false _ c.value_record_at-r.ensures _ c.record_ok.ensures c.if-not-record_ok.false (omega (arith, c.if-r-gt14.false)) c.requires, c.ranges.store)

pub returns : goal.returns
returns c = λ q e. walk_scalar _ _ _ _ _ c.if-depth-eq0.false _ c.records_in.ensures c.if-records_in-at.false _ c.value_record_at-r.ensures _ c.record_ok.ensures c.if-not-record_ok.false (omega (arith, c.if-r-gt14.false))
