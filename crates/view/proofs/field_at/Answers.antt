use Rattle.std.proofs.lemmas.Result.{err_from_is_err_and}
use native.Mathlib.Omega.{arith}
use Rattle.view.proofs.Fields.{size_small}
use Rattle.view.proofs.FieldSteps.{field_long, field_out, field_kind, field_less, field_ragged, field_bad, field_refused, field_past, field_found}
use Rattle.view.proofs.field_at.Goals as goal

pub returns-then-records-gt-LONGEST : goal.returns-then-records-gt-LONGEST
returns-then-records-gt-LONGEST c = field_long _ _ _ c.if-records-gt-LONGEST.true

pub returns-then-count-i : goal.returns-then-count-i
returns-then-count-i c = field_out _ _ _ c.if-records-gt-LONGEST.false _ c.records_in-count.ensures c.if-count-i.true

pub returns-then-kind-ne17 : goal.returns-then-kind-ne17
returns-then-kind-ne17 c = field_kind _ _ _ c.if-records-gt-LONGEST.false _ c.records_in-count.ensures c.if-count-i.false _ c.value_record_at-r.ensures c.if-kind-ne17.true

pub returns-then-r-k : goal.returns-then-r-k
returns-then-r-k c = field_less _ _ _ c.if-records-gt-LONGEST.false _ c.records_in-count.ensures c.if-count-i.false _ c.value_record_at-r.ensures c.if-kind-ne17.false c.if-r-k.true

pub returns-then-not-whole_records : goal.returns-then-not-whole_records
returns-then-not-whole_records c = field_ragged _ _ _ c.if-records-gt-LONGEST.false _ c.records_in-count.ensures c.if-count-i.false _ c.value_record_at-r.ensures c.if-kind-ne17.false c.if-r-k.false _ c.whole_records.ensures c.if-not-whole_records.true

pub returns-then-not-record_alone : goal.returns-then-not-record_alone
returns-then-not-record_alone c = field_bad _ _ _ c.if-records-gt-LONGEST.false _ c.records_in-count.ensures c.if-count-i.false _ c.value_record_at-r.ensures c.if-kind-ne17.false c.if-r-k.false _ c.whole_records.ensures c.if-not-whole_records.false _ c.record_alone.ensures c.if-not-record_alone.true

pub past_trees-requires : goal.past_trees-requires
past_trees-requires c = let z = size_small c.args.records.now (λ j. omega (arith, c.type_inv.records j)) c.args.i in
    (c.if-records-gt-LONGEST.false, omega (arith, c.if-r-k.false, rw (← c.value_record_at-r.ensures) at z))

pub returns-in_err-found : goal.returns-in_err-found
returns-in_err-found c =
    let p = err_from_is_err_and c.from_residual.result c.from_residual.ensures.1 in
    rw (p.1, p.2, ← c.in_err-found.was) (field_refused _ _ _ c.if-records-gt-LONGEST.false _ c.records_in-count.ensures c.if-count-i.false _ c.value_record_at-r.ensures c.if-kind-ne17.false c.if-r-k.false _ c.whole_records.ensures c.if-not-whole_records.false _ c.record_alone.ensures c.if-not-record_alone.false _ c.past_trees.ensures _ c.in_err-found.was)

pub returns-then-count-found : goal.returns-then-count-found
returns-then-count-found c = field_past _ _ _ c.if-records-gt-LONGEST.false _ c.records_in-count.ensures c.if-count-i.false _ c.value_record_at-r.ensures c.if-kind-ne17.false c.if-r-k.false _ c.whole_records.ensures c.if-not-whole_records.false _ c.record_alone.ensures c.if-not-record_alone.false _ c.past_trees.ensures _ c.in_ok-found.was c.if-count-found.true

pub returns : goal.returns
returns c = field_found _ _ _ c.if-records-gt-LONGEST.false _ c.records_in-count.ensures c.if-count-i.false _ c.value_record_at-r.ensures c.if-kind-ne17.false c.if-r-k.false _ c.whole_records.ensures c.if-not-whole_records.false _ c.record_alone.ensures c.if-not-record_alone.false _ c.past_trees.ensures _ c.in_ok-found.was c.if-count-found.false
