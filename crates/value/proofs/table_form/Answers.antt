use native.Mathlib.Omega.{arith}
use mathlib.Core.Path.{refl, ◌∙◌}
use Rattle.value.proofs.Tables.{form_ragged, form_broken, form_more, form_rest, form_whole}
use Rattle.value.proofs.table_form.Goals as goal

pub returns-then-not-whole_records : goal.returns-then-not-whole_records
returns-then-not-whole_records c = c.no_table.ensures ∙ form_ragged _ _ _ c.whole_records.ensures c.if-not-whole_records.true

pub returns-in_default : goal.returns-in_default
returns-in_default c = c.no_table-in_default.ensures ∙ form_broken _ _ (λ j. omega (arith, c.type_inv.records j)) (omega arith) _ refl _ c.whole_records.ensures c.if-not-whole_records.false _ c.walk_children-s.ensures c.in_default.is

pub returns-then-end-records_in : goal.returns-then-end-records_in
returns-then-end-records_in c = c.no_table-then-end-records_in.ensures ∙ form_more _ _ (λ j. omega (arith, c.type_inv.records j)) (omega arith) _ c.records_in.ensures _ c.whole_records.ensures c.if-not-whole_records.false _ c.walk_children-s.ensures _ c.in-Some.is c.if-end-records_in.true

pub returns-then-end-store : goal.returns-then-end-store
returns-then-end-store c = c.no_table-then-end-store.ensures ∙ form_rest _ _ (λ j. omega (arith, c.type_inv.records j)) (omega arith) _ c.records_in.ensures _ c.whole_records.ensures c.if-not-whole_records.false _ c.walk_children-s.ensures _ c.in-Some.is c.if-end-records_in.false c.if-end-store.true

pub returns : goal.returns
returns c = form_whole _ _ (λ j. omega (arith, c.type_inv.records j)) (omega arith) _ c.records_in.ensures _ c.whole_records.ensures c.if-not-whole_records.false _ c.walk_children-s.ensures _ c.in-Some.is c.if-end-records_in.false c.if-end-store.false
