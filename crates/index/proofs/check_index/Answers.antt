use mathlib.Core.Bool.{not}
use mathlib.Core.Path.{ap}
-- Each return by what the run answered and what was compared after it.
-- Assumes nothing.
use mathlib.Core.Path.{◌∙◌}
use Rattle.index.proofs.Calls.{not_end, not_other, check_long, check_refused, check_other_size, comparable, check_other, check_same}
use Rattle.index.proofs.check_index.Goals as goal

pub returns-then-index-gt-LONGEST : goal.returns-then-index-gt-LONGEST
returns-then-index-gt-LONGEST c = c.refused_after.ensures ∙ check_long _ _ _ _ c.if-index-gt-LONGEST.true

pub returns-in_default : goal.returns-in_default
returns-in_default c = check_refused _ _ _ _ c.run-ran.ensures (not_end _ _ c.in_default.is) _ c.if-index-gt-LONGEST.false

pub returns-then-not-are_index_records : goal.returns-then-not-are_index_records
returns-then-not-are_index_records c = c.refused_after-then-not-are_index_records.ensures ∙ check_other_size _ _ _ _ c.run-ran.ensures c.in-Ok.is _ c.if-index-gt-LONGEST.false _ c.are_index_records.ensures (ap not c.if-not-are_index_records.true)

pub compare_records-compared-requires : goal.compare_records-compared-requires
compare_records-compared-requires c = comparable _ _ _ _ c.run-ran.ensures c.in-Ok.is c.args.index.now c.if-index-gt-LONGEST.false _ c.are_index_records.ensures (ap not c.if-not-are_index_records.false)

pub returns-in_default-compared : goal.returns-in_default-compared
returns-in_default-compared c = c.refused_after-in_default-compared.ensures ∙ check_other _ _ _ _ c.run-ran.ensures c.in-Ok.is _ c.if-index-gt-LONGEST.false _ c.are_index_records.ensures (ap not c.if-not-are_index_records.false) _ c.compare_records-compared.ensures (not_other _ c.in_default-compared.is)

pub returns : goal.returns
returns c = check_same _ _ _ _ c.run-ran.ensures c.in-Ok.is _ c.if-index-gt-LONGEST.false _ c.are_index_records.ensures (ap not c.if-not-are_index_records.false) _ c.compare_records-compared.ensures _ c.in-Some.is
