-- No second answer, said of each call's own contract. `Post` is what a call has to show when it returns: of its arguments, of its
-- result, and of what it was lent. Whatever result, and whatever later contents of the slices that were lent to be written, meets it
-- on some arguments is the same as any other that does, refusals included. So a weaker `ensures` fails here.
-- Assumes nothing.
use Prim.Native.Nat.{ℕ}
use mathlib.Core.Path.{◌≡◌, sym, ◌∙◌, ap}
use mathlib.Core.List.{List, [], ◌∷◌}
use contract.Lifetimes.{Lfts}
use borrow.Fn.Kinds.{ParamKind, ResultKind, Dens, Out, res_t, ended_of}
use denote.Triple.Clauses.{AtExit}
use Rattle.rules.proofs.settings.Settings.new as settings_new
use Rattle.rules.proofs.settings.Settings.within_bounds as settings_within_bounds
use Rattle.rules.proofs.settings.Settings.blob_limit as settings_blob_limit
use Rattle.rules.proofs.settings.limit_of_type
use Rattle.rules.proofs.refusal.Why.line as why_line
use Rattle.rules.proofs.refusal.Refusal.in_numbers
use Rattle.wire.proofs.names.parse
use Rattle.wire.proofs.names.is_name
use Rattle.wire.proofs.types.from_code
use Rattle.wire.proofs.types.code_of
use Rattle.wire.proofs.types.fixed_width
use Rattle.wire.proofs.codes.maximum_of
use Rattle.schema.proofs.check_name
use Rattle.schema.proofs.check_schema
use Rattle.schema.proofs.check_encoder_schema
use Rattle.schema.proofs.check_format
use Rattle.value.proofs.check_value_table
use Rattle.row.proofs.skip_row
use Rattle.run.proofs.run
use Rattle.windows.proofs.run_after
use Rattle.windows.proofs.goes_on
use Rattle.decode.proofs.next_row
use Rattle.encode.proofs.encode
use Rattle.skiff.proofs.reading.skiff2_skip
use Rattle.skiff.proofs.reading.skiff2_run
use Rattle.skiff.proofs.reading.skiff2_decode
use Rattle.skiff.proofs.window.skiff2_run_window
use Rattle.skiff.proofs.writing.skiff2_encode
use Rattle.skiff.proofs.writing.skiff2_check_value_table
use Rattle.skiff.proofs.checking.skiff2_check_format
use Rattle.skiff.proofs.checking.skiff2_check_encoder_schema
use Rattle.skiff.proofs.checking.skiff2_check_name
use Rattle.skiff.proofs.checking.skiff2_parse
use Rattle.skiff.proofs.querying.skiff2_value
use Rattle.skiff.proofs.viewing.skiff2_kind
use Rattle.skiff.proofs.viewing.skiff2_tag
use Rattle.skiff.proofs.viewing.skiff2_child_count
use Rattle.skiff.proofs.viewing.skiff2_after
use Rattle.skiff.proofs.viewing.skiff2_field

-- one result
abbrev pub OneAnswer : {n : ℕ} (ps : List (ParamKind n)) (r : ResultKind n) → Out n ps r → Type 0
OneAnswer {n} ps r Post = (κs : Lfts n) (a : Dens κs ps) (x y : (res_t r κs).Denot) (s t : AtExit (ended_of n ps r) κs) → Post κs a x s → Post κs a y t → x ≡ y

-- one result, and one contents of each slice that was lent
abbrev pub OneOutcome : {n : ℕ} (ps : List (ParamKind n)) (r : ResultKind n) → ((κs : Lfts n) → AtExit (ended_of n ps r) κs → List (List ℕ)) → Out n ps r → Type 0
OneOutcome {n} ps r lent Post = (κs : Lfts n) (a : Dens κs ps) (x y : (res_t r κs).Denot) (s t : AtExit (ended_of n ps r) κs) → Post κs a x s → Post κs a y t → (x ≡ y) × (lent κs s ≡ lent κs t)

-- ---- settings and refusals
pub settings_new_one_answer : OneAnswer settings_new.Kinds.ps settings_new.Kinds.r settings_new.Reads.Post
settings_new_one_answer κs a x y s t p q = p ∙ sym q

pub settings_within_bounds_one_answer : OneAnswer settings_within_bounds.Kinds.ps settings_within_bounds.Kinds.r settings_within_bounds.Reads.Post
settings_within_bounds_one_answer κs a x y s t p q = p ∙ sym q

pub settings_blob_limit_one_answer : OneAnswer settings_blob_limit.Kinds.ps settings_blob_limit.Kinds.r settings_blob_limit.Reads.Post
settings_blob_limit_one_answer κs a x y s t p q = p ∙ sym q

pub limit_of_type_one_answer : OneAnswer limit_of_type.Kinds.ps limit_of_type.Kinds.r limit_of_type.Reads.Post
limit_of_type_one_answer κs a x y s t p q = p ∙ sym q

pub why_line_one_answer : OneAnswer why_line.Kinds.ps why_line.Kinds.r why_line.Reads.Post
why_line_one_answer κs a x y s t p q = p ∙ sym q

pub in_numbers_one_answer : OneAnswer in_numbers.Kinds.ps in_numbers.Kinds.r in_numbers.Reads.Post
in_numbers_one_answer κs a x y s t p q = p ∙ sym q

-- ---- wire types, by code and by name
pub parse_one_answer : OneAnswer parse.Kinds.ps parse.Kinds.r parse.Reads.Post
parse_one_answer κs a x y s t p q = p ∙ sym q

pub is_name_one_answer : OneAnswer is_name.Kinds.ps is_name.Kinds.r is_name.Reads.Post
is_name_one_answer κs a x y s t p q = p ∙ sym q

pub from_code_one_answer : OneAnswer from_code.Kinds.ps from_code.Kinds.r from_code.Reads.Post
from_code_one_answer κs a x y s t p q = p ∙ sym q

pub code_of_one_answer : OneAnswer code_of.Kinds.ps code_of.Kinds.r code_of.Reads.Post
code_of_one_answer κs a x y s t p q = p ∙ sym q

pub fixed_width_one_answer : OneAnswer fixed_width.Kinds.ps fixed_width.Kinds.r fixed_width.Reads.Post
fixed_width_one_answer κs a x y s t p q = p ∙ sym q

pub maximum_of_one_answer : OneAnswer maximum_of.Kinds.ps maximum_of.Kinds.r maximum_of.Reads.Post
maximum_of_one_answer κs a x y s t p q = p ∙ sym q

-- ---- schemas and formats
pub check_name_one_answer : OneAnswer check_name.Kinds.ps check_name.Kinds.r check_name.Reads.Post
check_name_one_answer κs a x y s t p q = p ∙ sym q

pub check_schema_one_answer : OneAnswer check_schema.Kinds.ps check_schema.Kinds.r check_schema.Reads.Post
check_schema_one_answer κs a x y s t p q = p ∙ sym q

pub check_encoder_schema_one_answer : OneAnswer check_encoder_schema.Kinds.ps check_encoder_schema.Kinds.r check_encoder_schema.Reads.Post
check_encoder_schema_one_answer κs a x y s t p q = p ∙ sym q

pub check_format_one_answer : OneAnswer check_format.Kinds.ps check_format.Kinds.r check_format.Reads.Post
check_format_one_answer κs a x y s t p q = p ∙ sym q

-- ---- value tables
pub check_value_table_one_answer : OneAnswer check_value_table.Kinds.ps check_value_table.Kinds.r check_value_table.Reads.Post
check_value_table_one_answer κs a x y s t p q = p ∙ sym q

-- ---- reading
pub skip_row_one_answer : OneAnswer skip_row.Kinds.ps skip_row.Kinds.r skip_row.Reads.Post
skip_row_one_answer κs a x y s t p q = p ∙ sym q

pub run_one_answer : OneAnswer run.Kinds.ps run.Kinds.r run.Reads.Post
run_one_answer κs a x y s t p q = p ∙ sym q

pub run_after_one_answer : OneAnswer run_after.Kinds.ps run_after.Kinds.r run_after.Reads.Post
run_after_one_answer κs a x y s t p q = p ∙ sym q

pub goes_on_one_answer : OneAnswer goes_on.Kinds.ps goes_on.Kinds.r goes_on.Reads.Post
goes_on_one_answer κs a x y s t p q = p ∙ sym q

-- ---- the calls that write
pub next_row_one_answer : OneOutcome next_row.Kinds.ps next_row.Kinds.r (λ κs (settings, (format, (input, (position, (records, (payload, _)))))). records.now ∷ payload.now ∷ []) next_row.Reads.Post
next_row_one_answer κs a x y s t p q = (ap (λ d. d.answer) (p ∙ sym q), ap (λ d. d.records ∷ d.payload ∷ []) (p ∙ sym q))

pub encode_one_answer : OneOutcome encode.Kinds.ps encode.Kinds.r (λ κs (settings, (table, (names, (first, (count, (records, (payload, (output, (position, _))))))))). output.now ∷ []) encode.Reads.Post
encode_one_answer κs a x y s t p q = (ap (λ d. d.answer) (p ∙ sym q), ap (λ d. d.output ∷ []) (p ∙ sym q))

pub skiff2_skip_one_answer : OneOutcome skiff2_skip.Kinds.ps skiff2_skip.Kinds.r (λ κs (charge, (string32, (yson32, (row, (table, (names, (references, (registry, (input, (position, (answer, _))))))))))). answer.now ∷ []) skiff2_skip.Reads.Post
skiff2_skip_one_answer κs a x y s t p q = (ap (λ g. g.number) (p ∙ sym q), ap (λ g. g.answer ∷ []) (p ∙ sym q))

pub skiff2_run_one_answer : OneOutcome skiff2_run.Kinds.ps skiff2_run.Kinds.r (λ κs (charge, (string32, (yson32, (row, (table, (names, (references, (registry, (input, (answer, _)))))))))). answer.now ∷ []) skiff2_run.Reads.Post
skiff2_run_one_answer κs a x y s t p q = (ap (λ g. g.number) (p ∙ sym q), ap (λ g. g.answer ∷ []) (p ∙ sym q))

pub skiff2_run_window_one_answer : OneOutcome skiff2_run_window.Kinds.ps skiff2_run_window.Kinds.r (λ κs (charge, (string32, (yson32, (row, (table, (names, (references, (registry, (window, (rows, (bytes, (answer, _)))))))))))). answer.now ∷ []) skiff2_run_window.Reads.Post
skiff2_run_window_one_answer κs a x y s t p q = (ap (λ g. g.number) (p ∙ sym q), ap (λ g. g.answer ∷ []) (p ∙ sym q))

pub skiff2_decode_one_answer : OneOutcome skiff2_decode.Kinds.ps skiff2_decode.Kinds.r (λ κs (charge, (string32, (yson32, (row, (table, (names, (references, (registry, (input, (position, (records, (payload, (answer, _))))))))))))). answer.now ∷ records.now ∷ payload.now ∷ []) skiff2_decode.Reads.Post
skiff2_decode_one_answer κs a x y s t p q = (ap (λ g. g.number) (p ∙ sym q), ap (λ g. g.answer ∷ g.records ∷ g.payload ∷ []) (p ∙ sym q))

pub skiff2_encode_one_answer : OneOutcome skiff2_encode.Kinds.ps skiff2_encode.Kinds.r (λ κs (charge, (string32, (yson32, (row, (table, (names, (first, (count, (records, (payload, (output, (position, (answer, _))))))))))))). answer.now ∷ output.now ∷ []) skiff2_encode.Reads.Post
skiff2_encode_one_answer κs a x y s t p q = (ap (λ g. g.number) (p ∙ sym q), ap (λ g. g.answer ∷ g.lent ∷ []) (p ∙ sym q))

pub skiff2_check_value_table_one_answer : OneOutcome skiff2_check_value_table.Kinds.ps skiff2_check_value_table.Kinds.r (λ κs (records, (payload, (answer, _))). answer.now ∷ []) skiff2_check_value_table.Reads.Post
skiff2_check_value_table_one_answer κs a x y s t p q = (ap (λ g. g.number) (p ∙ sym q), ap (λ g. g.answer ∷ []) (p ∙ sym q))

pub skiff2_check_format_one_answer : OneOutcome skiff2_check_format.Kinds.ps skiff2_check_format.Kinds.r (λ κs (table, (names, (references, (registry, (answer, _))))). answer.now ∷ []) skiff2_check_format.Reads.Post
skiff2_check_format_one_answer κs a x y s t p q = (ap (λ g. g.number) (p ∙ sym q), ap (λ g. g.answer ∷ []) (p ∙ sym q))

pub skiff2_check_encoder_schema_one_answer : OneOutcome skiff2_check_encoder_schema.Kinds.ps skiff2_check_encoder_schema.Kinds.r (λ κs (table, (names, (first, (count, (answer, _))))). answer.now ∷ []) skiff2_check_encoder_schema.Reads.Post
skiff2_check_encoder_schema_one_answer κs a x y s t p q = (ap (λ g. g.number) (p ∙ sym q), ap (λ g. g.answer ∷ []) (p ∙ sym q))

pub skiff2_check_name_one_answer : OneOutcome skiff2_check_name.Kinds.ps skiff2_check_name.Kinds.r (λ κs (name, (answer, _)). answer.now ∷ []) skiff2_check_name.Reads.Post
skiff2_check_name_one_answer κs a x y s t p q = (ap (λ g. g.number) (p ∙ sym q), ap (λ g. g.answer ∷ []) (p ∙ sym q))

pub skiff2_parse_one_answer : OneOutcome skiff2_parse.Kinds.ps skiff2_parse.Kinds.r (λ κs (name, (answer, _)). answer.now ∷ []) skiff2_parse.Reads.Post
skiff2_parse_one_answer κs a x y s t p q = (ap (λ g. g.number) (p ∙ sym q), ap (λ g. g.answer ∷ []) (p ∙ sym q))

pub skiff2_value_one_answer : OneOutcome skiff2_value.Kinds.ps skiff2_value.Kinds.r (λ κs (records, (index, (answer, _))). answer.now ∷ []) skiff2_value.Reads.Post
skiff2_value_one_answer κs a x y s t p q = (ap (λ g. g.number) (p ∙ sym q), ap (λ g. g.answer ∷ []) (p ∙ sym q))

pub skiff2_kind_one_answer : OneOutcome skiff2_kind.Kinds.ps skiff2_kind.Kinds.r (λ κs (records, (at, (answer, _))). answer.now ∷ []) skiff2_kind.Reads.Post
skiff2_kind_one_answer κs a x y s t p q = (ap (λ g. g.number) (p ∙ sym q), ap (λ g. g.answer ∷ []) (p ∙ sym q))

pub skiff2_tag_one_answer : OneOutcome skiff2_tag.Kinds.ps skiff2_tag.Kinds.r (λ κs (records, (at, (answer, _))). answer.now ∷ []) skiff2_tag.Reads.Post
skiff2_tag_one_answer κs a x y s t p q = (ap (λ g. g.number) (p ∙ sym q), ap (λ g. g.answer ∷ []) (p ∙ sym q))

pub skiff2_child_count_one_answer : OneOutcome skiff2_child_count.Kinds.ps skiff2_child_count.Kinds.r (λ κs (records, (at, (answer, _))). answer.now ∷ []) skiff2_child_count.Reads.Post
skiff2_child_count_one_answer κs a x y s t p q = (ap (λ g. g.number) (p ∙ sym q), ap (λ g. g.answer ∷ []) (p ∙ sym q))

pub skiff2_after_one_answer : OneOutcome skiff2_after.Kinds.ps skiff2_after.Kinds.r (λ κs (records, (at, (answer, _))). answer.now ∷ []) skiff2_after.Reads.Post
skiff2_after_one_answer κs a x y s t p q = (ap (λ g. g.number) (p ∙ sym q), ap (λ g. g.answer ∷ []) (p ∙ sym q))

pub skiff2_field_one_answer : OneOutcome skiff2_field.Kinds.ps skiff2_field.Kinds.r (λ κs (records, (at, (field, (answer, _)))). answer.now ∷ []) skiff2_field.Reads.Post
skiff2_field_one_answer κs a x y s t p q = (ap (λ g. g.number) (p ∙ sym q), ap (λ g. g.answer ∷ []) (p ∙ sym q))
