-- No second answer, said of the contract of each function that the archive exports, in the words in which the page of the calls
-- (call_promises) says it of the functions behind them: a weaker `ensures` of an export fails here.
-- Assumes nothing.
use mathlib.Core.Path.{sym, ◌∙◌, ap}
use mathlib.Core.List.{[], ◌∷◌}
use Rattle.call_promises.proofs.OneAnswer.{OneOutcome}
use Rattle.skiff_c.proofs.reading.skiff2_skip
use Rattle.skiff_c.proofs.reading.skiff2_run
use Rattle.skiff_c.proofs.reading.skiff2_decode
use Rattle.skiff_c.proofs.window.skiff2_run_window
use Rattle.skiff_c.proofs.writing.skiff2_encode
use Rattle.skiff_c.proofs.writing.skiff2_check_value_table
use Rattle.skiff_c.proofs.checking.skiff2_check_format
use Rattle.skiff_c.proofs.checking.skiff2_check_encoder_schema
use Rattle.skiff_c.proofs.checking.skiff2_check_name
use Rattle.skiff_c.proofs.checking.skiff2_parse
use Rattle.skiff_c.proofs.querying.skiff2_value
use Rattle.skiff_c.proofs.viewing.skiff2_kind
use Rattle.skiff_c.proofs.viewing.skiff2_tag
use Rattle.skiff_c.proofs.viewing.skiff2_child_count
use Rattle.skiff_c.proofs.viewing.skiff2_after
use Rattle.skiff_c.proofs.viewing.skiff2_field
use Rattle.skiff_c.proofs.indexing.skiff2_build_index
use Rattle.skiff_c.proofs.indexing.skiff2_check_index
use Rattle.skiff_c.proofs.indexing.skiff2_extend_index
use Rattle.skiff_c.proofs.indexing.skiff2_decode_indexed
use Rattle.skiff_c.proofs.printing.skiff2_integer_text

pub skiff2_skip_one_answer : OneOutcome skiff2_skip.Kinds.ps skiff2_skip.Kinds.r (λ κs (charge, (string32, (yson32, (row, (table, (names, (references, (registry, (input, (position, (answer, _))))))))))). answer.now ∷ []) skiff2_skip.Reads.Post
skiff2_skip_one_answer κs a x y s t p q = (ap (λ g. g.number) (p ∙ sym q), ap (λ g. g.answer ∷ []) (p ∙ sym q))

pub skiff2_run_one_answer : OneOutcome skiff2_run.Kinds.ps skiff2_run.Kinds.r (λ κs (charge, (string32, (yson32, (row, (table, (names, (references, (registry, (input, (answer, _)))))))))). answer.now ∷ []) skiff2_run.Reads.Post
skiff2_run_one_answer κs a x y s t p q = (ap (λ g. g.number) (p ∙ sym q), ap (λ g. g.answer ∷ []) (p ∙ sym q))

pub skiff2_run_window_one_answer : OneOutcome skiff2_run_window.Kinds.ps skiff2_run_window.Kinds.r (λ κs (charge, (string32, (yson32, (row, (table, (names, (references, (registry, (window, (rows, (bytes, (answer, _)))))))))))). answer.now ∷ []) skiff2_run_window.Reads.Post
skiff2_run_window_one_answer κs a x y s t p q = (ap (λ g. g.number) (p ∙ sym q), ap (λ g. g.answer ∷ []) (p ∙ sym q))

pub skiff2_decode_one_answer : OneOutcome skiff2_decode.Kinds.ps skiff2_decode.Kinds.r (λ κs (charge, (string32, (yson32, (row, (table, (names, (references, (registry, (input, (position, (records, (payload, (answer, _))))))))))))). answer.now ∷ records.now ∷ payload.now ∷ []) skiff2_decode.Reads.Post
skiff2_decode_one_answer κs a x y s t p q = (ap (λ g. g.number) (p ∙ sym q), ap (λ g. g.answer ∷ g.records ∷ g.payload ∷ []) (p ∙ sym q))

pub skiff2_encode_one_answer : OneOutcome skiff2_encode.Kinds.ps skiff2_encode.Kinds.r (λ κs (charge, (string32, (yson32, (row, (table, (names, (first, (count, (records, (payload, (output, (position, (answer, _))))))))))))). answer.now ∷ output.now ∷ []) skiff2_encode.Reads.Post
skiff2_encode_one_answer κs a x y s t p q = (ap (λ g. g.number) (p ∙ sym q), ap (λ g. g.answer ∷ g.lent ∷ []) (p ∙ sym q))

pub skiff2_check_value_table_one_answer : OneOutcome skiff2_check_value_table.Kinds.ps skiff2_check_value_table.Kinds.r (λ κs (records, (payload, (answer, _))). answer.now ∷ []) skiff2_check_value_table.Reads.Post
skiff2_check_value_table_one_answer κs a x y s t p q = (ap (λ g. g.number) (p ∙ sym q), ap (λ g. g.answer ∷ []) (p ∙ sym q))

pub skiff2_check_format_one_answer : OneOutcome skiff2_check_format.Kinds.ps skiff2_check_format.Kinds.r (λ κs (table, (names, (references, (registry, (answer, _))))). answer.now ∷ []) skiff2_check_format.Reads.Post
skiff2_check_format_one_answer κs a x y s t p q = (ap (λ g. g.number) (p ∙ sym q), ap (λ g. g.answer ∷ []) (p ∙ sym q))

pub skiff2_check_encoder_schema_one_answer : OneOutcome skiff2_check_encoder_schema.Kinds.ps skiff2_check_encoder_schema.Kinds.r (λ κs (table, (names, (first, (count, (answer, _))))). answer.now ∷ []) skiff2_check_encoder_schema.Reads.Post
skiff2_check_encoder_schema_one_answer κs a x y s t p q = (ap (λ g. g.number) (p ∙ sym q), ap (λ g. g.answer ∷ []) (p ∙ sym q))

pub skiff2_check_name_one_answer : OneOutcome skiff2_check_name.Kinds.ps skiff2_check_name.Kinds.r (λ κs (name, (answer, _)). answer.now ∷ []) skiff2_check_name.Reads.Post
skiff2_check_name_one_answer κs a x y s t p q = (ap (λ g. g.number) (p ∙ sym q), ap (λ g. g.answer ∷ []) (p ∙ sym q))

pub skiff2_parse_one_answer : OneOutcome skiff2_parse.Kinds.ps skiff2_parse.Kinds.r (λ κs (name, (answer, _)). answer.now ∷ []) skiff2_parse.Reads.Post
skiff2_parse_one_answer κs a x y s t p q = (ap (λ g. g.number) (p ∙ sym q), ap (λ g. g.answer ∷ []) (p ∙ sym q))

pub skiff2_value_one_answer : OneOutcome skiff2_value.Kinds.ps skiff2_value.Kinds.r (λ κs (records, (index, (answer, _))). answer.now ∷ []) skiff2_value.Reads.Post
skiff2_value_one_answer κs a x y s t p q = (ap (λ g. g.number) (p ∙ sym q), ap (λ g. g.answer ∷ []) (p ∙ sym q))

pub skiff2_kind_one_answer : OneOutcome skiff2_kind.Kinds.ps skiff2_kind.Kinds.r (λ κs (records, (at, (answer, _))). answer.now ∷ []) skiff2_kind.Reads.Post
skiff2_kind_one_answer κs a x y s t p q = (ap (λ g. g.number) (p ∙ sym q), ap (λ g. g.answer ∷ []) (p ∙ sym q))

pub skiff2_tag_one_answer : OneOutcome skiff2_tag.Kinds.ps skiff2_tag.Kinds.r (λ κs (records, (at, (answer, _))). answer.now ∷ []) skiff2_tag.Reads.Post
skiff2_tag_one_answer κs a x y s t p q = (ap (λ g. g.number) (p ∙ sym q), ap (λ g. g.answer ∷ []) (p ∙ sym q))

pub skiff2_child_count_one_answer : OneOutcome skiff2_child_count.Kinds.ps skiff2_child_count.Kinds.r (λ κs (records, (at, (answer, _))). answer.now ∷ []) skiff2_child_count.Reads.Post
skiff2_child_count_one_answer κs a x y s t p q = (ap (λ g. g.number) (p ∙ sym q), ap (λ g. g.answer ∷ []) (p ∙ sym q))

pub skiff2_after_one_answer : OneOutcome skiff2_after.Kinds.ps skiff2_after.Kinds.r (λ κs (records, (at, (answer, _))). answer.now ∷ []) skiff2_after.Reads.Post
skiff2_after_one_answer κs a x y s t p q = (ap (λ g. g.number) (p ∙ sym q), ap (λ g. g.answer ∷ []) (p ∙ sym q))

pub skiff2_field_one_answer : OneOutcome skiff2_field.Kinds.ps skiff2_field.Kinds.r (λ κs (records, (at, (field, (answer, _)))). answer.now ∷ []) skiff2_field.Reads.Post
skiff2_field_one_answer κs a x y s t p q = (ap (λ g. g.number) (p ∙ sym q), ap (λ g. g.answer ∷ []) (p ∙ sym q))

pub skiff2_build_index_one_answer : OneOutcome skiff2_build_index.Kinds.ps skiff2_build_index.Kinds.r (λ κs (charge, (string32, (yson32, (row, (table, (names, (references, (registry, (input, (index, (answer, _))))))))))). answer.now ∷ index.now ∷ []) skiff2_build_index.Reads.Post
skiff2_build_index_one_answer κs a x y s t p q = (ap (λ d. d.number) (p ∙ sym q), ap (λ d. d.answer ∷ d.lent ∷ []) (p ∙ sym q))

pub skiff2_check_index_one_answer : OneOutcome skiff2_check_index.Kinds.ps skiff2_check_index.Kinds.r (λ κs (charge, (string32, (yson32, (row, (table, (names, (references, (registry, (input, (index, (answer, _))))))))))). answer.now ∷ []) skiff2_check_index.Reads.Post
skiff2_check_index_one_answer κs a x y s t p q = (ap (λ d. d.number) (p ∙ sym q), ap (λ d. d.answer ∷ []) (p ∙ sym q))

pub skiff2_extend_index_one_answer : OneOutcome skiff2_extend_index.Kinds.ps skiff2_extend_index.Kinds.r (λ κs (charge, (string32, (yson32, (row, (table, (names, (references, (registry, (input, (old, (index, (answer, _)))))))))))). answer.now ∷ index.now ∷ []) skiff2_extend_index.Reads.Post
skiff2_extend_index_one_answer κs a x y s t p q = (ap (λ d. d.number) (p ∙ sym q), ap (λ d. d.answer ∷ d.lent ∷ []) (p ∙ sym q))

pub skiff2_decode_indexed_one_answer : OneOutcome skiff2_decode_indexed.Kinds.ps skiff2_decode_indexed.Kinds.r (λ κs (charge, (string32, (yson32, (row, (table, (names, (references, (registry, (input, (index, (n, (records, (payload, (answer, _)))))))))))))). answer.now ∷ records.now ∷ payload.now ∷ []) skiff2_decode_indexed.Reads.Post
skiff2_decode_indexed_one_answer κs a x y s t p q = (ap (λ d. d.number) (p ∙ sym q), ap (λ d. d.answer ∷ d.records ∷ d.payload ∷ []) (p ∙ sym q))

pub skiff2_integer_text_one_answer : OneOutcome skiff2_integer_text.Kinds.ps skiff2_integer_text.Kinds.r (λ κs (bytes, (text, (answer, _))). answer.now ∷ text.now ∷ []) skiff2_integer_text.Reads.Post
skiff2_integer_text_one_answer κs a x y s t p q = (ap (λ d. d.number) (p ∙ sym q), ap (λ d. d.answer ∷ d.lent ∷ []) (p ∙ sym q))
