-- No second answer of the index's calls, C functions and steps, said of each one's own contract as in OneAnswer.
-- Assumes nothing.
use mathlib.Core.Path.{refl, sym, ap, ◌∙◌}
use mathlib.Core.List.{[], ◌∷◌}
use Rattle.record.proofs.index_record.index_records_in
use Rattle.record.proofs.index_record.are_index_records
use Rattle.record.proofs.index_record.index_record_at
use Rattle.record.proofs.index_record.put_index_record
use Rattle.index.proofs.records.compare_records
use Rattle.index.proofs.records.put_records
use Rattle.index.proofs.build_index
use Rattle.index.proofs.check_index
use Rattle.index.proofs.extend_index
use Rattle.indexed_row.proofs.decode_record
use Rattle.indexed_row.proofs.decode_indexed
use Rattle.skiff.proofs.indexing.skiff2_build_index
use Rattle.skiff.proofs.indexing.skiff2_check_index
use Rattle.skiff.proofs.indexing.skiff2_extend_index
use Rattle.skiff.proofs.indexing.skiff2_decode_indexed
use Rattle.call_promises.proofs.OneAnswer.{OneAnswer, OneOutcome}

-- ---- the calls
pub build_index_one_answer : OneOutcome build_index.Kinds.ps build_index.Kinds.r (λ κs (settings, (format, (input, (index, _)))). index.now ∷ []) build_index.Reads.Post
build_index_one_answer κs a x y s t p q = (ap (λ d. d.answer) (p ∙ sym q), ap (λ d. d.index ∷ []) (p ∙ sym q))

pub check_index_one_answer : OneAnswer check_index.Kinds.ps check_index.Kinds.r check_index.Reads.Post
check_index_one_answer κs a x y s t p q = p ∙ sym q

pub extend_index_one_answer : OneOutcome extend_index.Kinds.ps extend_index.Kinds.r (λ κs (settings, (format, (input, (old, (index, _))))). index.now ∷ []) extend_index.Reads.Post
extend_index_one_answer κs a x y s t p q = (ap (λ d. d.answer) (p ∙ sym q), ap (λ d. d.index ∷ []) (p ∙ sym q))

pub decode_indexed_one_answer : OneOutcome decode_indexed.Kinds.ps decode_indexed.Kinds.r (λ κs (settings, (format, (input, (index, (row, (records, (payload, _))))))). records.now ∷ payload.now ∷ []) decode_indexed.Reads.Post
decode_indexed_one_answer κs a x y s t p q = (ap (λ d. d.answer) (p ∙ sym q), ap (λ d. d.records ∷ d.payload ∷ []) (p ∙ sym q))

-- ---- the C functions
pub skiff2_build_index_one_answer : OneOutcome skiff2_build_index.Kinds.ps skiff2_build_index.Kinds.r (λ κs (charge, (string32, (yson32, (row, (table, (names, (references, (registry, (input, (index, (answer, _))))))))))). answer.now ∷ index.now ∷ []) skiff2_build_index.Reads.Post
skiff2_build_index_one_answer κs a x y s t p q = (ap (λ d. d.number) (p ∙ sym q), ap (λ d. d.answer ∷ d.lent ∷ []) (p ∙ sym q))

pub skiff2_check_index_one_answer : OneOutcome skiff2_check_index.Kinds.ps skiff2_check_index.Kinds.r (λ κs (charge, (string32, (yson32, (row, (table, (names, (references, (registry, (input, (index, (answer, _))))))))))). answer.now ∷ []) skiff2_check_index.Reads.Post
skiff2_check_index_one_answer κs a x y s t p q = (ap (λ d. d.number) (p ∙ sym q), ap (λ d. d.answer ∷ []) (p ∙ sym q))

pub skiff2_extend_index_one_answer : OneOutcome skiff2_extend_index.Kinds.ps skiff2_extend_index.Kinds.r (λ κs (charge, (string32, (yson32, (row, (table, (names, (references, (registry, (input, (old, (index, (answer, _)))))))))))). answer.now ∷ index.now ∷ []) skiff2_extend_index.Reads.Post
skiff2_extend_index_one_answer κs a x y s t p q = (ap (λ d. d.number) (p ∙ sym q), ap (λ d. d.answer ∷ d.lent ∷ []) (p ∙ sym q))

pub skiff2_decode_indexed_one_answer : OneOutcome skiff2_decode_indexed.Kinds.ps skiff2_decode_indexed.Kinds.r (λ κs (charge, (string32, (yson32, (row, (table, (names, (references, (registry, (input, (index, (n, (records, (payload, (answer, _)))))))))))))). answer.now ∷ records.now ∷ payload.now ∷ []) skiff2_decode_indexed.Reads.Post
skiff2_decode_indexed_one_answer κs a x y s t p q = (ap (λ d. d.number) (p ∙ sym q), ap (λ d. d.answer ∷ d.records ∷ d.payload ∷ []) (p ∙ sym q))

-- ---- the steps
pub index_records_in_one_answer : OneAnswer index_records_in.Kinds.ps index_records_in.Kinds.r index_records_in.Reads.Post
index_records_in_one_answer κs a x y s t p q = p ∙ sym q

pub are_index_records_one_answer : OneAnswer are_index_records.Kinds.ps are_index_records.Kinds.r are_index_records.Reads.Post
are_index_records_one_answer κs a x y s t p q = p ∙ sym q

pub index_record_at_one_answer : OneAnswer index_record_at.Kinds.ps index_record_at.Kinds.r index_record_at.Reads.Post
index_record_at_one_answer κs a x y s t p q = p ∙ sym q

pub put_index_record_one_answer : OneOutcome put_index_record.Kinds.ps put_index_record.Kinds.r (λ κs (index, _). index.now ∷ []) put_index_record.Reads.Post
put_index_record_one_answer κs a x y s t p q = (refl, rw (p, q))

pub compare_records_one_answer : OneAnswer compare_records.Kinds.ps compare_records.Kinds.r compare_records.Reads.Post
compare_records_one_answer κs a x y s t p q = p ∙ sym q

pub put_records_one_answer : OneOutcome put_records.Kinds.ps put_records.Kinds.r (λ κs (format, (input, (settings, (index, (first, (start, _)))))). index.now ∷ []) put_records.Reads.Post
put_records_one_answer κs a x y s t p q = (refl, rw (p, q))

pub decode_record_one_answer : OneOutcome decode_record.Kinds.ps decode_record.Kinds.r (λ κs (format, (input, (indexed, (settings, (records, (payload, _)))))). records.now ∷ payload.now ∷ []) decode_record.Reads.Post
decode_record_one_answer κs a x y s t p q = (ap (λ d. d.answer) (p ∙ sym q), ap (λ d. d.records ∷ d.payload ∷ []) (p ∙ sym q))
