-- No second answer, of the public functions that other crates call on the way to an answer: steps, most of them with a `requires`,
-- which the statements here do not need.
-- Assumes nothing.
use mathlib.Core.Path.{◌≡◌, refl, sym, ◌∙◌, ap}
use mathlib.Core.List.{[], ◌∷◌}
use native.Mathlib.Omega.{arith}
use Prim.Native.Nat.{ℕ}
use Rattle.std.specs.Prelude.{⊤}
use Rattle.std.proofs.Common.{Result, Ok, Err}
use Rattle.rules.specs.declared.answer.Extent.{Extent}
use Rattle.rules.specs.declared.refusal.Refusal.{Refusal}
use Rattle.row.specs.Steps.{a_row}
use Rattle.decode.specs.Steps.{given_room}
use contract.Lifetimes.{Lfts}
use borrow.Fn.Kinds.{Dens, res_t, ended_of}
use denote.Triple.Clauses.{AtExit}
use Rattle.call_promises.proofs.OneAnswer.{OneAnswer, OneOutcome}
use Rattle.rules.proofs.settings.room_in
use Rattle.wire.proofs.numbers.wide
use Rattle.wire.proofs.numbers.u16_at
use Rattle.wire.proofs.numbers.u32_at
use Rattle.wire.proofs.numbers.u64_at
use Rattle.wire.proofs.numbers.field
use Rattle.wire.proofs.order.order_of
use Rattle.wire.proofs.order.compare
use Rattle.wire.proofs.order.is_equal
use Rattle.record.proofs.node.node_at as Node_at
use Rattle.record.proofs.node.node_code
use Rattle.record.proofs.node.node_first
use Rattle.record.proofs.node.node_children
use Rattle.record.proofs.value_record.value_record_at
use Rattle.record.proofs.value_record.records_in
use Rattle.block.proofs.form.span_ok
use Rattle.block.proofs.form.block_ok
use Rattle.block.proofs.form.depth_of
use Rattle.block.proofs.table.block_of as Block_of
use Rattle.block.proofs.table.block_form_ok
use Rattle.block.proofs.table.block_depth_ok
use Rattle.block.proofs.table.block_rule
use Rattle.block.proofs.table.block_root
use Rattle.block.proofs.table.block_stands
use Rattle.block.proofs.validation.validate
use Rattle.block.proofs.validation.check_root
use Rattle.schema.proofs.encoder_rules
use Rattle.schema.proofs.format_rules
use Rattle.schema.proofs.forms.forms_ok
use Rattle.schema.proofs.depths.depths_ok
use Rattle.schema.proofs.order.rules_order
use Rattle.record.proofs.reference.reference_at
use Rattle.record.proofs.entry.entry_at
use Rattle.schema.proofs.format.lookup
use Rattle.schema.proofs.format.resolve
use Rattle.schema.proofs.format.table_schema
use Rattle.leaves.proofs.budget.RowBudget.new as budget_new
use Rattle.leaves.proofs.budget.RowBudget.charge
use Rattle.leaves.proofs.budget.blob_limit
use Rattle.charge.proofs.lower
use Rattle.leaves.proofs.fields.read_tag
use Rattle.leaves.proofs.fields.read_table
use Rattle.leaves.proofs.fields.read_length
use Rattle.wire.proofs.codes.code_width as width_of_code
use Rattle.leaves.proofs.fields.payload_of_fixed
use Rattle.leaves.proofs.fields.ends
use Rattle.read.proofs.walk.skip_root
use Rattle.row.proofs.door.within_bounds
use Rattle.row.proofs.door.door
use Rattle.row.proofs.steps.block_at
use Rattle.row.proofs.steps.row_of
use Rattle.row.proofs.steps.row_at
use Rattle.run.proofs.run_rows
use Rattle.decode.proofs.steps.room_for
use Rattle.answers.proofs.answer_of_read
use Rattle.answers.proofs.answer_of_ran
use Rattle.answers.proofs.answer_of_written
use Rattle.answers.proofs.answer_of_checked
use Rattle.answers.proofs.answer_of_known
use Rattle.answers.proofs.answer_of_queried
use Rattle.answers.proofs.answer_of_viewed
use Rattle.answers.proofs.give
use Rattle.scalars.proofs.scalar_in_numbers
use Rattle.wire.proofs.store.put16
use Rattle.wire.proofs.store.put32
use Rattle.wire.proofs.store.put64
use Rattle.record.proofs.value_record.put_record
use Rattle.payload.proofs.copy
use Rattle.payload.proofs.copy_wide
use Rattle.record.proofs.value_record.whole_records
use Rattle.block.proofs.validation.level_rule
use Rattle.block.proofs.validation.passes
use Rattle.block.proofs.form.node_ok as Node_Ok
use Rattle.block.proofs.table.block_passes
use Rattle.schema.proofs.encoder_rules_at_once
use Rattle.value.proofs.record_ok
use Rattle.value.proofs.table_form
use Rattle.fill.proofs.fill_row
use Rattle.decode.proofs.steps.fill_at
use Rattle.decode.proofs.steps.decode_row
use Rattle.judge.proofs.walk.judge_leaf
use Rattle.judge.proofs.walk.next_child as next_judged_child
use Rattle.judge.proofs.walk.judge_row
use Rattle.write.proofs.put.put_row
use Rattle.write.proofs.put.put_flat_row
use Rattle.write.proofs.steps.room_for as room_for_row
use Rattle.write.proofs.steps.place_row
use Rattle.write.proofs.steps.place_flat_row
use Rattle.write.proofs.steps.write_row
use Rattle.wire.proofs.codes.tag_width
use Rattle.windows.proofs.run_on
use Rattle.windows.proofs.no_rows
use Rattle.windows.proofs.space.run_window
use Rattle.lines.proofs.put_text
use Rattle.lines.proofs.put_decimal
use Rattle.lines.proofs.put_number
use Rattle.lines.proofs.put_word
use Rattle.lines.proofs.put_end_line
use Rattle.lines.proofs.put_run_line
use Rattle.failures.proofs.put_failure_line
use Rattle.failures.proofs.put_usage_line

-- ---- numbers and byte strings
pub wide_one_answer : OneAnswer wide.Kinds.ps wide.Kinds.r wide.Reads.Post
wide_one_answer κs a x y s t p q = p.0 ∙ sym q.0

pub u16_at_one_answer : OneAnswer u16_at.Kinds.ps u16_at.Kinds.r u16_at.Reads.Post
u16_at_one_answer κs a x y s t p q = p ∙ sym q

pub u32_at_one_answer : OneAnswer u32_at.Kinds.ps u32_at.Kinds.r u32_at.Reads.Post
u32_at_one_answer κs a x y s t p q = p ∙ sym q

pub u64_at_one_answer : OneAnswer u64_at.Kinds.ps u64_at.Kinds.r u64_at.Reads.Post
u64_at_one_answer κs a x y s t p q = p ∙ sym q

pub field_one_answer : OneAnswer field.Kinds.ps field.Kinds.r field.Reads.Post
field_one_answer κs a x y s t p q = p ∙ sym q

pub order_of_one_answer : OneAnswer order_of.Kinds.ps order_of.Kinds.r order_of.Reads.Post
order_of_one_answer κs a x y s t p q = p ∙ sym q

pub compare_one_answer : OneAnswer compare.Kinds.ps compare.Kinds.r compare.Reads.Post
compare_one_answer κs a x y s t p q = p ∙ sym q

pub is_equal_one_answer : OneAnswer is_equal.Kinds.ps is_equal.Kinds.r is_equal.Reads.Post
is_equal_one_answer κs a x y s t p q = p ∙ sym q

pub room_in_one_answer : OneAnswer room_in.Kinds.ps room_in.Kinds.r room_in.Reads.Post
room_in_one_answer κs a x y s t p q = p ∙ sym q

-- ---- a block
pub node_at_one_answer : OneAnswer Node_at.Kinds.ps Node_at.Kinds.r Node_at.Reads.Post
node_at_one_answer κs a x y s t p q = p ∙ sym q

pub node_code_one_answer : OneAnswer node_code.Kinds.ps node_code.Kinds.r node_code.Reads.Post
node_code_one_answer κs a x y s t p q = p ∙ sym q

pub node_first_one_answer : OneAnswer node_first.Kinds.ps node_first.Kinds.r node_first.Reads.Post
node_first_one_answer κs a x y s t p q = p ∙ sym q

pub node_children_one_answer : OneAnswer node_children.Kinds.ps node_children.Kinds.r node_children.Reads.Post
node_children_one_answer κs a x y s t p q = p ∙ sym q

pub value_record_at_one_answer : OneAnswer value_record_at.Kinds.ps value_record_at.Kinds.r value_record_at.Reads.Post
value_record_at_one_answer κs a x y s t p q = p ∙ sym q

pub records_in_one_answer : OneAnswer records_in.Kinds.ps records_in.Kinds.r records_in.Reads.Post
records_in_one_answer κs a x y s t p q = p ∙ sym q

pub span_ok_one_answer : OneAnswer span_ok.Kinds.ps span_ok.Kinds.r span_ok.Reads.Post
span_ok_one_answer κs a x y s t p q = p ∙ sym q

pub block_ok_one_answer : OneAnswer block_ok.Kinds.ps block_ok.Kinds.r block_ok.Reads.Post
block_ok_one_answer κs a x y s t p q = p ∙ sym q

pub depth_of_one_answer : OneAnswer depth_of.Kinds.ps depth_of.Kinds.r depth_of.Reads.Post
depth_of_one_answer κs a x y s t p q = p ∙ sym q

-- the part of the table that is handed back has one contents
pub block_of_one_answer : (κs : Lfts 1) (a : Dens κs Block_of.Kinds.ps) (x y : (res_t Block_of.Kinds.r κs).Denot) (s t : AtExit (ended_of 1 Block_of.Kinds.ps Block_of.Kinds.r) κs) → Block_of.Reads.Post κs a x s → Block_of.Reads.Post κs a y t → x.now ≡ y.now
block_of_one_answer κs a x y s t p q = p ∙ sym q

pub block_form_ok_one_answer : OneAnswer block_form_ok.Kinds.ps block_form_ok.Kinds.r block_form_ok.Reads.Post
block_form_ok_one_answer κs a x y s t p q = p ∙ sym q

pub block_depth_ok_one_answer : OneAnswer block_depth_ok.Kinds.ps block_depth_ok.Kinds.r block_depth_ok.Reads.Post
block_depth_ok_one_answer κs a x y s t p q = p ∙ sym q

pub block_rule_one_answer : OneAnswer block_rule.Kinds.ps block_rule.Kinds.r block_rule.Reads.Post
block_rule_one_answer κs a x y s t p q = p ∙ sym q

pub block_root_one_answer : OneAnswer block_root.Kinds.ps block_root.Kinds.r block_root.Reads.Post
block_root_one_answer κs a x y s t p q = p ∙ sym q

pub block_stands_one_answer : OneAnswer block_stands.Kinds.ps block_stands.Kinds.r block_stands.Reads.Post
block_stands_one_answer κs a x y s t p q = p ∙ sym q

pub validate_one_answer : OneAnswer validate.Kinds.ps validate.Kinds.r validate.Reads.Post
validate_one_answer κs a x y s t p q = p ∙ sym q

pub check_root_one_answer : OneAnswer check_root.Kinds.ps check_root.Kinds.r check_root.Reads.Post
check_root_one_answer κs a x y s t p q = p ∙ sym q

-- ---- a format
pub encoder_rules_one_answer : OneAnswer encoder_rules.Kinds.ps encoder_rules.Kinds.r encoder_rules.Reads.Post
encoder_rules_one_answer κs a x y s t p q = p ∙ sym q

pub format_rules_one_answer : OneAnswer format_rules.Kinds.ps format_rules.Kinds.r format_rules.Reads.Post
format_rules_one_answer κs a x y s t p q = p ∙ sym q

pub forms_ok_one_answer : OneAnswer forms_ok.Kinds.ps forms_ok.Kinds.r forms_ok.Reads.Post
forms_ok_one_answer κs a x y s t p q = p ∙ sym q

pub depths_ok_one_answer : OneAnswer depths_ok.Kinds.ps depths_ok.Kinds.r depths_ok.Reads.Post
depths_ok_one_answer κs a x y s t p q = p ∙ sym q

pub rules_order_one_answer : OneAnswer rules_order.Kinds.ps rules_order.Kinds.r rules_order.Reads.Post
rules_order_one_answer κs a x y s t p q = p ∙ sym q

pub reference_at_one_answer : OneAnswer reference_at.Kinds.ps reference_at.Kinds.r reference_at.Reads.Post
reference_at_one_answer κs a x y s t p q = p ∙ sym q

pub entry_at_one_answer : OneAnswer entry_at.Kinds.ps entry_at.Kinds.r entry_at.Reads.Post
entry_at_one_answer κs a x y s t p q = p ∙ sym q

pub lookup_one_answer : OneAnswer lookup.Kinds.ps lookup.Kinds.r lookup.Reads.Post
lookup_one_answer κs a x y s t p q = p ∙ sym q

pub resolve_one_answer : OneAnswer resolve.Kinds.ps resolve.Kinds.r resolve.Reads.Post
resolve_one_answer κs a x y s t p q = p ∙ sym q

pub table_schema_one_answer : OneAnswer table_schema.Kinds.ps table_schema.Kinds.r table_schema.Reads.Post
table_schema_one_answer κs a x y s t p q = p ∙ sym q

-- ---- the walk
pub budget_new_one_answer : OneAnswer budget_new.Kinds.ps budget_new.Kinds.r budget_new.Reads.Post
budget_new_one_answer κs a x y s t p q = p ∙ sym q

pub charge_one_answer : OneAnswer charge.Kinds.ps charge.Kinds.r charge.Reads.Post
charge_one_answer κs a x y s t p q = p ∙ sym q

pub lower_one_answer : OneAnswer lower.Kinds.ps lower.Kinds.r lower.Reads.Post
lower_one_answer κs a x y s t p q = p ∙ sym q

pub blob_limit_one_answer : OneAnswer blob_limit.Kinds.ps blob_limit.Kinds.r blob_limit.Reads.Post
blob_limit_one_answer κs a x y s t p q = p ∙ sym q

pub read_tag_one_answer : OneAnswer read_tag.Kinds.ps read_tag.Kinds.r read_tag.Reads.Post
read_tag_one_answer κs a x y s t p q = p ∙ sym q

pub read_table_one_answer : OneAnswer read_table.Kinds.ps read_table.Kinds.r read_table.Reads.Post
read_table_one_answer κs a x y s t p q = p ∙ sym q

pub read_length_one_answer : OneAnswer read_length.Kinds.ps read_length.Kinds.r read_length.Reads.Post
read_length_one_answer κs a x y s t p q = p ∙ sym q

pub width_of_code_one_answer : OneAnswer width_of_code.Kinds.ps width_of_code.Kinds.r width_of_code.Reads.Post
width_of_code_one_answer κs a x y s t p q = p.0 ∙ sym q.0

pub payload_of_fixed_one_answer : OneAnswer payload_of_fixed.Kinds.ps payload_of_fixed.Kinds.r payload_of_fixed.Reads.Post
payload_of_fixed_one_answer κs a x y s t p q = p.0 ∙ sym q.0

pub ends_one_answer : OneAnswer ends.Kinds.ps ends.Kinds.r ends.Reads.Post
ends_one_answer κs a x y s t p q = p ∙ sym q

pub skip_root_one_answer : OneAnswer skip_root.Kinds.ps skip_root.Kinds.r skip_root.Reads.Post
skip_root_one_answer κs a x y s t p q = p ∙ sym q

-- ---- rows

-- steps whose answers are told among those of reading, which tell them apart
one_row : (x y : Result Extent Refusal) → a_row x ≡ a_row y → x ≡ y
unfolding a_row
one_row (Ok e) (Ok f) h = let z : e ≡ f = cc in rw z
one_row (Ok e) (Err r) h = absurd (let z : ◌≡◌ {A = ℕ} 0 1 = cc in omega arith)
one_row (Err r) (Ok e) h = absurd (let z : ◌≡◌ {A = ℕ} 0 1 = cc in omega arith)
one_row (Err r) (Err s) h = let z : r ≡ s = cc in rw z

one_room : (e : Extent) (x y : Result ⊤ Refusal) → given_room e x ≡ given_room e y → x ≡ y
unfolding given_room
one_room e (Ok u) (Ok v) h = refl
one_room e (Ok u) (Err r) h = absurd (let z : ◌≡◌ {A = ℕ} 0 1 = cc in omega arith)
one_room e (Err r) (Ok u) h = absurd (let z : ◌≡◌ {A = ℕ} 0 1 = cc in omega arith)
one_room e (Err r) (Err s) h = let z : r ≡ s = cc in rw z

pub within_bounds_one_answer : OneAnswer within_bounds.Kinds.ps within_bounds.Kinds.r within_bounds.Reads.Post
within_bounds_one_answer κs a x y s t p q = p ∙ sym q

pub door_one_answer : OneAnswer door.Kinds.ps door.Kinds.r door.Reads.Post
door_one_answer κs a x y s t p q = p ∙ sym q

pub block_at_one_answer : OneAnswer block_at.Kinds.ps block_at.Kinds.r block_at.Reads.Post
block_at_one_answer κs a x y s t p q = p ∙ sym q

pub row_of_one_answer : OneAnswer row_of.Kinds.ps row_of.Kinds.r row_of.Reads.Post
row_of_one_answer κs a x y s t p q = one_row x y (p ∙ sym q)

pub row_at_one_answer : OneAnswer row_at.Kinds.ps row_at.Kinds.r row_at.Reads.Post
row_at_one_answer κs a x y s t p q = one_row x y (p ∙ sym q)

pub run_rows_one_answer : OneAnswer run_rows.Kinds.ps run_rows.Kinds.r run_rows.Reads.Post
run_rows_one_answer κs a x y s t p q = p ∙ sym q

pub room_for_one_answer : OneAnswer room_for.Kinds.ps room_for.Kinds.r room_for.Reads.Post
room_for_one_answer κs a x y s t p q = one_room _ x y (p ∙ sym q)

-- ---- value tables
pub whole_records_one_answer : OneAnswer whole_records.Kinds.ps whole_records.Kinds.r whole_records.Reads.Post
whole_records_one_answer κs a x y s t p q = p ∙ sym q

pub table_form_one_answer : OneAnswer table_form.Kinds.ps table_form.Kinds.r table_form.Reads.Post
table_form_one_answer κs a x y s t p q = p ∙ sym q

-- ---- answers for C
pub answer_of_read_one_answer : OneAnswer answer_of_read.Kinds.ps answer_of_read.Kinds.r answer_of_read.Reads.Post
answer_of_read_one_answer κs a x y s t p q = p ∙ sym q

pub answer_of_ran_one_answer : OneAnswer answer_of_ran.Kinds.ps answer_of_ran.Kinds.r answer_of_ran.Reads.Post
answer_of_ran_one_answer κs a x y s t p q = p ∙ sym q

pub answer_of_written_one_answer : OneAnswer answer_of_written.Kinds.ps answer_of_written.Kinds.r answer_of_written.Reads.Post
answer_of_written_one_answer κs a x y s t p q = p ∙ sym q

pub answer_of_checked_one_answer : OneAnswer answer_of_checked.Kinds.ps answer_of_checked.Kinds.r answer_of_checked.Reads.Post
answer_of_checked_one_answer κs a x y s t p q = p ∙ sym q

pub answer_of_known_one_answer : OneAnswer answer_of_known.Kinds.ps answer_of_known.Kinds.r answer_of_known.Reads.Post
answer_of_known_one_answer κs a x y s t p q = p ∙ sym q

pub answer_of_queried_one_answer : OneAnswer answer_of_queried.Kinds.ps answer_of_queried.Kinds.r answer_of_queried.Reads.Post
answer_of_queried_one_answer κs a x y s t p q = p ∙ sym q

pub answer_of_viewed_one_answer : OneAnswer answer_of_viewed.Kinds.ps answer_of_viewed.Kinds.r answer_of_viewed.Reads.Post
answer_of_viewed_one_answer κs a x y s t p q = p ∙ sym q

pub scalar_in_numbers_one_answer : OneAnswer scalar_in_numbers.Kinds.ps scalar_in_numbers.Kinds.r scalar_in_numbers.Reads.Post
scalar_in_numbers_one_answer κs a x y s t p q = p ∙ sym q

-- ---- steps that write
pub put16_one_answer : OneOutcome put16.Kinds.ps put16.Kinds.r (λ κs (s, _). s.now ∷ []) put16.Reads.Post
put16_one_answer κs a x y s t p q = (refl, rw (p, q))

pub put32_one_answer : OneOutcome put32.Kinds.ps put32.Kinds.r (λ κs (s, _). s.now ∷ []) put32.Reads.Post
put32_one_answer κs a x y s t p q = (refl, rw (p, q))

pub put64_one_answer : OneOutcome put64.Kinds.ps put64.Kinds.r (λ κs (s, _). s.now ∷ []) put64.Reads.Post
put64_one_answer κs a x y s t p q = (refl, rw (p, q))

pub put_record_one_answer : OneOutcome put_record.Kinds.ps put_record.Kinds.r (λ κs (records, _). records.now ∷ []) put_record.Reads.Post
put_record_one_answer κs a x y s t p q = (refl, rw (p, q))

pub copy_one_answer : OneOutcome copy.Kinds.ps copy.Kinds.r (λ κs (input, (from, (n, (payload, _)))). payload.now ∷ []) copy.Reads.Post
copy_one_answer κs a x y s t p q = (refl, rw (p, q))

pub copy_wide_one_answer : OneOutcome copy_wide.Kinds.ps copy_wide.Kinds.r (λ κs (input, (from, (n, (payload, _)))). payload.now ∷ []) copy_wide.Reads.Post
copy_wide_one_answer κs a x y s t p q = (refl, rw (p, q))

pub fill_row_one_answer : OneOutcome fill_row.Kinds.ps fill_row.Kinds.r (λ κs (block, (input, (at, (records, (payload, _))))). records.now ∷ payload.now ∷ []) fill_row.Reads.Post
fill_row_one_answer κs a x y s t p q = (refl, rw (p.0, p.1, q.0, q.1))

pub fill_at_one_answer : OneOutcome fill_at.Kinds.ps fill_at.Kinds.r (λ κs (table, (input, (at, (first, (count, (records, (payload, _))))))). records.now ∷ payload.now ∷ []) fill_at.Reads.Post
fill_at_one_answer κs a x y s t p q = (refl, rw (p.0, p.1, q.0, q.1))

pub decode_row_one_answer : OneOutcome decode_row.Kinds.ps decode_row.Kinds.r (λ κs (format, (input, (at, (settings, (records, (payload, _)))))). records.now ∷ payload.now ∷ []) decode_row.Reads.Post
decode_row_one_answer κs a x y s t p q = (ap (λ d. d.answer) (p ∙ sym q), ap (λ d. d.records ∷ d.payload ∷ []) (p ∙ sym q))

pub give_one_answer : OneOutcome give.Kinds.ps give.Kinds.r (λ κs (s, _). s.now ∷ []) give.Reads.Post
give_one_answer κs a x y s t p q = (p.0 ∙ sym q.0, rw (p.1, q.1))

-- ---- rows that are written
pub record_ok_one_answer : OneAnswer record_ok.Kinds.ps record_ok.Kinds.r record_ok.Reads.Post
record_ok_one_answer κs a x y s t p q = p ∙ sym q

pub judge_leaf_one_answer : OneAnswer judge_leaf.Kinds.ps judge_leaf.Kinds.r judge_leaf.Reads.Post
judge_leaf_one_answer κs a x y s t p q = p ∙ sym q

pub next_judged_child_one_answer : OneAnswer next_judged_child.Kinds.ps next_judged_child.Kinds.r next_judged_child.Reads.Post
next_judged_child_one_answer κs a x y s t p q = p ∙ sym q

pub judge_row_one_answer : OneAnswer judge_row.Kinds.ps judge_row.Kinds.r judge_row.Reads.Post
judge_row_one_answer κs a x y s t p q = p ∙ sym q

pub room_for_row_one_answer : OneAnswer room_for_row.Kinds.ps room_for_row.Kinds.r room_for_row.Reads.Post
room_for_row_one_answer κs a x y s t p q = p ∙ sym q

pub put_row_one_answer : OneOutcome put_row.Kinds.ps put_row.Kinds.r (λ κs (block, (records, (payload, (out, _)))). out.now ∷ []) put_row.Reads.Post
put_row_one_answer κs a x y s t p q = (p.0 ∙ sym q.0, rw (p.1, q.1))

pub put_flat_row_one_answer : OneOutcome put_flat_row.Kinds.ps put_flat_row.Kinds.r (λ κs (block, (records, (payload, (out, _)))). out.now ∷ []) put_flat_row.Reads.Post
put_flat_row_one_answer κs a x y s t p q = (p.0 ∙ sym q.0, rw (p.1, q.1))

pub place_row_one_answer : OneOutcome place_row.Kinds.ps place_row.Kinds.r (λ κs (block, (settings, (p, (records, (payload, (out, _)))))). out.now ∷ []) place_row.Reads.Post
place_row_one_answer κs a x y s t p q = (p.0 ∙ sym q.0, rw (p.1, q.1))

pub place_flat_row_one_answer : OneOutcome place_flat_row.Kinds.ps place_flat_row.Kinds.r (λ κs (block, (settings, (p, (records, (payload, (out, _)))))). out.now ∷ []) place_flat_row.Reads.Post
place_flat_row_one_answer κs a x y s t p q = (p.0 ∙ sym q.0, rw (p.1, q.1))

pub write_row_one_answer : OneOutcome write_row.Kinds.ps write_row.Kinds.r (λ κs (block, (settings, (records, (payload, (out, _))))). out.now ∷ []) write_row.Reads.Post
write_row_one_answer κs a x y s t p q = (p.0 ∙ sym q.0, rw (p.1, q.1))

pub level_rule_one_answer : OneAnswer level_rule.Kinds.ps level_rule.Kinds.r level_rule.Reads.Post
level_rule_one_answer κs a x y s t p q = p ∙ sym q

pub passes_one_answer : OneAnswer passes.Kinds.ps passes.Kinds.r passes.Reads.Post
passes_one_answer κs a x y s t p q = p ∙ sym q

pub node_ok_one_answer : OneAnswer Node_Ok.Kinds.ps Node_Ok.Kinds.r Node_Ok.Reads.Post
node_ok_one_answer κs a x y s t p q = p ∙ sym q

pub block_passes_one_answer : OneAnswer block_passes.Kinds.ps block_passes.Kinds.r block_passes.Reads.Post
block_passes_one_answer κs a x y s t p q = p ∙ sym q

pub encoder_rules_at_once_one_answer : OneAnswer encoder_rules_at_once.Kinds.ps encoder_rules_at_once.Kinds.r encoder_rules_at_once.Reads.Post
encoder_rules_at_once_one_answer κs a x y s t p q = p ∙ sym q

pub tag_width_one_answer : OneAnswer tag_width.Kinds.ps tag_width.Kinds.r tag_width.Reads.Post
tag_width_one_answer κs a x y s t p q = p ∙ sym q

-- ---- windows
pub run_on_one_answer : OneAnswer run_on.Kinds.ps run_on.Kinds.r run_on.Reads.Post
run_on_one_answer κs a x y s t p q = p.0 ∙ sym q.0

pub no_rows_one_answer : OneAnswer no_rows.Kinds.ps no_rows.Kinds.r no_rows.Reads.Post
no_rows_one_answer κs a x y s t p q = p.0 ∙ sym q.0

pub run_window_one_answer : OneAnswer run_window.Kinds.ps run_window.Kinds.r run_window.Reads.Post
run_window_one_answer κs a x y s t p q = p.0 ∙ sym q.0

-- ---- lines: where the text ends, and the buffer
pub put_text_one_answer : OneOutcome put_text.Kinds.ps put_text.Kinds.r (λ κs (buffer, _). buffer.now ∷ []) put_text.Reads.Post
put_text_one_answer κs a x y s t p q = (p.ends ∙ sym q.ends, rw (p.holds, q.holds))

pub put_decimal_one_answer : OneOutcome put_decimal.Kinds.ps put_decimal.Kinds.r (λ κs (buffer, _). buffer.now ∷ []) put_decimal.Reads.Post
put_decimal_one_answer κs a x y s t p q = (p.ends ∙ sym q.ends, rw (p.holds, q.holds))

pub put_number_one_answer : OneOutcome put_number.Kinds.ps put_number.Kinds.r (λ κs (buffer, _). buffer.now ∷ []) put_number.Reads.Post
put_number_one_answer κs a x y s t p q = (p.0.ends ∙ sym q.0.ends, rw (p.0.holds, q.0.holds))

pub put_word_one_answer : OneOutcome put_word.Kinds.ps put_word.Kinds.r (λ κs (buffer, _). buffer.now ∷ []) put_word.Reads.Post
put_word_one_answer κs a x y s t p q = (p.0.ends ∙ sym q.0.ends, rw (p.0.holds, q.0.holds))

pub put_end_line_one_answer : OneOutcome put_end_line.Kinds.ps put_end_line.Kinds.r (λ κs (buffer, _). buffer.now ∷ []) put_end_line.Reads.Post
put_end_line_one_answer κs a x y s t p q = (p.0.ends ∙ sym q.0.ends, rw (p.0.holds, q.0.holds))

pub put_run_line_one_answer : OneOutcome put_run_line.Kinds.ps put_run_line.Kinds.r (λ κs (buffer, _). buffer.now ∷ []) put_run_line.Reads.Post
put_run_line_one_answer κs a x y s t p q = (p.0.ends ∙ sym q.0.ends, rw (p.0.holds, q.0.holds))

pub put_failure_line_one_answer : OneOutcome put_failure_line.Kinds.ps put_failure_line.Kinds.r (λ κs (buffer, _). buffer.now ∷ []) put_failure_line.Reads.Post
put_failure_line_one_answer κs a x y s t p q = (p.0.ends ∙ sym q.0.ends, rw (p.0.holds, q.0.holds))

pub put_usage_line_one_answer : OneOutcome put_usage_line.Kinds.ps put_usage_line.Kinds.r (λ κs (buffer, _). buffer.now ∷ []) put_usage_line.Reads.Post
put_usage_line_one_answer κs a x y s t p q = (p.0.ends ∙ sym q.0.ends, rw (p.0.holds, q.0.holds))
