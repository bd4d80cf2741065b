-- The page of promises. Each statement is about the written rules (crates/rules/specs) and nothing else, and is proved by a citation.
-- A call inherits it by a contract that says: its answer is what the rule says.
-- Assumes nothing.
use Rattle.std.specs.Prelude.{⊤}
use Rattle.std.proofs.Common.{Result, Option, Ok, Err, Some}
use Prim.Native.Nat.{ℕ, ◌+◌, ◌*◌, ◌^◌, ◌≤◌, ◌<◌, suc}
use mathlib.Core.Path.{◌≡◌, refl}
use mathlib.Core.Bool.{Bool}
use mathlib.Core.List.{List, [], ◌∷◌, ◌++◌, map}
use mathlib.Core.Logic.{◌↔◌}
use lib.IntN.{ℤ}
use lib.ListN.{length, get_or, take, drop}
use Rattle.rules.specs.Bytes.{Bytes, Stands, le, le_at, part, over, longest_slice}
use Rattle.rules.specs.Answers.{Said, said, row_said, read_said, stop_said, written_said, text_said, checked_said}
use Rattle.rules.specs.Wire.{code_of}
use Rattle.rules.specs.Schema.{Schema, deep, nodes}
use Rattle.rules.specs.Block.{records, block_tree, Denotes, Formed, block_ok, Ordered}
use Rattle.rules.specs.SchemaRules.{schema_rule, rule_at, first_of, preorder}
use Rattle.rules.specs.Utf8.{ScalarValue, byte_form, room_of, shortest, encodings, ScalarValues, Utf8, is_utf8, good_strings, bad_strings}
use Rattle.rules.specs.Format.{Format, tables, table_schema, format_rule, format_rules, schema_answer, encoder_rule, sizes_ok, forms_ok, depths_ok, format_utf8, name_answer}
use Rattle.rules.specs.Good.{GoodSchema, GoodTable, GoodFormat, TableSchema}
use Rattle.rules.specs.Value.{Value, tuple, Values, values, records_of}
use Rattle.rules.specs.ValueRecord.{value_record_start}
use Rattle.rules.specs.ValueTable.{TableOf, Whole, table_end, table_value, value_kind}
use Rattle.rules.specs.Grammar.{Row, TableRow}
use Rattle.rules.specs.Walk.{Limits, blob_limit, Pos, Got, Refused}
use Rattle.rules.specs.Reading.{limits, row_at, schema_of, Accepts, skip_rule, room, record_room, room_test, untouched, decode_rule, NoRow, LeavesRow, run_rule, Iterated, row_count, byte_count, ran_of}
use Rattle.rules.specs.Reasons.{RowReason, RowJudged}
use Rattle.rules.specs.Windows.{moved_answer, WasCut, goes_on, continued, added, run_after}
use Rattle.rules.specs.Index.{IndexOf, HoldsRows, index_record_start, index_records_in, index_record, build_rule, check_index_rule, extend_rule, indexed_row_rule}
use Rattle.rules.specs.Writing.{Wrote, write_row, encode_rule, encode_from}
use Rattle.rules.specs.RoundTrip.{EncodeAsked, Encodable, encoded_into, EncodeRefuses, SkipAsked, HasRoom, decoded_as, PlainRow}
use Rattle.rules.specs.Refusals.{BlobTooLarge}
use Rattle.rules.specs.Rows.{outcome, lines, outcomes, limit_lines, limit_outcomes}
use Rattle.rules.specs.Numerals.{numeral, integer_in, integer_text, integer_text_rule, example_integers, example_texts}
use Rattle.rules.specs.Listing.{joined, example_listing, example_lines}
use Rattle.rules.specs.declared.wire_type.WireType.TheVariants.{String32, Yson32}
use Rattle.rules.specs.declared.settings.Settings.{Settings}
use Rattle.rules.specs.declared.refusal.Refusal.{Refusal}
use Rattle.rules.specs.declared.table_record.Located.TheVariants.{Block}
use Rattle.rules.specs.declared.answer.Extent.{Extent}
use Rattle.rules.proofs.Rows.{rows_hold, limits_hold}
use Rattle.rules.proofs.Limits.{string32_limit, yson32_limit, equal_limits, limits_equal}
use Rattle.rules.proofs.Listing.{listing_holds}
use Rattle.rules.proofs.Integers.{integers_hold}
use Rattle.rules.proofs.Answers.{check_number}
use Rattle.block_laws.proofs.Utf8 as utf8
use Rattle.block_laws.proofs.Nowhere as nowhere
use Rattle.block_laws.proofs.Ascii as ascii
use Rattle.block_laws.proofs.NameTurn as name-turn
use Rattle.block_laws.proofs.Form.{formed}
use Rattle.block_laws.proofs.Levels.{block_denotes, deep_shallow}
use Rattle.block_laws.proofs.Trees.{denotes_one}
use Rattle.block_laws.proofs.Reached.{all_reached}
use Rattle.block_laws.proofs.Rules.{first_refusal}
use Rattle.block_laws.proofs.Good.{schema_accepts, encoder_accepts}
use Rattle.block_laws.proofs.Formats.{format_accepts}
use Rattle.block_laws.proofs.Tables.{table_schema_lem}
use Rattle.row_laws.proofs.Only.{unambiguous}
use Rattle.row_laws.proofs.TableRows.{row_agrees}
use Rattle.row_laws.proofs.RowReasons.{row_reasons, one_reason, row_judged}
use Rattle.row_laws.proofs.Decoding.{decode_tested}
use Rattle.row_laws.proofs.Running.{run_iterated, run_stops}
use Rattle.row_laws.proofs.Parts.{row_stays, row_moves}
use Rattle.row_laws.proofs.Windows as windows
use Rattle.text_laws.proofs.Numerals as numerals
use Rattle.text_laws.proofs.Integers as integers
use Rattle.text_laws.proofs.Calls as texts
use Rattle.index_laws.proofs.Holds as holds
use Rattle.index_laws.proofs.Extends as extends
use Rattle.index_laws.proofs.Numbered as numbered
use Rattle.value_laws.proofs.Flat.{one_value}
use Rattle.value_laws.proofs.Flat as values
use Rattle.promises.proofs.Apart.{refusals_apart, reads_apart, stops_apart, writings_apart, texts_apart, checks_apart}
use Rattle.promises.proofs.Tables.{table_encodes, decoded_row_lem, decoded_none}
use Rattle.promises.proofs.RoundTrip.{encoded_when, encoded_as, refused_leaves, refused_in_order, skips_back, reads_back}
use Rattle.promises.proofs.Again as again
use Rattle.promises.proofs.OverLimit as over-limit
use Rattle.rules.specs.Refusals.{Setting, NoSuchRow}
use Rattle.rules.specs.Query.{query_rule}
use Rattle.rules.specs.View.{kind_rule, tag_rule, child_count_rule, after_rule, field_rule}
use Rattle.rules.specs.Preorder.{ValueNode, value_preorder, NodeIs, value_said, value_children, FieldIs, FirstChild}
use Rattle.value_laws.proofs.Query as query
use Rattle.value_laws.proofs.View as view
use Rattle.value_laws.proofs.Subtrees as subtrees

-- ---- the document's own examples: its table of rows, computed on the rules of the whole calls
pub the_documents_rows : map outcome lines ≡ outcomes
the_documents_rows = rows_hold

-- rows at the two blob limits, in the same way
pub rows_at_both_limits : map outcome limit_lines ≡ limit_outcomes
rows_at_both_limits = limits_hold

-- its example of a listing, computed on the rule of the three files
pub the_documents_listing : example_listing ≡ joined example_lines
the_documents_listing = listing_holds

-- integers as text, -1, 0 and the ends of int128 and int256 among them
pub the_integers_texts : map integer_text example_integers ≡ example_texts
the_integers_texts = integers_hold

-- names: strings that are well-formed UTF-8 and strings that are not
pub the_utf8_examples : (map is_utf8 good_strings ≡ map (λ s. Bool.true) good_strings) × (map is_utf8 bad_strings ≡ map (λ s. Bool.false) bad_strings)
the_utf8_examples = ascii.examples

-- ---- answers: number, place and values fix each
pub refusal_by_numbers : (r r' : Refusal) → said r ≡ said r' → r ≡ r'
refusal_by_numbers = refusals_apart

pub read_by_numbers : (a b : Result (Option Extent) Refusal) → read_said a ≡ read_said b → a ≡ b
read_by_numbers = reads_apart

pub stop_by_numbers : (a b : Result ⊤ Refusal) → stop_said a ≡ stop_said b → a ≡ b
stop_by_numbers = stops_apart

pub written_by_numbers : (a b : Result Extent Refusal) → written_said a ≡ written_said b → a ≡ b
written_by_numbers = writings_apart

pub text_by_numbers : (a b : Result ℕ Refusal) → text_said a ≡ text_said b → a ≡ b
text_by_numbers = texts_apart

pub check_by_numbers : (a b : Result ⊤ Refusal) → checked_said a ≡ checked_said b → a ≡ b
check_by_numbers = checks_apart

-- ---- schemas and formats

-- a block has the form just if its records stand in level order, with known codes and names in the store
pub block_form : (s : List ℕ) (store : ℕ) → (block_ok s store ≡ Bool.true) ↔ Formed s store
block_form = formed

-- it denotes one tree, in which each record is one node
pub block_tree_lem : (s store : List ℕ) → Ordered s → (t : Schema) → Denotes s store 0 t → t ≡ block_tree s store
block_tree_lem s store o t d = denotes_one s store d (block_denotes s store o)

pub block_nodes : (s store : List ℕ) → Ordered s → nodes (block_tree s store) ≡ records s
block_nodes = all_reached

-- the rules refuse for the first node in preorder that breaks one
pub first_in_preorder : (s store : List ℕ) (base : ℕ) → Ordered s → deep (block_tree s store) ≤ 64 →
    schema_rule s base 64 0 ≡ first_of (rule_at s base) (preorder s 64 0)
first_in_preorder s store base o h = first_refusal s base 64 0 (deep_shallow s store (block_denotes s store o) 64 h)

-- the checks refuse nothing just where all is good
pub schema_check : (table names : List ℕ) (first n : ℕ) → ((checked_said (schema_answer table names first n)).number ≡ 0) ↔ GoodSchema table names first n
schema_check table names first n = check_number _ (schema_accepts table names first n)

pub encoder_check : (table names : List ℕ) (first n : ℕ) → ((checked_said (encoder_rule table names first n)).number ≡ 0) ↔ GoodTable table names first n
encoder_check table names first n = check_number _ (encoder_accepts table names first n)

pub format_check : (f : Format) → ((checked_said (format_rule f)).number ≡ 0) ↔ GoodFormat f
format_check f = check_number _ (format_accepts f)

-- each table of an accepted format has a valid schema, at most 64 deep, that stands in a good block
pub every_table : (f : Format) → format_rules f ≡ Ok tt → (t : ℕ) → t < tables f → TableSchema f t
every_table = table_schema_lem

-- and that block passes the encoder's check
pub every_table_encodes : (f : Format) → format_rule f ≡ Ok tt → (t first n : ℕ) → table_schema f t ≡ Block first n →
    encoder_rule f.table f.names first n ≡ Ok tt
every_table_encodes = table_encodes

-- ---- names

-- the check of a string byte by byte accepts just the encodings of scalar values, one after another
pub utf8_check : (s : List ℕ) → (is_utf8 s ≡ Bool.true) ↔ Utf8 s
utf8_check = utf8.utf8_exactly

-- which are those of one list of scalar values only
pub utf8_decodes_once : (cs ds : List ℕ) → ScalarValues cs → ScalarValues ds → encodings cs ≡ encodings ds → cs ≡ ds
utf8_decodes_once = utf8.decodes_once

-- wherever in a good string a form of two to four bytes stands, it is that of a scalar value, and its shortest:
pub utf8_scalar_values_only : (xs ys : List ℕ) (n c : ℕ) → 0 < n → n ≤ 3 → c < room_of n → Utf8 (xs ++ (byte_form n c ++ ys)) → ScalarValue c × (shortest c ≡ n)
utf8_scalar_values_only = nowhere.only_scalars

-- never a longer form than need be, never a surrogate, never what is above 10FFFF
pub no_overlong_form : (xs ys : List ℕ) (n c : ℕ) → 0 < n → n ≤ 3 → c < room_of n → shortest c < n → Utf8 (xs ++ (byte_form n c ++ ys)) → ⊥
no_overlong_form = nowhere.no_overlong

pub no_surrogate : (xs ys : List ℕ) (n c : ℕ) → 0 < n → n ≤ 3 → c < room_of n → 0xD800 ≤ c → c ≤ 0xDFFF → Utf8 (xs ++ (byte_form n c ++ ys)) → ⊥
no_surrogate = nowhere.no_surrogate

pub none_above : (xs ys : List ℕ) (c : ℕ) → 0x10FFFF < c → c < room_of 3 → Utf8 (xs ++ (byte_form 3 c ++ ys)) → ⊥
none_above = nowhere.none_above

-- a name by itself is refused by nothing just if it is good, and not too long for a slice
pub name_check : (name : List ℕ) → ((checked_said (name_answer name)).number ≡ 0) ↔ ((length name ≤ longest_slice) × Utf8 name)
name_check name = check_number _ (name-turn.one_name name)

-- a format is refused by 33 just where sizes, all forms and all depths stand and a name is not good, whatever else is wrong with it
pub names_in_their_turn : (f : Format) →
    ((checked_said (format_rule f)).number ≡ 33) ↔ ((sizes_ok f ≡ Bool.true) × (forms_ok f ≡ Bool.true) × (depths_ok f ≡ Bool.true) × (format_utf8 f ≡ Bool.false))
names_in_their_turn = name-turn.turn_of_names

-- ---- rows

-- two rows of one schema that begin one list are one row of one value
pub one_value_for_bytes : {c : Schema} {v v' : Value} {b b' : List ℕ} (r r' : List ℕ) → Row c v b → Row c v' b' → b ++ r ≡ b' ++ r' → (v ≡ v') × (b ≡ b')
one_value_for_bytes = unambiguous

-- reading accepts just the rows of the grammar that are within the limits, and says where they end
pub reading_is_the_grammar : (f : Format) (inp : List ℕ) (lim : Limits) (at : ℕ) → Bytes inp → at ≤ length inp → (t : ℕ) (v : Value) (q : Pos) →
    (row_at f inp lim at ≡ Got (t, v) q) ↔ Accepts f inp lim at t v q
reading_is_the_grammar = row_agrees

-- it refuses a row just for the reason that is there: up to a position the bytes begin a row within the limits, and what comes next fails
pub refused_for_its_reason : (f : Format) (inp : List ℕ) (lim : Limits) (at : ℕ) → format_rules f ≡ Ok tt → Bytes inp → at ≤ length inp → (r : Refusal) →
    (row_at f inp lim at ≡ Refused r) ↔ RowReason f inp lim at r
refused_for_its_reason = row_reasons

-- there is no second reason
pub no_second_reason : (f : Format) (inp : List ℕ) (lim : Limits) (at : ℕ) → format_rules f ≡ Ok tt → at ≤ length inp → (r r' : Refusal) →
    RowReason f inp lim at r → RowReason f inp lim at r' → r ≡ r'
no_second_reason = one_reason

-- and each row is accepted or has a reason, never both
pub accepted_or_refused : (f : Format) (inp : List ℕ) (lim : Limits) (at : ℕ) → format_rules f ≡ Ok tt → Bytes inp → at ≤ length inp → RowJudged f inp lim at
accepted_or_refused = row_judged

-- string32 and yson32 have a limit each,
pub each_type_its_limit : (lim : Limits) → (blob_limit lim (code_of String32) ≡ lim.string32) × (blob_limit lim (code_of Yson32) ≡ lim.yson32)
each_type_its_limit lim = (string32_limit lim, yson32_limit lim)

-- and the limit does not depend on the type just where the two are equal
pub one_limit_where_equal : (lim : Limits) → ((a b : ℕ) → blob_limit lim a ≡ blob_limit lim b) ↔ (lim.string32 ≡ lim.yson32)
one_limit_where_equal lim = (limits_equal lim, equal_limits lim)

-- 14 carries the limit of its own type, which the blob's length passes: in reading
pub read_too_large_by_its_limit : (f : Format) (inp : List ℕ) (lim : Limits) (at code n limit place : ℕ) →
    row_at f inp lim at ≡ Refused (BlobTooLarge code n limit place) → (limit ≡ blob_limit lim code) × (limit < n)
read_too_large_by_its_limit f inp lim = over-limit.read_over lim inp f

-- and in writing
pub written_too_large_by_its_limit : (block : List ℕ) (lim : Limits) (v : Value) (code n limit place : ℕ) →
    write_row block lim v ≡ Wrote.Refused (BlobTooLarge code n limit place) → (limit ≡ blob_limit lim code) × (limit < n)
written_too_large_by_its_limit block lim = over-limit.written_over lim block

-- bytes after a row do not matter to it, unless it was cut (12)
pub bytes_after : (f : Format) (inp more : List ℕ) (lim : Limits) (at : ℕ) → at ≤ length inp → (WasCut (row_at f inp lim at) → ⊥) →
    row_at f (inp ++ more) lim at ≡ row_at f inp lim at
bytes_after = row_stays

-- nor do bytes before it: a row n bytes further on is the row of the stream without its first n bytes, its places moved by n
pub bytes_before : (f : Format) (inp : List ℕ) (lim : Limits) (n at : ℕ) → n ≤ length inp → at ≤ length (drop n inp) →
    row_at f inp lim (at + n) ≡ moved_answer n (row_at f (drop n inp) lim at)
bytes_before = row_moves

-- the run is skip iterated from the stream's start on, and says in the end what skip says there
pub run_is_skip_iterated : (f : Format) (s : Settings) (inp : List ℕ) → Bytes inp → Iterated f s inp 0 (run_rule f s inp).rows (run_rule f s inp).stop
run_is_skip_iterated = run_iterated

pub run_stops_as_skip : (f : Format) (s : Settings) (inp : List ℕ) → Bytes inp →
    stop_said (run_rule f s inp).stop ≡ read_said (skip_rule f s inp (byte_count (run_rule f s inp).rows))
run_stops_as_skip = run_stops

-- A stream may be read in windows. Where the run over its first bytes ended or was cut (12), the run over all is those rows and then
-- the run over what is left after them; where it was refused by another number, that is the run over all.
pub run_in_windows : (f : Format) (s : Settings) (inp more : List ℕ) → Bytes (inp ++ more) → length (inp ++ more) ≤ 4294967295 →
    goes_on (run_rule f s inp).stop ≡ Bool.true →
    run_rule f s (inp ++ more) ≡ continued (run_rule f s inp) (run_rule f s (drop (byte_count (run_rule f s inp).rows) (inp ++ more)))
run_in_windows = windows.run_in_windows

pub refused_in_windows : (f : Format) (s : Settings) (inp more : List ℕ) → Bytes (inp ++ more) → length (inp ++ more) ≤ 4294967295 →
    goes_on (run_rule f s inp).stop ≡ Bool.false → run_rule f s (inp ++ more) ≡ run_rule f s inp
refused_in_windows = windows.refused_in_windows

-- in counts: what was counted before a window, and what is counted in it
pub counts_in_windows : (f : Format) (s : Settings) (inp more : List ℕ) → Bytes (inp ++ more) → length (inp ++ more) ≤ 4294967295 →
    goes_on (ran_of (run_rule f s inp)).stop ≡ Bool.true →
    ran_of (run_rule f s (inp ++ more)) ≡ added (ran_of (run_rule f s inp)) (ran_of (run_rule f s (drop (ran_of (run_rule f s inp)).bytes (inp ++ more))))
counts_in_windows = windows.ran_in_windows

-- So whoever keeps the counts of a run that ended or was cut, and the bytes from the end of its rows on, has the run over all, however
-- many bytes come after: also where they are more than 4,294,967,295 in all, which is refused by 1.
pub run_after_counts : (f : Format) (s : Settings) (inp more : List ℕ) → Bytes (inp ++ more) → goes_on (ran_of (run_rule f s inp)).stop ≡ Bool.true →
    run_after f s (ran_of (run_rule f s inp)).rows (ran_of (run_rule f s inp)).bytes (drop (ran_of (run_rule f s inp)).bytes (inp ++ more)) ≡
    ran_of (run_rule f s (inp ++ more))
run_after_counts = windows.run_after_lem

-- ---- the index of a stream

-- a record's bytes, computed: offset, length, table
pub an_index_record : index_record (record { offset = 66051; size = 258; table = 5 }) ≡ 3 ∷ 2 ∷ 1 ∷ 0 ∷ 0 ∷ 0 ∷ 0 ∷ 0 ∷ 2 ∷ 1 ∷ 0 ∷ 0 ∷ 5 ∷ 0 ∷ 0 ∷ 0 ∷ []
unfolding index_record le
an_index_record = refl

-- an accepted build leaves the records of the very rows that the run accepts, in order, and no other byte changes; a refused one leaves the slice
pub index_holds_the_rows : (f : Format) (s : Settings) (inp slice : List ℕ) → Bytes inp → (build_rule f s inp slice).answer.stop ≡ Ok tt →
    HoldsRows f s inp slice (build_rule f s inp slice)
index_holds_the_rows = holds.build_holds

pub refused_build_leaves : (f : Format) (s : Settings) (inp slice : List ℕ) (r : Refusal) → (build_rule f s inp slice).answer.stop ≡ Err r →
    (build_rule f s inp slice).index ≡ slice
refused_build_leaves = holds.build_leaves

-- check accepts the stream's index and nothing else: what build writes, and only that
pub check_accepts_the_index : (f : Format) (s : Settings) (inp index : List ℕ) → length index ≤ 4294967295 →
    ((check_index_rule f s inp index).stop ≡ Ok tt) ↔ IndexOf f s inp index
check_accepts_the_index = holds.check_exactly

pub check_accepts_what_build_writes : (f : Format) (s : Settings) (inp slice : List ℕ) → Bytes inp → (build_rule f s inp slice).answer.stop ≡ Ok tt →
    (check_index_rule f s inp (take (index_record_start (row_count (run_rule f s inp).rows)) (build_rule f s inp slice).index)).stop ≡ Ok tt
check_accepts_what_build_writes = holds.build_then_check

pub build_writes_what_check_accepts : (f : Format) (s : Settings) (inp index slice : List ℕ) → Bytes inp → (check_index_rule f s inp index).stop ≡ Ok tt → length index ≤ room slice →
    ((build_rule f s inp slice).answer.stop ≡ Ok tt) × (take (length index) (build_rule f s inp slice).index ≡ index)
build_writes_what_check_accepts = holds.check_then_build

-- where the run is refused, so are build, check and extend, with all that the run answers, and nothing is written
module _ (f : Format) (s : Settings) (inp : List ℕ) (r : Refusal) (refused : (run_rule f s inp).stop ≡ Err r) where
  pub build_refused_as_the_run : (slice : List ℕ) → build_rule f s inp slice ≡ record { answer = ran_of (run_rule f s inp); index = slice }
  build_refused_as_the_run = holds.build_refused_so f s inp r refused

  pub check_refused_as_the_run : (index : List ℕ) → length index ≤ 4294967295 → check_index_rule f s inp index ≡ ran_of (run_rule f s inp)
  check_refused_as_the_run = holds.check_refused_so f s inp r refused

  pub extend_refused_as_the_run : (old : ℕ) (slice : List ℕ) → old ≤ index_records_in (room slice) → extend_rule f s inp old slice ≡ record { answer = ran_of (run_rule f s inp); index = slice }
  extend_refused_as_the_run = holds.extend_refused_so f s inp r refused

-- the rows of a stream's index come first in the run over every longer stream that begins with it, however that run ends
pub index_begins_a_longer_one : (f : Format) (s : Settings) (inp more : List ℕ) → Bytes (inp ++ more) → length (inp ++ more) ≤ 4294967295 → (run_rule f s inp).stop ≡ Ok tt →
    take (row_count (run_rule f s inp).rows) (run_rule f s (inp ++ more)).rows ≡ (run_rule f s inp).rows
index_begins_a_longer_one = extends.rows_begin

-- so, after bytes were appended, extending a slice that begins with the first part's index says what building anew says and leaves the same bytes
pub extending_is_building : (f : Format) (s : Settings) (inp more : List ℕ) → Bytes (inp ++ more) → (index : List ℕ) → IndexOf f s inp index → (slice : List ℕ) → Stands slice 0 index → length index ≤ room slice →
    extend_rule f s (inp ++ more) (row_count (run_rule f s inp).rows) slice ≡ build_rule f s (inp ++ more) slice
extending_is_building = extends.extend_builds

-- With an index that check accepts, row n is what decode answers and leaves where the run's row n begins, for every n below the count; from there
-- on there is no such row (32).
module _ (f : Format) (s : Settings) (inp index : List ℕ) (bs : Bytes inp) (good : (check_index_rule f s inp index).stop ≡ Ok tt) (n : ℕ) (rs ps : List ℕ) where
  pub row_by_number : n < row_count (run_rule f s inp).rows → indexed_row_rule f s inp index n rs ps ≡ decode_rule f s inp (byte_count (take n (run_rule f s inp).rows)) rs ps
  row_by_number = numbered.numbered f s inp index bs good n rs ps

  pub no_row_by_number : row_count (run_rule f s inp).rows ≤ n → indexed_row_rule f s inp index n rs ps ≡ untouched (Err NoSuchRow) rs ps
  no_row_by_number = numbered.none_numbered f s inp index bs good n rs ps

-- ---- value tables: records and payload are the table of one value at most, and the rule finds it
pub value_tables : (r y : List ℕ) (v : Value) → length r ≤ 4294967295 → (table_value r y ≡ Whole v (table_end r y)) ↔ TableOf v r y
value_tables = values.tables

pub one_value_for_tables : (r y : List ℕ) (v w : Value) → length r ≤ 4294967295 → TableOf v r y → TableOf w r y → v ≡ w
one_value_for_tables = one_value

-- ---- demand 3

-- Of a checked format, settings inside the bounds and a well-formed value for table 0:
module _ (f : Format) (s : Settings) (first n : ℕ) (recs pay out : List ℕ) (at : ℕ)
    (asked : EncodeAsked f s first n recs pay out at) (v : Value) (is : TableOf v recs pay) where
  -- it is encoded exactly when it conforms, each blob is within its type's limit, and the row fits the output,
  pub encoded_exactly_when : ((written_said (encode_from f s first n recs pay out at).answer).number ≡ 0) ↔ Encodable (schema_of f 0) (limits s) v out at
  encoded_exactly_when = encoded_when f s first n recs pay out at asked v is

  -- and then canonically, with table tag 0;
  pub encoded_canonically : (written_said (encode_from f s first n recs pay out at).answer).number ≡ 0 →
      encode_from f s first n recs pay out at ≡ encoded_into (schema_of f 0) v out at
  encoded_canonically = encoded_as f s first n recs pay out at asked v is

  -- those bytes, as they stand in the output, anywhere in a stream of a checked format whose table 0 has that schema,
  module _ (e : Extent) (yes : written_said (encode_from f s first n recs pay out at).answer ≡ row_said e)
      (f' : Format) (checked : format_rule f' ≡ Ok tt) (below : 0 < tables f') (same : schema_of f' 0 ≡ schema_of f 0)
      (s' : Settings) (inp : List ℕ) (position : ℕ)
      (ask : SkipAsked s s' v (part (encode_from f s first n recs pay out at).output at e.bytes) inp position) where
    -- are skipped as that row,
    pub skips_the_row : skip_rule f' s' inp position ≡ Ok (Some e)
    skips_the_row = skips_back f s first n recs pay out at asked v is e yes f' checked below same s' inp position ask

    -- and decode, where there is room, to that value bit for bit, and no further byte is taken.
    pub decodes_to_the_value : (rs ps : List ℕ) → HasRoom e rs ps → decode_rule f' s' inp position rs ps ≡ decoded_as e recs pay rs ps
    decodes_to_the_value = reads_back f s first n recs pay out at asked v is e yes f' checked below same s' inp position ask

-- Whatever is asked: a refused encode leaves the output,
pub refused_encode_leaves : (s : Settings) (table names : List ℕ) (first n : ℕ) (recs pay out : List ℕ) (at : ℕ) →
    0 < (written_said (encode_rule s table names first n recs pay out at).answer).number → (encode_rule s table names first n recs pay out at).output ≡ out
refused_encode_leaves = refused_leaves

-- and is refused by what comes first in the order 1, schema, 18, row, 21.
pub encode_refuses_in_order : (s : Settings) (table names : List ℕ) (first n : ℕ) (recs pay out : List ℕ) (at : ℕ) (x : Said) → 0 < x.number →
    (written_said (encode_rule s table names first n recs pay out at).answer ≡ x) ↔ EncodeRefuses s table names first n recs pay out at x
encode_refuses_in_order = refused_in_order

-- each decoded row conforms to its table's schema: its table is what decode leaves, and the rest of both slices is as before
pub decoded_conforms : (f : Format) (s : Settings) (inp : List ℕ) (at : ℕ) (rs ps : List ℕ) → Bytes inp → (e : Extent) →
    read_said (decode_rule f s inp at rs ps).answer ≡ row_said e → LeavesRow f inp (limits s) at rs ps e (decode_rule f s inp at rs ps)
decoded_conforms = decoded_row_lem

-- where decode answers no row, both slices are as before
pub decode_leaves_alone : (f : Format) (s : Settings) (inp : List ℕ) (at : ℕ) (rs ps : List ℕ) → NoRow (decode_rule f s inp at rs ps).answer →
    decode_rule f s inp at rs ps ≡ untouched (decode_rule f s inp at rs ps).answer rs ps
decode_leaves_alone = decoded_none

-- A row of table 0 that was decoded, and whose table is encoded again under the same limits and with room:
module _ (f : Format) (s : Settings) (inp : List ℕ) (at : ℕ) (rs ps : List ℕ) (bs : Bytes inp) (e : Extent)
    (read : read_said (decode_rule f s inp at rs ps).answer ≡ row_said e) (zero : e.table ≡ 0) (first n : ℕ) (recs pay out : List ℕ) (position : ℕ)
    (records : recs ≡ take (value_record_start e.records) (decode_rule f s inp at rs ps).records) (payload : pay ≡ take e.payload (decode_rule f s inp at rs ps).payload)
    (asked : EncodeAsked f s first n recs pay out position) (fits : position + e.bytes ≤ room out) where
  -- encode answers that row, with its very counts,
  pub encodes_again : (encode_from f s first n recs pay out position).answer ≡ Ok e
  encodes_again = again.encodes_again f s inp at rs ps bs e read zero first n recs pay out position records payload asked fits

  -- leaves the very bytes of the row that stood in the stream, exactly where every boolean byte of it is 0 or 1,
  pub writes_again : (w : Value) (b : List ℕ) (r : TableRow (tables f) (schema_of f) 0 w b) → Stands inp at b →
      ((encode_from f s first n recs pay out position).output ≡ over out position (part inp at e.bytes)) ↔ PlainRow r
  writes_again = again.writes_again f s inp at rs ps bs e read zero first n recs pay out position records payload asked fits

  -- and its bytes, as they stand in the output, decode anywhere in a stream to the same table.
  pub reads_again : (inp' : List ℕ) (at' : ℕ) (rs' ps' : List ℕ) → Stands inp' at' (part (encode_from f s first n recs pay out position).output position e.bytes) → length inp' ≤ 4294967295 →
      e.records ≤ record_room rs' → e.payload ≤ room ps' → decode_rule f s inp' at' rs' ps' ≡ decoded_as e recs pay rs' ps'
  reads_again = again.reads_again f s inp at rs ps bs e read zero first n recs pay out position records payload asked fits

-- skip gives the same table, length or refusal as decode, which adds only the two refusals for room
pub skip_is_decode : (at : ℕ) (rs ps : List ℕ) (f : Format) (s : Settings) (inp : List ℕ) →
    (decode_rule f s inp at rs ps).answer ≡ room_test at rs ps (skip_rule f s inp at)
skip_is_decode = decode_tested

-- ---- the host's side: in the table of a value, record i is node i in preorder

module _ (v : Value) (table store : List ℕ) (is : TableOf v table store) (short : length table ≤ 4294967295) (small : length store ≤ 4294967295) where
  -- The query answers what the node is, for each number below the number of nodes; from there on it answers 1.
  pub query_of_node : (i : ℕ) → i < records_of v → (n : ValueNode) × (NodeIs (value_preorder v) i n × (query_rule table i ≡ Ok (value_said n.value n.before)))
  query_of_node = query.query_answers v table store is short small

  pub query_of_none : (i : ℕ) → records_of v ≤ i → query_rule table i ≡ Err Setting
  query_of_none = query.query_past v table store is short small

  module _ (i : ℕ) (n : ValueNode) (at : NodeIs (value_preorder v) i n) where
    -- So do the getters of the row view,
    pub view_kind : kind_rule table i ≡ Ok (value_kind n.value)
    view_kind = query.kind_says v table store is short small i n at

    pub view_tag : tag_rule table i ≡ Ok n.tag
    view_tag = query.tag_says v table store is short small i n at

    pub view_child_count : child_count_rule table i ≡ Ok (value_children n.value)
    view_child_count = query.children_say v table store is short small i n at

    -- and its steps: behind the node's tree, and to field k, which is node k of the tuple.
    pub view_after : after_rule table i ≡ Ok (i + records_of n.value)
    view_after = view.after_says v table store is short small i n at

    pub view_field : (vs : Values) → n.value ≡ tuple vs → (k : ℕ) (u : Value) → FieldIs vs k u →
        (m : ℕ) × ((c : ValueNode) × ((field_rule table i k ≡ Ok m) × (NodeIs (value_preorder v) m c × (c.value ≡ u))))
    view_field vs t k = view.field_is v table store is short small i n at vs t k

    -- The first child is the next record, and field k + 1 is behind field k.
    pub view_first_child : (u : Value) → FirstChild n.value u → (c : ValueNode) × (NodeIs (value_preorder v) (i + 1) c × (c.value ≡ u))
    view_first_child u = subtrees.first_child v i n u at

    pub view_next_field : (vs : Values) → n.value ≡ tuple vs → (k m : ℕ) → suc k < values vs → field_rule table i k ≡ Ok m → field_rule table i (suc k) ≡ after_rule table m
    view_next_field = view.next_field v table store is short small i n at

-- ---- integers as text, in a base from 2 on, and of whatever width in bytes

-- two whole numbers of one text are equal,
pub text_fixes_number : (base : ℕ) → 1 < base → (a b : ℤ) → integer_in base a ≡ integer_in base b → a ≡ b
text_fixes_number = integers.integer_determines

-- and two integers of one width and one text have the same bytes
pub text_fixes_bytes : (x y : List ℕ) → Bytes x → Bytes y → length x ≡ length y → integer_text x ≡ integer_text y → x ≡ y
text_fixes_bytes = integers.text_determines

-- the digits of what is not 0 do not begin with a `0`
pub no_leading_zero : (base : ℕ) → 1 < base → (n : ℕ) → 0 < n → (rest : List ℕ) → numeral base n ≡ 48 ∷ rest → ⊥
no_leading_zero = numerals.no_leading_zero

-- the text begins with a minus sign just where the highest bit is set
pub minus_where_negative : (x : List ℕ) → Bytes x → (get_or (integer_text x) 0 0 ≡ 45) ↔ (256 ^ length x ≤ 2 * le_at x 0 (length x))
minus_where_negative = integers.minus_sign

-- where the call refuses, its slice stays
pub refused_text_leaves : (x s : List ℕ) → 0 < (text_said (integer_text_rule x s).answer).number → (integer_text_rule x s).text ≡ s
refused_text_leaves = texts.refused_leaves
