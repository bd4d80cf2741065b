-- What the C functions take, return and leave in the slices that they are lent.
-- Assumes nothing: these are definitions.
use Rattle.rules.specs.declared.refusal.Refusal.{Refusal}
use Rattle.std.specs.Prelude.{ℕ, List, length, leb, Result}
use Rattle.rules.specs.Choice.{pick}
use Rattle.rules.specs.Bytes.{over}
use Rattle.rules.specs.Names.{parsed}
use Rattle.rules.specs.Format.{Format, name_answer, format_rule, encoder_rule}
use Rattle.rules.specs.Reading.{skip_rule, run_rule, ran_of, Decoded, decode_rule}
use Rattle.rules.specs.Writing.{encode_rule}
use Rattle.rules.specs.Numerals.{integer_text_rule}
use Rattle.rules.specs.ValueCheck.{value_table_rule}
use Rattle.rules.specs.Query.{query_rule}
use Rattle.rules.specs.Windows.{run_after}
use Rattle.rules.specs.Index.{build_rule, check_index_rule, extend_rule, indexed_row_rule}
use Rattle.rules.specs.declared.settings.Settings.{Settings}
use Rattle.answers.specs.declared.AnswerNumbers.{AnswerNumbers}
use Rattle.answers.specs.Answers.{answer_layout, answer_of_read, answer_of_ran, answer_of_window, answer_of_written, answer_of_text, answer_of_checked, answer_of_known, answer_of_queried, answer_of_viewed}

abbrev pub settings_of : ℕ → ℕ → ℕ → ℕ → Settings
settings_of charge string32 yson32 row = record { node_charge = charge; max_string32_bytes = string32; max_yson32_bytes = yson32; max_row_bytes = row }

-- what a call returns, and its answer slice afterwards
pub record Given : Type 0 where
  pub number : ℕ
  pub answer : List ℕ

-- a slice of at least 88 bytes has the answer at its start, and the refusal's number is returned; a shorter one stays, and 1 is returned
unfoldable pub given : List ℕ → AnswerNumbers → Given
given slice a = pick (leb 88 (length slice)) (record { number = a.why.number; answer = over slice 0 (answer_layout a) }) (record { number = 1; answer = slice })

unfoldable pub skip_given : Format → Settings → List ℕ → ℕ → List ℕ → Given
skip_given f s inp at slice = given slice (answer_of_read (skip_rule f s inp at))

unfoldable pub run_given : Format → Settings → List ℕ → List ℕ → Given
run_given f s inp slice = given slice (answer_of_ran (ran_of (run_rule f s inp)))

-- a window that begins where so many rows, of so many bytes, end
unfoldable pub run_window_given : Format → Settings → List ℕ → ℕ → ℕ → List ℕ → Given
run_window_given f s window rows bytes slice = given slice (answer_of_window (run_after f s rows bytes window))

unfoldable pub check_format_given : Format → List ℕ → Given
check_format_given f slice = given slice (answer_of_checked (format_rule f))

-- a block of so many records of the table, from its first one on
unfoldable pub check_encoder_schema_given : List ℕ → List ℕ → ℕ → ℕ → List ℕ → Given
check_encoder_schema_given table names first n slice = given slice (answer_of_checked (encoder_rule table names first n))

unfoldable pub check_name_given : List ℕ → List ℕ → Given
check_name_given name slice = given slice (answer_of_checked (name_answer name))

unfoldable pub parse_given : List ℕ → List ℕ → Given
parse_given name slice = given slice (answer_of_known (parsed name))

unfoldable pub check_value_table_given : List ℕ → List ℕ → List ℕ → Given
check_value_table_given rs ps slice = given slice (answer_of_checked (value_table_rule rs ps))

unfoldable pub value_given : List ℕ → ℕ → List ℕ → Given
value_given rs i slice = given slice (answer_of_queried (query_rule rs i))

-- what is seen from a record, by whichever rule of the row view
unfoldable pub view_given : Result ℕ Refusal → List ℕ → Given
view_given v slice = given slice (answer_of_viewed v)

-- decode's two slices too
pub record GivenRow : Type 0 where
  pub number : ℕ
  pub answer : List ℕ
  pub records : List ℕ
  pub payload : List ℕ

-- they are as decode leaves them, but stay where there is no room for an answer
unfoldable pub given_row : List ℕ → Decoded → List ℕ → List ℕ → GivenRow
given_row slice d rs ps =
    let a = answer_of_read d.answer in
    pick (leb 88 (length slice))
    (record { number = a.why.number; answer = over slice 0 (answer_layout a); records = d.records; payload = d.payload })
    (record { number = 1; answer = slice; records = rs; payload = ps })

unfoldable pub decode_given : Format → Settings → List ℕ → ℕ → List ℕ → List ℕ → List ℕ → GivenRow
decode_given f s inp at slice rs ps = given_row slice (decode_rule f s inp at rs ps) rs ps

-- the one slice that encode, a text or an index is written to, too
pub record GivenSlice : Type 0 where
  pub number : ℕ
  pub answer : List ℕ
  pub lent : List ℕ

-- it is as the call leaves it, but stays where there is no room for an answer
unfoldable pub given_slice : List ℕ → AnswerNumbers → List ℕ → List ℕ → GivenSlice
given_slice slice a left lent =
    pick (leb 88 (length slice))
    (record { number = a.why.number; answer = over slice 0 (answer_layout a); lent = left })
    (record { number = 1; answer = slice; lent = lent })

unfoldable pub encode_given : Settings → List ℕ → List ℕ → ℕ → ℕ → List ℕ → List ℕ → List ℕ → ℕ → List ℕ → GivenSlice
encode_given s table names first n rs ps out at slice =
    let e = encode_rule s table names first n rs ps out at in
    given_slice slice (answer_of_written e.answer) e.output out

unfoldable pub integer_text_given : List ℕ → List ℕ → List ℕ → GivenSlice
integer_text_given x text slice =
    let t = integer_text_rule x text in
    given_slice slice (answer_of_text t.answer) t.text text

-- ---- the index

unfoldable pub build_index_given : Format → Settings → List ℕ → List ℕ → List ℕ → GivenSlice
build_index_given f s inp index slice =
    let x = build_rule f s inp index in
    given_slice slice (answer_of_ran x.answer) x.index index

unfoldable pub check_index_given : Format → Settings → List ℕ → List ℕ → List ℕ → Given
check_index_given f s inp index slice = given slice (answer_of_ran (check_index_rule f s inp index))

-- the first `old` records stand there already
unfoldable pub extend_index_given : Format → Settings → List ℕ → ℕ → List ℕ → List ℕ → GivenSlice
extend_index_given f s inp old index slice =
    let x = extend_rule f s inp old index in
    given_slice slice (answer_of_ran x.answer) x.index index

-- row n, as decode gives one
unfoldable pub decode_indexed_given : Format → Settings → List ℕ → List ℕ → ℕ → List ℕ → List ℕ → List ℕ → GivenRow
decode_indexed_given f s inp index n slice rs ps = given_row slice (indexed_row_rule f s inp index n rs ps) rs ps
