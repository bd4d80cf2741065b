-- The answer slice of the C functions: eleven numbers, each in eight bytes.
-- Assumes nothing: these are definitions.
use Rattle.rules.specs.declared.wire_type.WireType.{WireType}
use Rattle.rules.specs.declared.host_answer.Scalar.{Scalar}
use Rattle.rules.specs.declared.refusal.Refusal.{Refusal}
use Rattle.std.specs.Prelude.{ℕ, List, [], ◌∷◌, ◌++◌, Result, Option, Ok, Err, Some, None, ⊤}
use Rattle.rules.specs.Choice.{pick}
use Rattle.rules.specs.Bytes.{le}
use Rattle.rules.specs.Refusals.{report_of}
use Rattle.rules.specs.Wire.{code_of}
use Rattle.rules.specs.Windows.{goes_on}
use Rattle.rules.specs.declared.refusal.Report.{Report}
use Rattle.rules.specs.declared.answer.Extent.{Extent}
use Rattle.rules.specs.declared.answer.Ran.{Ran}
use Rattle.scalars.specs.Numbers.{scalar_numbers}
use Rattle.answers.specs.declared.AnswerNumbers.{AnswerNumbers}

-- numbers, one after another
unfoldable pub words : List ℕ → List ℕ
words [] = []
words (x ∷ xs) = le 8 x ++ words xs

-- the order of the eleven
unfoldable pub answer_layout : AnswerNumbers → List ℕ
answer_layout a =
    words
    (a.what
    ∷ a.why.number ∷ a.why.place ∷ a.why.a ∷ a.why.b ∷ a.why.c
    ∷ a.rows ∷ a.row.bytes ∷ a.row.table ∷ a.row.records ∷ a.row.payload
    ∷ [])

-- no refusal
abbrev pub no_refusal : Report
no_refusal = record { number = 0; place = 0; a = 0; b = 0; c = 0 }

-- so many bytes, and nothing of a single row
abbrev pub extent_of_bytes : ℕ → Extent
extent_of_bytes n = record { table = 0; bytes = n; records = 0; payload = 0 }

-- what: 0 a row, 1 an end, 2 a refusal
unfoldable pub answer_of_read : Result (Option Extent) Refusal → AnswerNumbers
answer_of_read (Ok (Some e)) = record { what = 0; why = no_refusal; rows = 1; row = e }
answer_of_read (Ok None) = record { what = 1; why = no_refusal; rows = 0; row = extent_of_bytes 0 }
answer_of_read (Err r) = record { what = 2; why = report_of r; rows = 0; row = extent_of_bytes 0 }

-- a row that was written is told as one that was read
unfoldable pub answer_of_written : Result Extent Refusal → AnswerNumbers
answer_of_written (Ok e) = answer_of_read (Ok (Some e))
answer_of_written (Err r) = answer_of_read (Err r)

-- a text that was written is told by its bytes
unfoldable pub answer_of_text : Result ℕ Refusal → AnswerNumbers
answer_of_text (Ok n) = record { what = 0; why = no_refusal; rows = 0; row = extent_of_bytes n }
answer_of_text (Err r) = answer_of_read (Err r)

-- what a check accepts is told by zeros alone, what it refuses as ever
unfoldable pub answer_of_checked : Result ⊤ Refusal → AnswerNumbers
answer_of_checked (Ok tt) = record { what = 0; why = no_refusal; rows = 0; row = extent_of_bytes 0 }
answer_of_checked (Err r) = answer_of_read (Err r)

-- a wire type is told by its code, in the table's place; where there is none, what is 3, and all else 0
unfoldable pub answer_of_known : Option WireType → AnswerNumbers
answer_of_known (Some t) = record { what = 0; why = no_refusal; rows = 0; row = record { table = code_of t; bytes = 0; records = 0; payload = 0 } }
answer_of_known None = record { what = 3; why = no_refusal; rows = 0; row = extent_of_bytes 0 }

-- a record's value: which case it is in the table's place, its number in the records', and a payload's length in the payload's
unfoldable pub answer_of_queried : Result Scalar Refusal → AnswerNumbers
answer_of_queried (Ok s) =
    let n = scalar_numbers s in
    record { what = 0; why = no_refusal; rows = 0; row = record { table = n.which; bytes = 0; records = n.number; payload = n.length } }
answer_of_queried (Err r) = answer_of_read (Err r)

-- what is seen from a record: its number where a value has its own, in the records' place
unfoldable pub answer_of_viewed : Result ℕ Refusal → AnswerNumbers
answer_of_viewed (Ok n) = record { what = 0; why = no_refusal; rows = 0; row = record { table = 0; bytes = 0; records = n; payload = 0 } }
answer_of_viewed (Err r) = answer_of_read (Err r)

unfoldable pub what_of : Result ⊤ Refusal → ℕ
what_of (Ok tt) = 1
what_of (Err r) = 2

unfoldable pub why_of : Result ⊤ Refusal → Report
why_of (Ok tt) = no_refusal
why_of (Err r) = report_of r

unfoldable pub answer_of_ran : Ran → AnswerNumbers
answer_of_ran r = record { what = what_of r.stop; why = why_of r.stop; rows = r.rows; row = extent_of_bytes r.bytes }

-- the run over a window: the same numbers, and in the table's place 1 where bytes to come may change them, else 0
unfoldable pub answer_of_window : Ran → AnswerNumbers
answer_of_window r =
    record {
      what = what_of r.stop;
      why = why_of r.stop;
      rows = r.rows;
      row = record { table = pick (goes_on r.stop) 1 0; bytes = r.bytes; records = 0; payload = 0 };
    }
