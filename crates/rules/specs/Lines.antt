-- The lines that a run is told in.
-- Assumes nothing: these are definitions.
use Rattle.std.specs.Prelude.{ℕ, zero, suc, ◌-◌, List, [], ◌∷◌, ◌++◌, Bool, true, false, get_or, ltb, eqb, Result, Ok, Err, ⊤}
use Prim.Native.String.{String}
use Rattle.rules.specs.Choice.{pick}
use Rattle.rules.specs.Wire.{wire_types}
use Rattle.rules.specs.Names.{ascii, name_of}
use Rattle.rules.specs.Numerals.{numeral}
use Rattle.rules.specs.Refusals.{line_of, labels_of, report_of}
use Rattle.rules.specs.declared.wire_type.WireType.{WireType}
use Rattle.rules.specs.declared.refusal.Label.{Label}
use Rattle.rules.specs.declared.refusal.Label.TheVariants as label
use Rattle.rules.specs.declared.refusal.Labels.{Labels}
use Rattle.rules.specs.declared.refusal.Refusal.{Refusal}
use Rattle.rules.specs.declared.answer.Ran.{Ran}

-- a number in decimal
unfoldable pub decimal : ℕ → List ℕ
decimal n = numeral 10 n

-- ---- words

-- a text up to its first blank
unfoldable pub word : List ℕ → List ℕ
word [] = []
word (x ∷ xs) = pick (eqb x 32) [] (x ∷ word xs)

unfoldable pub is_none : List ℕ → Bool
is_none [] = true
is_none (x ∷ xs) = false

-- the word for a wire code is its type's name
unfoldable pub code_words : List WireType → ℕ → List ℕ
code_words [] code = []
code_words (t ∷ ts) zero = name_of t
code_words (t ∷ ts) (suc code) = code_words ts code

unfoldable pub code_word : ℕ → List ℕ
code_word code = code_words wire_types code

-- the word for a context: of a fixed type its name, and from 13 on these
unfoldable pub context_words : List (List ℕ)
context_words = ascii "blob-length" ∷ ascii "blob-payload" ∷ ascii "variant8-tag" ∷ ascii "variant16-tag" ∷ ascii "table-tag" ∷ []

unfoldable pub context_word : ℕ → List ℕ
context_word c = pick (ltb c 13) (code_word c) (get_or context_words (c - 13) [])

-- a word behind a blank, if there is one
unfoldable pub spaced : List ℕ → List ℕ
spaced w = pick (is_none w) [] (32 ∷ w)

-- a carried value behind a text: what it is, the number, and for a wire code or a context its word
unfoldable pub item : List ℕ → List ℕ → ℕ → List ℕ → List ℕ
item before label value w = pick (is_none label) [] (before ++ (label ++ ((32 ∷ decimal value) ++ spaced w)))

-- ---- lines

-- `end ROWS BYTES`
unfoldable pub end_line : ℕ → ℕ → List ℕ
end_line rows bytes = (ascii "end " ++ decimal rows) ++ ((ascii " " ++ decimal bytes) ++ (10 ∷ []))

-- what a carried value is, in a word
unfoldable pub label_text : Label → String
label_text label.Unused = ""
label_text label.Type = "type"
label_text label.Count = "count"
label_text label.Maximum = "maximum"
label_text label.Table = "table"
label_text label.Index = "index"
label_text label.Context = "context"
label_text label.Limit = "limit"
label_text label.Length = "length"
label_text label.Kind = "kind"
label_text label.Expected = "expected"
label_text label.Actual = "actual"
label_text label.Tag = "tag"
label_text label.Children = "children"
label_text label.Needed = "needed"

abbrev pub labelled : Label → List ℕ
labelled l = ascii (label_text l)

-- a type and a context have a word of their own
unfoldable pub word_of : Label → ℕ → List ℕ
word_of label.Unused value = []
word_of label.Type value = code_word value
word_of label.Count value = []
word_of label.Maximum value = []
word_of label.Table value = []
word_of label.Index value = []
word_of label.Context value = context_word value
word_of label.Limit value = []
word_of label.Length value = []
word_of label.Kind value = []
word_of label.Expected value = []
word_of label.Actual value = []
word_of label.Tag value = []
word_of label.Children value = []
word_of label.Needed value = []

-- a bracket is closed where one was opened
unfoldable pub closing_bracket : List ℕ → List ℕ
closing_bracket label = pick (is_none label) [] (ascii ")")

-- what is carried: in brackets, with commas between
unfoldable pub carried : Labels → ℕ → ℕ → ℕ → List ℕ
carried l a b c =
    item (ascii " (") (labelled l.first) a (word_of l.first a)
    ++ (item (ascii ", ") (labelled l.second) b (word_of l.second b)
    ++ (item (ascii ", ") (labelled l.third) c (word_of l.third c) ++ closing_bracket (labelled l.first)))

-- ` at PLACE after ROWS rows, BYTES bytes`
unfoldable pub stopped_at : ℕ → ℕ → ℕ → List ℕ
stopped_at place rows bytes = (ascii " at " ++ decimal place) ++ ((ascii " after " ++ decimal rows) ++ ((ascii " rows, " ++ decimal bytes) ++ (ascii " bytes" ++ (10 ∷ []))))

-- `refused NUMBER NAME (what it carries) at PLACE after ROWS rows, BYTES bytes`
unfoldable pub refused_line : Refusal → ℕ → ℕ → List ℕ
refused_line r rows bytes =
    (ascii "refused " ++ decimal (report_of r).number)
    ++ (ascii " " ++ (ascii (line_of r.why).name ++ (carried (labels_of (line_of r.why)) (report_of r).a (report_of r).b (report_of r).c ++ stopped_at r.place rows bytes)))

-- the line of a run
unfoldable pub run_line_of : ℕ → ℕ → Result ⊤ Refusal → List ℕ
run_line_of rows bytes (Ok tt) = end_line rows bytes
run_line_of rows bytes (Err r) = refused_line r rows bytes

unfoldable pub run_line : Ran → List ℕ
run_line ran = run_line_of ran.rows ran.bytes ran.stop
