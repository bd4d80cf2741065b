-- The refusals: number, name, carried values and place of each; and checks one after another.
-- Assumes nothing: these are definitions.
use Rattle.std.specs.Prelude.{ℕ, zero, suc, ◌+◌, Bool, true, false, List, [], ◌∷◌, ◌++◌, get_or, take, replicate, Result, Ok, Err, ⊤}
use Prim.Native.String.{String}
use Rattle.rules.specs.Names.{ascii}
use Rattle.rules.specs.declared.refusal.Report.{Report}
use Rattle.rules.specs.declared.refusal.Refusal.{Refusal}
use Rattle.rules.specs.declared.refusal.RefusalLine.{RefusalLine}
use Rattle.rules.specs.declared.refusal.Label.{Label}
use Rattle.rules.specs.declared.refusal.Label.TheVariants as label
use Rattle.rules.specs.declared.refusal.Labels.{Labels}
use Rattle.rules.specs.declared.refusal.Why.{Why}
use Rattle.rules.specs.declared.refusal.Why.TheVariants as why

-- A line of the documents' table of refusals: number, name, carried values and what each of them is, and whether the place is an offset in
-- the stream that is read, so that it moves with the stream.
pub record Line : Type 0 where
  pub number : ℕ
  pub name : String
  pub carries : List ℕ
  pub labels : List Label
  pub moves : Bool

abbrev stays : ℕ → String → List ℕ → List Label → Line
stays number name carries labels = record { number = number; name = name; carries = carries; labels = labels; moves = false }

abbrev moves : ℕ → String → List ℕ → List Label → Line
moves number name carries labels = record { number = number; name = name; carries = carries; labels = labels; moves = true }

-- the table of refusals
unfoldable pub line_of : Why → Line
line_of why.Setting = stays 1 "Setting" [] []
line_of why.BadSchemaTable = stays 2 "BadSchemaTable" [] []
line_of why.TooDeep = stays 3 "TooDeep" [] []
line_of (why.UnexpectedChildren type count) = stays 4 "UnexpectedChildren" (type ∷ count ∷ []) (label.Type ∷ label.Count ∷ [])
line_of (why.TooManyChildren type count maximum) = stays 5 "TooManyChildren" (type ∷ count ∷ maximum ∷ []) (label.Type ∷ label.Count ∷ label.Maximum ∷ [])
line_of why.EmptyTableSchemas = stays 6 "EmptyTableSchemas" [] []
line_of (why.UnknownRegistryReference table) = stays 7 "UnknownRegistryReference" (table ∷ []) (label.Table ∷ [])
line_of (why.TableSchemaRootMustBeTuple found) = stays 8 "TableSchemaRootMustBeTuple" (found ∷ []) (label.Type ∷ [])
line_of (why.TableSchemaMustBeTuple found) = stays 9 "TableSchemaMustBeTuple" (found ∷ []) (label.Type ∷ [])
line_of (why.TableSchemaChildMissingName index) = stays 10 "TableSchemaChildMissingName" (index ∷ []) (label.Index ∷ [])
line_of (why.MissingTableSchema index) = moves 11 "MissingTableSchema" (index ∷ []) (label.Table ∷ [])
line_of (why.Truncated context) = moves 12 "Truncated" (context ∷ []) (label.Context ∷ [])
line_of (why.RowTooLarge limit) = moves 13 "RowTooLarge" (limit ∷ []) (label.Limit ∷ [])
line_of (why.BlobTooLarge type length limit) = moves 14 "BlobTooLarge" (type ∷ length ∷ limit ∷ []) (label.Type ∷ label.Length ∷ label.Limit ∷ [])
line_of (why.ValueDoesNotMatchSchema type kind) = stays 15 "ValueDoesNotMatchSchema" (type ∷ kind ∷ []) (label.Type ∷ label.Kind ∷ [])
line_of (why.TupleLength expected actual) = stays 16 "TupleLength" (expected ∷ actual ∷ []) (label.Expected ∷ label.Actual ∷ [])
line_of (why.InvalidVariantTag type tag children) = moves 17 "InvalidVariantTag" (type ∷ tag ∷ children ∷ []) (label.Type ∷ label.Tag ∷ label.Children ∷ [])
line_of why.BadValueTable = stays 18 "BadValueTable" [] []
line_of (why.NoNodeRoom needed) = moves 19 "NoNodeRoom" (needed ∷ []) (label.Needed ∷ [])
line_of (why.NoPayloadRoom needed) = moves 20 "NoPayloadRoom" (needed ∷ []) (label.Needed ∷ [])
line_of (why.NoOutputRoom needed) = stays 21 "NoOutputRoom" (needed ∷ []) (label.Needed ∷ [])
line_of why.NoIndexRoom = stays 30 "NoIndexRoom" [] []
line_of why.IndexMismatch = stays 31 "IndexMismatch" [] []
line_of why.NoSuchRow = stays 32 "NoSuchRow" [] []
line_of why.NameNotUtf8 = stays 33 "NameNotUtf8" [] []

abbrev pub refusal_number : Refusal → ℕ
refusal_number r = (line_of r.why).number

-- a line as a program has it, from its parts: the name as bytes, three carried values and what each of them is
abbrev pub line_with : ℕ → List ℕ → Bool → ℕ → Label → ℕ → Label → ℕ → Label → RefusalLine
line_with number name moves a first b second c third =
    record { number = number; name = name; moves = moves; a = a; b = b; c = c; labels = record { first = first; second = second; third = third } }

-- what the three values are, where three are carried
unfoldable pub labels_of : Line → Labels
labels_of l = record { first = get_or l.labels 0 label.Unused; second = get_or l.labels 1 label.Unused; third = get_or l.labels 2 label.Unused }

-- a line of the table as a program has it: the name with blanks up to 28 bytes, three carried values, 0 where there is none
unfoldable pub in_bytes : Line → RefusalLine
in_bytes l = record { number = l.number; name = take 28 (ascii l.name ++ replicate 28 32); moves = l.moves; a = get_or l.carries 0 0; b = get_or l.carries 1 0; c = get_or l.carries 2 0; labels = labels_of l }

-- a refusal in five numbers, 0 where nothing is carried
unfoldable pub report_of : Refusal → Report
report_of r = record { number = refusal_number r; place = r.place; a = get_or (line_of r.why).carries 0 0; b = get_or (line_of r.why).carries 1 0; c = get_or (line_of r.why).carries 2 0 }

-- ---- the refusals, each with its place: 0 where it has none, the table's index for 7

abbrev pub Setting : Refusal
Setting = record { why = why.Setting; place = 0 }

abbrev pub BadSchemaTable : Refusal
BadSchemaTable = record { why = why.BadSchemaTable; place = 0 }

abbrev pub TooDeep : Refusal
TooDeep = record { why = why.TooDeep; place = 0 }

abbrev pub UnexpectedChildren : ℕ → ℕ → ℕ → Refusal
UnexpectedChildren type count place = record { why = why.UnexpectedChildren type count; place = place }

abbrev pub TooManyChildren : ℕ → ℕ → ℕ → ℕ → Refusal
TooManyChildren type count maximum place = record { why = why.TooManyChildren type count maximum; place = place }

abbrev pub EmptyTableSchemas : Refusal
EmptyTableSchemas = record { why = why.EmptyTableSchemas; place = 0 }

abbrev pub UnknownRegistryReference : ℕ → Refusal
UnknownRegistryReference table = record { why = why.UnknownRegistryReference table; place = table }

abbrev pub TableSchemaRootMustBeTuple : ℕ → ℕ → Refusal
TableSchemaRootMustBeTuple found place = record { why = why.TableSchemaRootMustBeTuple found; place = place }

abbrev pub TableSchemaMustBeTuple : ℕ → ℕ → Refusal
TableSchemaMustBeTuple found place = record { why = why.TableSchemaMustBeTuple found; place = place }

abbrev pub TableSchemaChildMissingName : ℕ → ℕ → Refusal
TableSchemaChildMissingName index place = record { why = why.TableSchemaChildMissingName index; place = place }

abbrev pub MissingTableSchema : ℕ → ℕ → Refusal
MissingTableSchema index place = record { why = why.MissingTableSchema index; place = place }

abbrev pub Truncated : ℕ → ℕ → Refusal
Truncated context place = record { why = why.Truncated context; place = place }

abbrev pub RowTooLarge : ℕ → ℕ → Refusal
RowTooLarge limit place = record { why = why.RowTooLarge limit; place = place }

abbrev pub BlobTooLarge : ℕ → ℕ → ℕ → ℕ → Refusal
BlobTooLarge type length limit place = record { why = why.BlobTooLarge type length limit; place = place }

abbrev pub ValueDoesNotMatchSchema : ℕ → ℕ → ℕ → Refusal
ValueDoesNotMatchSchema type kind place = record { why = why.ValueDoesNotMatchSchema type kind; place = place }

abbrev pub TupleLength : ℕ → ℕ → ℕ → Refusal
TupleLength expected actual place = record { why = why.TupleLength expected actual; place = place }

abbrev pub InvalidVariantTag : ℕ → ℕ → ℕ → ℕ → Refusal
InvalidVariantTag type tag children place = record { why = why.InvalidVariantTag type tag children; place = place }

abbrev pub BadValueTable : Refusal
BadValueTable = record { why = why.BadValueTable; place = 0 }

abbrev pub NoNodeRoom : ℕ → ℕ → Refusal
NoNodeRoom needed place = record { why = why.NoNodeRoom needed; place = place }

abbrev pub NoPayloadRoom : ℕ → ℕ → Refusal
NoPayloadRoom needed place = record { why = why.NoPayloadRoom needed; place = place }

abbrev pub NoOutputRoom : ℕ → ℕ → Refusal
NoOutputRoom needed place = record { why = why.NoOutputRoom needed; place = place }

abbrev pub NoIndexRoom : Refusal
NoIndexRoom = record { why = why.NoIndexRoom; place = 0 }

abbrev pub IndexMismatch : Refusal
IndexMismatch = record { why = why.IndexMismatch; place = 0 }

abbrev pub NoSuchRow : Refusal
NoSuchRow = record { why = why.NoSuchRow; place = 0 }

abbrev pub NameNotUtf8 : Refusal
NameNotUtf8 = record { why = why.NameNotUtf8; place = 0 }

-- ---- checks one after another

-- the first refusal of two checks
infixl 20 ◌then◌
unfoldable pub ◌then◌ : Result ⊤ Refusal → Result ⊤ Refusal → Result ⊤ Refusal
(Ok tt) then b = b
(Err r) then b = Err r

-- the first refusal of the checks of n things from i on, in order
unfoldable pub in_order : (ℕ → Result ⊤ Refusal) → ℕ → ℕ → Result ⊤ Refusal
in_order check i zero = Ok tt
in_order check i (suc n) = check i then in_order check (i + 1) n
