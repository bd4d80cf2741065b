-- Demand 3 in document 01's words: what is asked where a value is encoded and read back, what is answered then, and what is refused in which order.
-- Assumes nothing: these are definitions.
use Rattle.std.specs.Prelude.{ℕ, ◌+◌, ◌≤◌, ◌<◌, ◌≡◌, true, false, List, [], ◌∷◌, length, Ok, Err, Some}
use Rattle.rules.specs.Bytes.{Stands, over, longest_slice}
use Rattle.rules.specs.Answers.{Said, said}
use Rattle.rules.specs.Wire.{Form}
use Rattle.rules.specs.Schema.{Schema, Schemas}
use Rattle.rules.specs.Block.{block}
use Rattle.rules.specs.Format.{Format, table_schema, format_rule, encoder_rules}
use Rattle.rules.specs.Value.{Value, Items, Values, Within, costs, records_of, payload_of}
use Rattle.rules.specs.ValueTable.{TableOf}
use Rattle.rules.specs.Grammar.{Row, row, Body, a_nothing, a_false, a_true, a_number, a_wide, a_blob, a_variant, a_repeated, a_tuple, Pairs, end, pair, Fields, no_field, field, TableRow, table_row, Conforms, encoded_row}
use Rattle.rules.specs.Walk.{Limits, blob_limit}
use Rattle.rules.specs.Reading.{settings_ok, limits, Decoded, room, record_room}
use Rattle.rules.specs.Writing.{Wrote, Put, write_row, Encoded, encode_ok}
use Rattle.rules.specs.declared.settings.Settings.{Settings}
use Rattle.rules.specs.declared.table_record.Located.TheVariants.{Block}
use Rattle.rules.specs.declared.refusal.Refusal.{Refusal}
use Rattle.rules.specs.declared.answer.Extent.{Extent}

-- ---- encoding

-- A checked format, whose table 0 has its schema in n records from record `first` on; settings and slices inside document 01's bounds; a
-- position in the output.
pub record EncodeAsked (f : Format) (s : Settings) (first n : ℕ) (recs pay out : List ℕ) (at : ℕ) : Type 0 where
  pub format : format_rule f ≡ Ok tt
  pub block : table_schema f 0 ≡ Block first n
  pub settings : settings_ok s ≡ true
  pub records : length recs ≤ longest_slice
  pub payload : length pay ≤ longest_slice
  pub position : at ≤ room out

-- A value that is encoded: it conforms to the schema, each blob is within its type's limit, and the row fits the output.
pub record Encodable (sch : Schema) (lim : Limits) (v : Value) (out : List ℕ) (at : ℕ) : Type 0 where
  pub conforms : Conforms sch v
  pub within : Within (blob_limit lim) v
  pub fits : at + length (encoded_row sch v) ≤ room out

-- The answer and the output of an accepted encode: the canonical row, over what stood in the output.
abbrev pub encoded_into : Schema → Value → List ℕ → ℕ → Encoded
encoded_into sch v out at = record {
  answer = Ok (record { table = 0; bytes = length (encoded_row sch v); records = records_of v; payload = payload_of v });
  output = over out at (encoded_row sch v);
}

-- What an encode is refused by, in this order: settings, slices and position (1); the schema; the value table, which is no value's (18);
-- the row as met by the walk; last the room in the output (21), which carries the row's bytes and has the output position as its place.
module _ (s : Settings) (table names : List ℕ) (first n : ℕ) (recs pay out : List ℕ) (at : ℕ) where
  pub data EncodeRefuses : Said → Type 0 where
    by-setting :
        encode_ok s table names recs pay out at ≡ false →
        EncodeRefuses (record { number = 1; place = 0; carries = [] })
    by_schema : {r : Refusal} →
        encode_ok s table names recs pay out at ≡ true → encoder_rules table names first n ≡ Err r →
        EncodeRefuses (said r)
    by-table :
        encode_ok s table names recs pay out at ≡ true → encoder_rules table names first n ≡ Ok tt →
        ((v : Value) → TableOf v recs pay → ⊥) →
        EncodeRefuses (record { number = 18; place = 0; carries = [] })
    by_row : {v : Value} {r : Refusal} →
        encode_ok s table names recs pay out at ≡ true → encoder_rules table names first n ≡ Ok tt →
        TableOf v recs pay → write_row (block table first n) (limits s) v ≡ Wrote.Refused r →
        EncodeRefuses (said r)
    by_room : {v : Value} {b : List ℕ} →
        encode_ok s table names recs pay out at ≡ true → encoder_rules table names first n ≡ Ok tt →
        TableOf v recs pay → write_row (block table first n) (limits s) v ≡ Put b → room out < at + length b →
        EncodeRefuses (record { number = 21; place = at; carries = length b ∷ [] })

-- ---- reading back

-- A row of v stands somewhere in a stream that is not too long; the reader's settings are inside document 01's bounds, its two blob limits
-- each no lower than the writer's, and its row limit covers the row's charge.
pub record SkipAsked (s s' : Settings) (v : Value) (row inp : List ℕ) (position : ℕ) : Type 0 where
  pub stands : Stands inp position row
  pub short : length inp ≤ longest_slice
  pub settings : settings_ok s' ≡ true
  pub string32 : s.max_string32_bytes ≤ s'.max_string32_bytes
  pub yson32 : s.max_yson32_bytes ≤ s'.max_yson32_bytes
  pub charge : costs (limits s').charge v ≤ (limits s').row

-- There is room for what the row e takes.
pub record HasRoom (e : Extent) (rs ps : List ℕ) : Type 0 where
  pub nodes : e.records ≤ record_room rs
  pub payload : e.payload ≤ room ps

-- The answer and the two slices of a decode that gives back a row e: these records and this payload, from the start of each slice.
abbrev pub decoded_as : Extent → List ℕ → List ℕ → List ℕ → List ℕ → Decoded
decoded_as e recs pay rs ps = record { answer = Ok (Some e); records = over rs 0 recs; payload = over ps 0 pay }

-- ---- written again

-- every boolean byte of a row is 0 or 1
unfoldable mutual
  pub PlainBooleans : {s : Schema} {v : Value} {b : List ℕ} → Row s v b → Type 0
  PlainBooleans (row h) = PlainBody h

  pub PlainBody : {f : Form} {k : ℕ} {ss : Schemas} {v : Value} {b : List ℕ} → Body f k ss v b → Type 0
  PlainBody a_nothing = Unit
  PlainBody a_false = Unit
  PlainBody (a_true {x = x} h) = x ≡ 1
  PlainBody (a_number h e) = Unit
  PlainBody (a_wide h) = Unit
  PlainBody (a_blob h e) = Unit
  PlainBody (a_variant h l r e) = PlainBooleans r
  PlainBody (a_repeated h) = PlainPairs h
  PlainBody (a_tuple h) = PlainFields h

  pub PlainPairs : {w : ℕ} {ss : Schemas} {is : Items} {b : List ℕ} → Pairs w ss is b → Type 0
  PlainPairs (end e) = Unit
  PlainPairs (pair h l r p e) = PlainBooleans r × PlainPairs p

  pub PlainFields : {ss : Schemas} {vs : Values} {b : List ℕ} → Fields ss vs b → Type 0
  PlainFields no_field = Unit
  PlainFields (field r h e) = PlainBooleans r × PlainFields h

unfoldable pub PlainRow : {n t : ℕ} {schema : ℕ → Schema} {v : Value} {b : List ℕ} → TableRow n schema t v b → Type 0
PlainRow (table_row h l r e) = PlainBooleans r
