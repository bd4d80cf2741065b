-- What encoding answers, and what it leaves in the output.
-- Assumes nothing: these are definitions.
use Rattle.rules.specs.declared.answer.Extent.{Extent}
use Rattle.std.specs.Prelude.{ℕ, ◌+◌, Bool, List, [], ◌∷◌, ◌++◌, length, ltb, leb, eqb, Result, Ok, Err}
use Rattle.rules.specs.Choice.{pick, ◌and◌}
use Rattle.rules.specs.Bytes.{le, over}
use Rattle.rules.specs.Wire.{Form, empty, truth, fixed, raw, sized, variant_form, repeated_form, tuple_form, unknown, form, width_of, end_tag}
use Rattle.rules.specs.Block.{node_at, block}
use Rattle.rules.specs.Format.{Format, short_ok, encoder_rules}
use Rattle.rules.specs.Value.{Value, nothing, boolean, number, wide, blob, variant, repeated, tuple, Items, done, item, Values, none, more, values, records_of, payload_of}
use Rattle.rules.specs.ValueTable.{bit, Parsed, Whole, Broken, table_value}
use Rattle.rules.specs.Walk.{Limits, blob_limit}
use Rattle.rules.specs.Reading.{settings_ok, limits, room, when_accepted}
use Rattle.rules.specs.declared.settings.Settings.{Settings}
use Rattle.rules.specs.declared.refusal.Refusal.{Refusal}
use Rattle.rules.specs.Refusals.{Setting, BlobTooLarge, ValueDoesNotMatchSchema, TupleLength, InvalidVariantTag, BadValueTable, NoOutputRoom}

-- bytes, or why not
pub data Wrote : Type 0 where
  Put : List ℕ → Wrote
  Refused : Refusal → Wrote

infixl 20 ◌>>=◌
unfoldable pub ◌>>=◌ : Wrote → (List ℕ → Wrote) → Wrote
Put b >>= k = k b
Refused r >>= k = Refused r

-- which kinds a form takes: a scalar's or blob's own wire code; either variant 15, either repeated one 16, a tuple 17
unfoldable pub kind_for : ℕ → Form → ℕ
kind_for code empty = code
kind_for code truth = code
kind_for code (fixed w) = code
kind_for code (raw w) = code
kind_for code sized = code
kind_for code (variant_form w) = 15
kind_for code (repeated_form w) = 16
kind_for code tuple_form = 17
kind_for code unknown = 18

module _ (sch : List ℕ) (lim : Limits) where
  abbrev pub form_at : ℕ → Form
  form_at i = form (node_at sch i).code

  -- 15 unless the value's kind is the one that node i takes; record r
  unfoldable pub fitting : ℕ → ℕ → ℕ → Wrote → Wrote
  fitting kind i r w = pick (eqb kind (kind_for (node_at sch i).code (form_at i))) w (Refused (ValueDoesNotMatchSchema (node_at sch i).code kind r))

  -- 17 unless the tag, which record r bears, names a child of node i
  unfoldable pub tagged : ℕ → ℕ → ℕ → Wrote → Wrote
  tagged t i r w = pick (ltb t (node_at sch i).children) w (Refused (InvalidVariantTag (node_at sch i).code t (node_at sch i).children r))

  -- a value at node i, whose record is r
  unfoldable mutual
    pub write : Value → ℕ → ℕ → Wrote
    write nothing i r = fitting 0 i r (Put [])
    write (boolean x) i r = fitting 1 i r (Put (bit x ∷ []))
    write (number k x) i r = fitting k i r (Put (le (width_of (form_at i)) x))
    write (wide k x) i r = fitting k i r (Put x)
    write (blob k x) i r = fitting k i r
        (pick (leb (length x) (blob_limit lim k)) (Put (le 4 (length x) ++ x))
        (Refused (BlobTooLarge k (length x) (blob_limit lim k) r)))
    write (variant t v) i r = fitting 15 i r (tagged t i (r + 1) (do
      x ← write v ((node_at sch i).first + t) (r + 1)
      Put (le (width_of (form_at i)) t ++ x)))
    write (repeated is) i r = fitting 16 i r (write_i is i (r + 1))
    write (tuple vs) i r = fitting 17 i r
        (pick (eqb (values vs) (node_at sch i).children) (write_v vs (node_at sch i).first (r + 1))
        (Refused (TupleLength (node_at sch i).children (values vs) r)))

    -- the pairs of a repeated node i, from record r on, and the end tag
    pub write_i : Items → ℕ → ℕ → Wrote
    write_i done i r = Put (le (width_of (form_at i)) (end_tag (width_of (form_at i))))
    write_i (item t v is) i r = tagged t i r (do
      x ← write v ((node_at sch i).first + t) r
      y ← write_i is i (r + records_of v)
      Put (le (width_of (form_at i)) t ++ (x ++ y)))

    -- the children of a tuple, from node j and record r on
    pub write_v : Values → ℕ → ℕ → Wrote
    write_v none j r = Put []
    write_v (more v vs) j r = do
      x ← write v j r
      y ← write_v vs (j + 1) (r + records_of v)
      Put (x ++ y)

-- a row: table tag 0 and the root's value
unfoldable pub write_row : List ℕ → Limits → Value → Wrote
write_row sch lim v = do
  x ← write sch lim v 0 0
  Put (le 2 0 ++ x)

-- ---- the whole call: the answer, and the output afterwards
pub record Encoded : Type 0 where
  pub answer : Result Extent Refusal
  pub output : List ℕ

abbrev pub unwritten : List ℕ → Refusal → Encoded
unwritten out r = record { answer = Err r; output = out }

-- room in the output is tested last (21), with the row's bytes and the output position
unfoldable pub placed : Value → List ℕ → ℕ → Wrote → Encoded
placed v out at (Put b) =
    pick (leb (at + length b) (room out))
    (record { answer = Ok (record { table = 0; bytes = length b; records = records_of v; payload = payload_of v }); output = over out at b })
    (unwritten out (NoOutputRoom (length b) at))
placed v out at (Refused r) = unwritten out r

-- the value table's form (18), then the row as met by the walk
unfoldable pub encode_value : List ℕ → Limits → Parsed Value → List ℕ → ℕ → Encoded
encode_value sch lim (Whole v q) out at = placed v out at (write_row sch lim v)
encode_value sch lim Broken out at = unwritten out BadValueTable

-- settings and slices inside the bounds, and a position in the output
unfoldable pub encode_ok : Settings → List ℕ → List ℕ → List ℕ → List ℕ → List ℕ → ℕ → Bool
encode_ok s table names records payload out at = settings_ok s and short_ok table and short_ok names and short_ok records and short_ok payload and leb at (room out)

-- these (1); the schema; the value table and the row
unfoldable pub encode_rule : Settings → List ℕ → List ℕ → ℕ → ℕ → List ℕ → List ℕ → List ℕ → ℕ → Encoded
encode_rule s table names first n records payload out at =
    pick (encode_ok s table names records payload out at)
    (when_accepted (unwritten out) (encoder_rules table names first n) (encode_value (block table first n) (limits s) (table_value records payload) out at))
    (unwritten out Setting)

-- the encoder with the tables of a format, given the block of n records from record `first` on
abbrev pub encode_from : Format → Settings → ℕ → ℕ → List ℕ → List ℕ → List ℕ → ℕ → Encoded
encode_from f s first n records payload out at = encode_rule s f.table f.names first n records payload out at
