-- What reading a value answers: a walk over a block and the input, with charges, limits, and every refusal with its place.
-- Assumes nothing: these are definitions.
use Rattle.std.specs.Prelude.{ℕ, zero, suc, ◌+◌, ◌-◌, List, length, ltb, leb, eqb}
use Rattle.rules.specs.Choice.{pick}
use Rattle.rules.specs.Bytes.{le_at, part}
use Rattle.rules.specs.declared.wire_type.WireType.TheVariants.{Yson32}
use Rattle.rules.specs.Wire.{code_of, Form, empty, truth, fixed, raw, sized, variant_form, repeated_form, tuple_form, unknown, form, end_tag}
use Rattle.rules.specs.Block.{node_at}
use Rattle.rules.specs.Value.{Value, nothing, boolean, number, wide, blob, variant, repeated, tuple, Items, done, item, Values, none, more, costs, records_of, payload_of}
use Rattle.rules.specs.declared.table_record.Node.{Node}
use Rattle.rules.specs.declared.refusal.Refusal.{Refusal}
use Rattle.rules.specs.Refusals.{Setting, BadSchemaTable, TooDeep, Truncated, RowTooLarge, BlobTooLarge, InvalidVariantTag}

-- what a node costs, how long a string32 and a yson32 may be, and how much a row may cost
pub record Limits : Type 0 where
  pub charge : ℕ
  pub string32 : ℕ
  pub yson32 : ℕ
  pub row : ℕ

-- of two limits, that of a wire code: yson32's is the second
unfoldable pub of_type : ℕ → ℕ → ℕ → ℕ
of_type code string32 yson32 = pick (eqb code (code_of Yson32)) yson32 string32

-- the longest blob of a wire code
unfoldable pub blob_limit : Limits → ℕ → ℕ
blob_limit lim code = of_type code lim.string32 lim.yson32

-- where the walk stands, what is left of the row's allowance, and the records and payload bytes that it has passed
pub record Pos : Type 0 where
  pub at : ℕ
  pub left : ℕ
  pub records : ℕ
  pub payload : ℕ

-- something read and where that leaves off, or why not
pub data Answer (A : Type 0) : Type 0 where
  Got : A → Pos → Answer A
  Refused : Refusal → Answer A

infixl 20 ◌>>=◌
unfoldable pub ◌>>=◌ : {A B : Type 0} → Answer A → (A × Pos → Answer B) → Answer B
Got a q >>= k = k (a, q)
Refused r >>= k = Refused r

-- n bytes further
abbrev pub onward : ℕ → Pos → Pos
onward n p = record { at = p.at + n; left = p.left; records = p.records; payload = p.payload }

-- a number in w bytes, or 12 at the cut field
unfoldable pub number_of : List ℕ → ℕ → ℕ → Pos → Answer ℕ
number_of inp w context p =
    pick (leb w (length inp - p.at)) (Got (le_at inp p.at w) (onward w p))
    (Refused (Truncated context p.at))

-- n bytes of payload, or 12 at the cut field
unfoldable pub bytes_of : List ℕ → ℕ → ℕ → Pos → Answer (List ℕ)
bytes_of inp n context p =
    pick (leb n (length inp - p.at)) (Got (part inp p.at n) (record { at = p.at + n; left = p.left; records = p.records; payload = p.payload + n }))
    (Refused (Truncated context p.at))

-- `cost` off the allowance, for r records, or 13 at `place`
unfoldable pub charged : Limits → ℕ → ℕ → ℕ → Pos → Answer Unit
charged lim cost r place p =
    pick (leb cost p.left) (Got tt (record { at = p.at; left = p.left - cost; records = p.records + r; payload = p.payload }))
    (Refused (RowTooLarge lim.row place))

-- a blob: its length, its type's limit (14), the charge for its length (13), its bytes
unfoldable pub blob_of : List ℕ → Limits → ℕ → Pos → Answer Value
blob_of inp lim code p = do
  (n, q) ← number_of inp 4 13 p
  pick (leb n (blob_limit lim code))
      (do
        (_, r) ← charged lim n 0 p.at q
        (b, s) ← bytes_of inp n 14 r
        Got (blob code b) s)
      (Refused (BlobTooLarge code n (blob_limit lim code) p.at))

-- how a child is read: by its index in the block, from a position
abbrev pub Walker : Type 0
Walker = ℕ → Pos → Answer Value

-- the child that the tag names, or 17 at the tag's place
unfoldable pub child_of : Walker → Node → ℕ → ℕ → Pos → Answer Value
child_of rec n tag place p =
    pick (ltb tag n.children) (rec (n.first + tag) p)
    (Refused (InvalidVariantTag n.code tag n.children place))

-- pairs until the end tag. Each has at least one byte, so as many as there are bytes left, and one more, are enough
unfoldable pub pairs_of : List ℕ → Walker → Node → ℕ → ℕ → Pos → Answer Items
pairs_of inp rec n w zero p = Refused Setting
pairs_of inp rec n w (suc enough) p = do
  (tag, q) ← number_of inp w (14 + w) p
  pick (eqb tag (end_tag w)) (Got done q)
      (do
        (v, r) ← child_of rec n tag p.at q
        (is, s) ← pairs_of inp rec n w enough r
        Got (item tag v is) s)

-- so many children in order, from index i on
unfoldable pub fields_of : Walker → ℕ → ℕ → Pos → Answer Values
fields_of rec i zero p = Got none p
fields_of rec i (suc children) p = do
  (v, q) ← rec i p
  (vs, r) ← fields_of rec (i + 1) children q
  Got (more v vs) r

-- what the form of a node's wire code says of its bytes
unfoldable pub value_of : List ℕ → Limits → Walker → Node → Form → Pos → Answer Value
value_of inp lim rec n empty p = Got nothing p
value_of inp lim rec n truth p = do
  (x, q) ← number_of inp 1 n.code p
  Got (boolean (ltb 0 x)) q
value_of inp lim rec n (fixed w) p = do
  (x, q) ← number_of inp w n.code p
  Got (number n.code x) q
value_of inp lim rec n (raw w) p = do
  (b, q) ← bytes_of inp w n.code p
  Got (wide n.code b) q
value_of inp lim rec n sized p = blob_of inp lim n.code p
value_of inp lim rec n (variant_form w) p = do
  (tag, q) ← number_of inp w (14 + w) p
  (v, r) ← child_of rec n tag p.at q
  Got (variant tag v) r
value_of inp lim rec n (repeated_form w) p = do
  (is, q) ← pairs_of inp rec n w (suc (length inp - p.at)) p
  Got (repeated is) q
value_of inp lim rec n tuple_form p = do
  (vs, q) ← fields_of rec n.first n.children p
  Got (tuple vs) q
value_of inp lim rec n unknown p = Refused BadSchemaTable

-- a node: the row is charged when it begins, before any byte of it, and its children have one level less
unfoldable pub walk : List ℕ → List ℕ → Limits → ℕ → Walker
walk sch inp lim zero i p = Refused TooDeep
walk sch inp lim (suc depth) i p = do
  (_, q) ← charged lim lim.charge 1 p.at p
  value_of inp lim (walk sch inp lim depth) (node_at sch i) (form (node_at sch i).code) q

-- where the reading of v in n bytes leaves off
unfoldable pub after : Limits → Value → ℕ → Pos → Pos
after lim v n p = record { at = p.at + n; left = p.left - costs lim.charge v; records = p.records + records_of v; payload = p.payload + payload_of v }
