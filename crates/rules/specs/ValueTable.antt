-- A value as a flat table: value records in preorder and a payload store. Its form (18) is that some value's table it is.
-- Assumes nothing: these are definitions.
use Rattle.std.specs.Prelude.{ℕ, zero, suc, ◌+◌, ◌^◌, ◌≤◌, ◌≡◌, Bool, true, false, List, [], ◌∷◌, ◌++◌, length, ltb, leb, eqb}
use Rattle.rules.specs.Choice.{pick, ◌and◌}
use Rattle.rules.specs.Bytes.{part}
use Rattle.rules.specs.Wire.{Form, empty, truth, fixed, raw, sized, variant_form, repeated_form, tuple_form, unknown, form}
use Rattle.rules.specs.Value.{Value, nothing, boolean, number, wide, blob, variant, repeated, tuple, Items, done, item, Values, none, more, items, values, tall, Fits, payload_of}
use Rattle.rules.specs.ValueRecord.{value_records_in, whole_value_records, value_record, layouts, value_record_at, is_record}
use Rattle.rules.specs.declared.table_record.ValueRecord.{ValueRecord}

unfoldable pub bit : Bool → ℕ
bit true = 1
bit false = 0

-- ---- the table of a value

-- the payload bytes, in preorder
unfoldable mutual
  pub payload_bytes : Value → List ℕ
  payload_bytes nothing = []
  payload_bytes (boolean x) = []
  payload_bytes (number k x) = []
  payload_bytes (wide k x) = x
  payload_bytes (blob k x) = x
  payload_bytes (variant t v) = payload_bytes v
  payload_bytes (repeated is) = payload_bytes_i is
  payload_bytes (tuple vs) = payload_bytes_v vs

  pub payload_bytes_i : Items → List ℕ
  payload_bytes_i done = []
  payload_bytes_i (item t v is) = payload_bytes v ++ payload_bytes_i is

  pub payload_bytes_v : Values → List ℕ
  payload_bytes_v none = []
  payload_bytes_v (more v vs) = payload_bytes v ++ payload_bytes_v vs

-- what a value's record says: its kind
unfoldable pub value_kind : Value → ℕ
value_kind nothing = 0
value_kind (boolean x) = 1
value_kind (number k x) = k
value_kind (wide k x) = k
value_kind (blob k x) = k
value_kind (variant t v) = 15
value_kind (repeated is) = 16
value_kind (tuple vs) = 17

-- its child count or payload length
unfoldable pub size_of : Value → ℕ
size_of nothing = 0
size_of (boolean x) = 0
size_of (number k x) = 0
size_of (wide k x) = length x
size_of (blob k x) = length x
size_of (variant t v) = 1
size_of (repeated is) = items is
size_of (tuple vs) = values vs

-- its wire bytes, or where its payload starts, with p payload bytes before it
unfoldable pub content_of : Value → ℕ → ℕ
content_of nothing p = 0
content_of (boolean x) p = bit x
content_of (number k x) p = x
content_of (wide k x) p = p
content_of (blob k x) p = p
content_of (variant t v) p = 0
content_of (repeated is) p = 0
content_of (tuple vs) p = 0

-- the record of a value that its parent chose by `tag`, with p payload bytes before it
unfoldable pub head_of : Value → ℕ → ℕ → ValueRecord
head_of v tag p = value_record (value_kind v) tag (size_of v) (content_of v p)

-- the records below a node, in preorder: each child's own, and those below it
unfoldable mutual
  pub below : Value → ℕ → List ValueRecord
  below nothing p = []
  below (boolean x) p = []
  below (number k x) p = []
  below (wide k x) p = []
  below (blob k x) p = []
  below (variant t v) p = head_of v t p ∷ below v p
  below (repeated is) p = below_i is p
  below (tuple vs) p = below_v vs p

  pub below_i : Items → ℕ → List ValueRecord
  below_i done p = []
  below_i (item t v is) p = head_of v t p ∷ (below v p ++ below_i is (p + payload_of v))

  pub below_v : Values → ℕ → List ValueRecord
  below_v none p = []
  below_v (more v vs) p = head_of v 0 p ∷ (below v p ++ below_v vs (p + payload_of v))

-- the records of a value: its own, and those below it
unfoldable pub heads : Value → ℕ → ℕ → List ValueRecord
heads v tag p = head_of v tag p ∷ below v p

-- their bytes
unfoldable pub flat : Value → ℕ → ℕ → List ℕ
flat v tag p = layouts (heads v tag p)

-- these records and this payload store are the table of v
pub record TableOf (v : Value) (table store : List ℕ) : Type 0 where
  pub rows : table ≡ flat v 0 0
  pub payload : store ≡ payload_bytes v
  pub fits : Fits v
  pub depth : tall v ≤ 64

-- ---- the same as a rule: the value of a table, if it has one

-- a record number and a position in the payload store
pub record Spot : Type 0 where
  pub at : ℕ
  pub from : ℕ

pub data Parsed (A : Type 0) : Type 0 where
  Whole : A → Spot → Parsed A
  Broken : Parsed A

infixl 20 ◌>>=◌
unfoldable pub ◌>>=◌ : {A B : Type 0} → Parsed A → (A × Spot → Parsed B) → Parsed B
Whole a q >>= k = k (a, q)
Broken >>= k = Broken

-- what a record's kind says of its fields
pub data Kind : Type 0 where
  scalar_kind : Form → Kind
  variant_kind : Kind
  repeated_kind : Kind
  tuple_kind : Kind
  no_kind : Kind

unfoldable pub kind_of : ℕ → Kind
kind_of k = pick (ltb k 15) (scalar_kind (form k)) (pick (eqb k 15) variant_kind (pick (eqb k 16) repeated_kind (pick (eqb k 17) tuple_kind no_kind)))

module _ (table store : List ℕ) where
  -- the next record, or the next record and n payload bytes further
  abbrev pub next : Spot → Spot
  next p = record { at = p.at + 1; from = p.from }

  abbrev pub past_payload : ℕ → Spot → Spot
  past_payload n p = record { at = p.at + 1; from = p.from + n }

  -- n payload bytes, as a value
  unfoldable pub stored_at : (List ℕ → Value) → ℕ → Spot → Parsed Value
  stored_at make n p = pick (leb (p.from + n) (length store)) (Whole (make (part store p.from n)) (past_payload n p)) Broken

  -- the value of a record of a scalar kind
  unfoldable pub scalar_at : Form → ValueRecord → Spot → Parsed Value
  scalar_at empty r p = Whole nothing (next p)
  scalar_at truth r p = Whole (boolean (ltb 0 r.content)) (next p)
  scalar_at (fixed w) r p = pick (ltb r.content (256 ^ w)) (Whole (number r.kind r.content) (next p)) Broken
  scalar_at (raw w) r p = stored_at (wide r.kind) w p
  scalar_at sized r p = stored_at (blob r.kind) r.size p
  scalar_at (variant_form w) r p = Broken
  scalar_at (repeated_form w) r p = Broken
  scalar_at tuple_form r p = Broken
  scalar_at unknown r p = Broken

  -- the tag that record i bears
  abbrev pub tag_at : ℕ → ℕ
  tag_at i = (value_record_at table i).tag

  -- n children, each with the tag that it bears; and n children of a tuple, which bear 0
  unfoldable pub items_at : (ℕ → Spot → Parsed Value) → ℕ → Spot → Parsed Items
  items_at child zero p = Whole done p
  items_at child (suc n) p = do
    (v, q) ← child (tag_at p.at) p
    (is, r) ← items_at child n q
    Whole (item (tag_at p.at) v is) r

  unfoldable pub values_at : (ℕ → Spot → Parsed Value) → ℕ → Spot → Parsed Values
  values_at child zero p = Whole none p
  values_at child (suc n) p = do
    (v, q) ← child 0 p
    (vs, r) ← values_at child n q
    Whole (more v vs) r

  -- the value of a record of this kind, and of those below it
  unfoldable pub node_value : (ℕ → Spot → Parsed Value) → Kind → ValueRecord → Spot → Parsed Value
  node_value child (scalar_kind f) r p = scalar_at f r p
  node_value child variant_kind r p = do
    (v, q) ← child (tag_at (p.at + 1)) (next p)
    Whole (variant (tag_at (p.at + 1)) v) q
  node_value child repeated_kind r p = do
    (is, q) ← items_at child r.size (next p)
    Whole (repeated is) q
  node_value child tuple_kind r p = do
    (vs, q) ← values_at child r.size (next p)
    Whole (tuple vs) q
  node_value child no_kind r p = Broken

  -- the record there is that of the value, chosen by `tag`
  unfoldable pub if_record_is : ℕ → Spot → Parsed Value → Parsed Value
  if_record_is tag p (Whole v q) = pick (is_record table p.at (head_of v tag p.from)) (Whole v q) Broken
  if_record_is tag p Broken = Broken

  -- the value whose records begin at a spot, at most so many levels deep
  unfoldable pub value_at : ℕ → ℕ → Spot → Parsed Value
  value_at zero tag p = Broken
  value_at (suc d) tag p = let r = value_record_at table p.at in if_record_is tag p (node_value (value_at d) (kind_of r.kind) r p)

  -- the records are exactly one tree, at most 64 deep, and the payload store is exactly filled
  unfoldable pub if_whole_table : Parsed Value → Parsed Value
  if_whole_table (Whole v q) = pick (eqb q.at (value_records_in (length table)) and eqb q.from (length store)) (Whole v q) Broken
  if_whole_table Broken = Broken

  -- the end of a table: all records, and all bytes of the store
  abbrev pub table_end : Spot
  table_end = record { at = value_records_in (length table); from = length store }

  unfoldable pub table_value : Parsed Value
  table_value = pick (whole_value_records (length table)) (if_whole_table (value_at 64 0 (record { at = 0; from = 0 }))) Broken
