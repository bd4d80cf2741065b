-- What filling leaves: the records and the payload bytes of the value that was read, over what stood there.
-- Assumes nothing: these are definitions.
use Rattle.std.specs.Prelude.{ℕ, zero, suc, ◌+◌, ◌≤◌, ◌<◌, ◌≡◌, List, length, ltb, eqb}
use Rattle.rules.specs.Choice.{pick}
use Rattle.rules.specs.Bytes.{le_at, over}
use Rattle.rules.specs.Wire.{Form, empty, truth, fixed, raw, sized, variant_form, repeated_form, tuple_form, unknown, end_tag}
use Rattle.rules.specs.Block.{node_size, node_at, Closed}
use Rattle.rules.specs.Value.{Value, records_of, payload_of}
use Rattle.rules.specs.ValueRecord.{value_record_start}
use Rattle.rules.specs.ValueTable.{bit, payload_bytes, flat}
use Rattle.fill.specs.Plain.{PlainRead, IsGot, value_read, end_read, read_at}
use Rattle.fill.specs.declared.FillPos.{FillPos}
use Rattle.fill.specs.declared.Next.{Next}
use Rattle.fill.specs.declared.Next.TheVariants.{Child, End}

-- a value was read, and n bytes have room for its records and m for its payload, from a spot on
pub record RoomToFill (x : PlainRead Value) (s : FillPos) (n m : ℕ) : Type 0 where
  pub is : IsGot x
  pub records : value_record_start (s.records + records_of (value_read x)) ≤ n
  pub payload : s.payload + payload_of (value_read x) ≤ m

-- a position of the input, and the starts of both slices
abbrev pub fill_start : ℕ → FillPos
fill_start at = record { at = at; records = 0; payload = 0 }

-- where the value leaves off
unfoldable pub past_filled : PlainRead Value → FillPos → FillPos
past_filled x s = record { at = end_read x; records = s.records + records_of (value_read x); payload = s.payload + payload_of (value_read x) }

-- the value's table stands from a spot on, under the tag by which its parent chose it, over what stood there; q is past it
pub record Filled (x : PlainRead Value) (tag : ℕ) (s q : FillPos) (rs rs' ps ps' : List ℕ) : Type 0 where
  pub spot : q ≡ past_filled x s
  pub records : rs' ≡ over rs (value_record_start s.records) (flat (value_read x) tag s.payload)
  pub payload : ps' ≡ over ps s.payload (payload_bytes (value_read x))

-- ---- a row

-- the value of a table's root from a position on
abbrev pub row_value : List ℕ → List ℕ → ℕ → Value
row_value sch inp at = value_read (read_at sch inp 64 0 at)

-- the root has children, all of them in the block, and it was read, and there is room
pub record Fillable (sch inp : List ℕ) (at n m : ℕ) : Type 0 where
  pub closed : Closed sch
  pub root : node_size ≤ length sch
  pub compound : 14 < (node_at sch 0).code
  pub room : RoomToFill (read_at sch inp 64 0 at) (fill_start at) n m

-- ---- steps

-- what a record holds of a scalar of w bytes: these, and of a boolean 0 or 1 whatever nonzero byte stood there
unfoldable pub scalar_of : List ℕ → ℕ → ℕ → ℕ → ℕ
scalar_of inp code w at = pick (eqb code 1) (bit (ltb 0 (le_at inp at w))) (le_at inp at w)

-- how many bytes the tag of the child after i others has
unfoldable pub tag_length : Form → ℕ → ℕ
tag_length (variant_form w) zero = w
tag_length (variant_form w) (suc i) = 0
tag_length (repeated_form w) i = w
tag_length empty i = 0
tag_length truth i = 0
tag_length (fixed w) i = 0
tag_length (raw w) i = 0
tag_length sized i = 0
tag_length tuple_form i = 0
tag_length unknown i = 0

module _ (inp : List ℕ) (first count : ℕ) where
  -- the child that the tag of w bytes names
  abbrev pub tagged_child : ℕ → ℕ → Next
  tagged_child w at = Child (le_at inp at w) (first + le_at inp at w) (at + w)

  -- the child after i others
  unfoldable pub next_of : Form → ℕ → ℕ → Next
  next_of (variant_form w) i at = pick (ltb 0 i) (End at) (tagged_child w at)
  next_of (repeated_form w) i at = pick (eqb (le_at inp at w) (end_tag w)) (End (at + w)) (tagged_child w at)
  next_of tuple_form i at = pick (ltb i count) (Child 0 (first + i) at) (End at)
  next_of empty i at = End at
  next_of truth i at = End at
  next_of (fixed w) i at = End at
  next_of (raw w) i at = End at
  next_of sized i at = End at
  next_of unknown i at = End at
