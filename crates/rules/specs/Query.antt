-- The value query: what one record says. A record is looked at as far as it can be judged alone: its kind, byte 1, its length or count and
-- its data as its kind demands; not its tag, where its payload starts, or the tree.
-- Assumes nothing: these are definitions.
use Rattle.rules.specs.declared.refusal.Refusal.{Refusal}
use Rattle.std.specs.Prelude.{ℕ, ◌*◌, ◌^◌, Bool, true, false, List, length, ltb, leb, eqb, ℤ, pos, ◌-ℤ◌, Result, Ok, Err}
use Rattle.std.specs.Float.{binary64}
use Rattle.std.specs.Float.Ieee.{nan_bits, of_bits}
use Rattle.rules.specs.Choice.{pick, ◌and◌}
use Rattle.rules.specs.Wire.{Form, empty, truth, fixed, raw, sized, variant_form, repeated_form, tuple_form, unknown, form}
use Rattle.rules.specs.Refusals.{Setting, BadValueTable}
use Rattle.rules.specs.Format.{short_ok}
use Rattle.rules.specs.ValueRecord.{value_records_in, whole_value_records, value_record_at}
use Rattle.rules.specs.declared.table_record.ValueRecord.{ValueRecord}
use Rattle.rules.specs.declared.host_answer.Scalar.{Scalar}
use Rattle.rules.specs.declared.host_answer.Scalar.TheVariants.{Nothing, Truth, Signed, Unsigned, Double, NotANumber, Payload, Children}

-- ---- a record by itself

-- a scalar or a blob: int128 and int256 have their own length, a blob any, all else none; the data field is their payload's start, or the
-- wire bytes and then zeros, a boolean being 0 or 1
unfoldable pub scalar_alone : Form → ℕ → ℕ → Bool
scalar_alone empty size content = eqb size 0 and ltb content 1
scalar_alone truth size content = eqb size 0 and ltb content 2
scalar_alone (fixed w) size content = eqb size 0 and ltb content (256 ^ w)
scalar_alone (raw w) size content = eqb size w
scalar_alone sized size content = true
scalar_alone (variant_form w) size content = false
scalar_alone (repeated_form w) size content = false
scalar_alone tuple_form size content = false
scalar_alone unknown size content = false

-- a variant, a repeated value or a tuple: a variant has one child, and the data field is zero
unfoldable pub parent_alone : ℕ → ℕ → ℕ → Bool
parent_alone kind size content = leb kind 17 and (eqb content 0 and pick (eqb kind 15) (eqb size 1) true)

unfoldable pub record_alone : ValueRecord → Bool
record_alone r =
    eqb r.spare 0
    and pick (ltb r.kind 15) (scalar_alone (form r.kind) r.size r.content) (parent_alone r.kind r.size r.content)

-- record i is there, in a slice that is not too long
unfoldable pub record_there : List ℕ → ℕ → Bool
record_there table i = short_ok table and ltb i (value_records_in (length table))

-- the slice is whole records, and record i is right by itself
unfoldable pub record_good : List ℕ → ℕ → Bool
record_good table i = whole_value_records (length table) and record_alone (value_record_at table i)

-- record i: 1 where it is not there, then 18
unfoldable pub record_seen : List ℕ → ℕ → Result ValueRecord Refusal
record_seen table i =
    pick (record_there table i) (pick (record_good table i) (Ok (value_record_at table i)) (Err BadValueTable)) (Err Setting)

-- ---- what it says

-- the number that x is in two's complement of w bytes: x, less 256 ^ w where the highest bit is set
unfoldable pub signed : ℕ → ℕ → ℤ
signed w x = pick (ltb (2 * x) (256 ^ w)) (pos x) (pos x -ℤ pos (256 ^ w))

-- the double with these bits, or the bits of a NaN
unfoldable pub double_said : ℕ → Scalar
double_said bits = pick (nan_bits binary64 bits) (NotANumber bits) (Double (of_bits binary64 bits))

-- a number of w bytes: int8 to int64 are the kinds below 8, uint8 to uint64 those below 12, and 12 is the double
unfoldable pub number_said : ℕ → ℕ → ℕ → Scalar
number_said kind w x = pick (ltb kind 8) (Signed (signed w x)) (pick (ltb kind 12) (Unsigned x) (double_said x))

-- a scalar or a blob of this kind and form
unfoldable pub scalar_said : ℕ → Form → ℕ → ℕ → Scalar
scalar_said kind empty size content = Nothing
scalar_said kind truth size content = Truth (ltb 0 content)
scalar_said kind (fixed w) size content = number_said kind w content
scalar_said kind (raw w) size content = Payload content size
scalar_said kind sized size content = Payload content size
scalar_said kind (variant_form w) size content = Nothing
scalar_said kind (repeated_form w) size content = Nothing
scalar_said kind tuple_form size content = Nothing
scalar_said kind unknown size content = Nothing

-- a record that is right by itself
unfoldable pub record_said : ValueRecord → Scalar
record_said r = pick (ltb r.kind 15) (scalar_said r.kind (form r.kind) r.size r.content) (Children r.size)

-- ---- the query

unfoldable pub queried_of : Result ValueRecord Refusal → Result Scalar Refusal
queried_of (Ok r) = Ok (record_said r)
queried_of (Err r) = Err r

-- the value of record i
unfoldable pub query_rule : List ℕ → ℕ → Result Scalar Refusal
query_rule table i = queried_of (record_seen table i)
