-- What the walk that judges answers: what writing the value would, with the bytes counted.
-- Assumes nothing: these are definitions.
use Rattle.rules.specs.declared.refusal.Refusal.{Refusal}
use Rattle.std.specs.Prelude.{ℕ, ◌+◌, ◌*◌, ◌^◌, ◌≤◌, ◌<◌, ◌≡◌, Bool, true, List, length, ltb, leb, eqb, Result, Ok, Err}
use Rattle.rules.specs.Choice.{pick}
use Rattle.rules.specs.Wire.{form, width_of}
use Rattle.rules.specs.Block.{node_at}
use Rattle.rules.specs.Walk.{Limits, blob_limit}
use Rattle.rules.specs.ValueRecord.{value_record_at}
use Rattle.rules.specs.ValueTable.{Spot, table_value}
use Rattle.rules.specs.Writing as rule
use Rattle.rules.specs.Writing.{Wrote, Put, kind_for, write, write_row}
use Rattle.rules.specs.Refusals.{BlobTooLarge, InvalidVariantTag}
use Rattle.leaves.specs.Fields.{payload_of_fixed}
use Rattle.leaves.specs.Shapes.{Shape, as_variant, as_repeated, as_tuple}
use Rattle.read.specs.Ready.{HasNode, SoundNodes}
use Rattle.judge.specs.Table.{IsWhole, whole_value, whole_end, value_standing_at}
use Rattle.judge.specs.declared.walk.JudgePos.{JudgePos}

abbrev pub judge_pos : ℕ → ℕ → ℕ → JudgePos
judge_pos at from bytes = record { at = at; from = from; bytes = bytes }

-- n bytes and those that are put, and where the value leaves off; or the refusal
unfoldable pub judged : ℕ → Spot → Wrote → Result JudgePos Refusal
judged n z (Put b) = Ok (judge_pos z.at z.from (n + length b))
judged n z (rule.Refused r) = Err r

-- ---- steps

-- a node without children: its bytes, of which those that its record does not hold are payload; or 14 at its record
unfoldable pub leaf_of : Limits → ℕ → ℕ → JudgePos → Result JudgePos Refusal
leaf_of lim code size p =
    pick (ltb code 13) (Ok (judge_pos (p.at + 1) (p.from + payload_of_fixed (width_of (form code))) (p.bytes + width_of (form code))))
    (pick (leb size (blob_limit lim code)) (Ok (judge_pos (p.at + 1) (p.from + size) (p.bytes + (4 + size))))
    (Err (BlobTooLarge code size (blob_limit lim code) p.at)))

module _ (code first count : ℕ) where
  -- the child that a tag of w bytes names, or 17 at record r
  unfoldable pub tagged_of : ℕ → ℕ → ℕ → Result (ℕ × ℕ) Refusal
  tagged_of w tag r = pick (ltb tag count) (Ok ((first + tag), w)) (Err (InvalidVariantTag code tag count r))

  -- the child after i others, whose record r bears a tag
  unfoldable pub chosen_of : Shape → ℕ → ℕ → ℕ → Result (ℕ × ℕ) Refusal
  chosen_of (as_variant w) i tag r = tagged_of w tag r
  chosen_of (as_repeated w) i tag r = tagged_of w tag r
  chosen_of as_tuple i tag r = Ok ((first + i), 0)

-- a tuple has as many children as its node
unfoldable pub count_ok : Shape → ℕ → ℕ → Bool
count_ok (as_variant w) size count = true
count_ok (as_repeated w) size count = true
count_ok as_tuple size count = eqb size count

-- the end tag's bytes
unfoldable pub closing_bytes : Shape → ℕ
closing_bytes (as_variant w) = 0
closing_bytes (as_repeated w) = w
closing_bytes as_tuple = 0

-- ---- a value

-- node i of a sound block, and a value that stands in the table; the bytes so far are few, so that their count does not wrap
pub record Judgeable (sch : List ℕ) (i depth : ℕ) (table store : List ℕ) (p : JudgePos) : Type 0 where
  pub sound : SoundNodes sch
  pub inside : HasNode sch i
  pub whole : IsWhole (value_standing_at table store depth p.at p.from)
  pub short : length table < 2 ^ 32
  pub small : length store < 2 ^ 32
  pub within : p.from ≤ length store
  pub few : p.bytes ≤ 80 * p.at + p.from + 2

-- a node with children, and a record of the kind that it takes
pub record Opened (sch : List ℕ) (i code : ℕ) (table : List ℕ) (p : JudgePos) (size : ℕ) : Type 0 where
  pub is : code ≡ (node_at sch i).code
  pub compound : 14 < code
  pub kind : (value_record_at table p.at).kind ≡ kind_for code (form code)
  pub count : size ≡ (value_record_at table p.at).size

-- what writing the value that stands there answers
unfoldable pub judged_at : List ℕ → Limits → ℕ → ℕ → List ℕ → List ℕ → JudgePos → Result JudgePos Refusal
judged_at sch lim i depth table store p =
    let x = value_standing_at table store depth p.at p.from in
    judged p.bytes (whole_end x) (write sch lim (whole_value x) i p.at)

-- ---- a row

-- a sound block whose root is a tuple, and a value table whose form was accepted
pub record RowJudgeable (sch table store : List ℕ) : Type 0 where
  pub sound : SoundNodes sch
  pub root : HasNode sch 0
  pub tuple : (node_at sch 0).code ≡ 19
  pub whole : IsWhole (table_value table store)
  pub short : length table < 2 ^ 32
  pub small : length store < 2 ^ 32

-- what writing the table's value as a row answers
unfoldable pub judged_row : List ℕ → Limits → List ℕ → List ℕ → Result JudgePos Refusal
judged_row sch lim table store =
    let x = table_value table store in
    judged 0 (whole_end x) (write_row sch lim (whole_value x))
