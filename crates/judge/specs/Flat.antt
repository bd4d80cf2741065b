-- What is said of a flat row at once, where something is said.
-- Assumes nothing: these are definitions.
use Rattle.std.specs.Prelude.{ℕ, ◌+◌, ◌*◌, ◌^◌, ◌≤◌, ◌<◌, ◌≡◌, Bool, true, false, List, length, Option, Ok, Some, None}
use Rattle.rules.specs.Block.{node_at}
use Rattle.rules.specs.Walk.{Limits}
use Rattle.rules.specs.ValueRecord.{value_record_at, ValueRecordIn}
use Rattle.rules.specs.ValueCheck.{table_form}
use Rattle.read.specs.Ready.{HasNode, SoundNodes}
use Rattle.value.specs.Records.{value_record_ok}
use Rattle.value.specs.Walk.{walk_table}
use Rattle.value.specs.declared.TablePos.{TablePos}
use Rattle.judge.specs.Table.{IsWhole, value_standing_at}
use Rattle.judge.specs.Judging.{leaf_of, judged_at, judged_row}
use Rattle.judge.specs.declared.walk.JudgePos.{JudgePos}

-- the table's part of where the walk stands
abbrev pub table_pos : JudgePos → TablePos
table_pos p = record { at = p.at; from = p.from }

-- node i of a sound block, and a position in the store; the bytes so far are few, so that their count does not wrap
pub record Flat (sch : List ℕ) (i : ℕ) (table store : List ℕ) (p : JudgePos) : Type 0 where
  pub sound : SoundNodes sch
  pub inside : HasNode sch i
  pub short : length table < 2 ^ 32
  pub small : length store < 2 ^ 32
  pub within : p.from ≤ length store
  pub few : p.bytes ≤ 80 * p.at + p.from + 2

module _ (sch : List ℕ) (i : ℕ) (table store : List ℕ) where
  -- a column ends at q by the check of the table; where its value stands, judging it says the same; and its bytes are few
  pub record Seen (lim : Limits) (p q : JudgePos) : Type 0 where
    pub walks : Some (table_pos q) ≡ walk_table table (length store) 63 false (table_pos p)
    pub judges : IsWhole (value_standing_at table store 63 p.at p.from) → Ok q ≡ judged_at sch lim i 63 table store p
    pub within : q.from ≤ length store
    pub grows : q.bytes + (80 * p.at + p.from) ≤ p.bytes + (80 * q.at + q.from)

  -- a leaf from q on is all that there is of the column from p on
  pub record OnlyLeaf (p : JudgePos) (code : ℕ) (tagged : Bool) (q : JudgePos) : Type 0 where
    pub leaf : code < 15
    pub there : ValueRecordIn q.at (length table)
    pub within : q.from ≤ length store
    pub few : q.bytes < 2 ^ 40
    pub ends : (lim : Limits) (r : JudgePos) → value_record_ok (value_record_at table q.at) tagged q.from (length store) ≡ true → (value_record_at table q.at).kind ≡ code →
        Ok r ≡ leaf_of lim code (value_record_at table q.at).size q → r.from ≡ q.from + (value_record_at table q.at).size → Seen lim p r

  unfoldable pub LeadsToLeaf : JudgePos → Option (ℕ × Bool × JudgePos) → Type 0
  LeadsToLeaf p (Some (code, tagged, q)) = OnlyLeaf p code tagged q
  LeadsToLeaf p None = Unit

-- ---- a row

-- a sound block whose root is a tuple, and slices of few bytes
pub record RowFlat (sch table store : List ℕ) : Type 0 where
  pub sound : SoundNodes sch
  pub root : HasNode sch 0
  pub tuple : (node_at sch 0).code ≡ 19
  pub short : length table < 2 ^ 32
  pub small : length store < 2 ^ 32

-- the form of the table is accepted, and so is the row
pub record RowSeen (sch : List ℕ) (lim : Limits) (table store : List ℕ) (q : JudgePos) : Type 0 where
  pub form : Ok tt ≡ table_form table store
  pub row : Ok q ≡ judged_row sch lim table store
