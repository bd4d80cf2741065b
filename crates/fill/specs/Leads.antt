-- What a node comes to at once.
-- Assumes nothing: these are definitions.
use Rattle.std.specs.Prelude.{ℕ, ◌+◌, ◌≤◌, ◌<◌, ◌≡◌, List, Option, Some, None}
use Rattle.rules.specs.Wire.{form}
use Rattle.rules.specs.Value.{Value, records_of}
use Rattle.rules.specs.ValueRecord.{value_record_start}
use Rattle.fill.specs.Plain.{PlainRead, IsGot, value_read, leaf_at}
use Rattle.fill.specs.Filling.{RoomToFill, Filled}
use Rattle.fill.specs.declared.FillPos.{FillPos}

-- a value was read, and n bytes have room for its records, from a spot on
pub record Held (x : PlainRead Value) (s : FillPos) (n : ℕ) : Type 0 where
  pub is : IsGot x
  pub records : value_record_start (s.records + records_of (value_read x)) ≤ n

-- y, from a spot q on under tag t, is all that is left to fill of x, from s on under `tag`: rs stood there, and rs' stands there now
pub record Rest (x : PlainRead Value) (tag : ℕ) (s : FillPos) (rs : List ℕ) (y : PlainRead Value) (t : ℕ) (q : FillPos) (rs' : List ℕ) : Type 0 where
  pub room : (n m : ℕ) → RoomToFill x s n m → RoomToFill y q n m
  pub fills : (r : FillPos) (rs'' ps ps' : List ℕ) → Filled y t q r rs' rs'' ps ps' → Filled x tag s r rs rs'' ps ps'

-- a leaf that is all that is left, or a node with children, of which nothing is written yet
unfoldable pub LeadsToFill : PlainRead Value → List ℕ → ℕ → ℕ → FillPos → List ℕ → List ℕ → Option (ℕ × ℕ × FillPos) → Type 0
LeadsToFill x inp code tag s rs rs' (Some (c, t, q)) = (c < 15) × Rest x tag s rs (leaf_at inp c (form c) q.at) t q rs'
LeadsToFill x inp code tag s rs rs' None = (14 < code) × (rs' ≡ rs)
