-- The walk of the check: the rules' reading of a value table without the value. That it is the same is `walk_same`, in proofs/.
-- Assumes nothing: these are definitions.
use Rattle.std.specs.Prelude.{ℕ, zero, suc, ◌+◌, Bool, List, length, ltb, Option, Some, None}
use Rattle.rules.specs.Choice.{pick, ◌and◌}
use Rattle.rules.specs.ValueRecord.{value_records_in, value_record_at}
use Rattle.rules.specs.declared.table_record.ValueRecord.{ValueRecord}
use Rattle.value.specs.Records.{value_record_ok}
use Rattle.value.specs.declared.TablePos.{TablePos}

infixl 20 ◌>>=◌
unfoldable pub ◌>>=◌ : Option TablePos → (TablePos → Option TablePos) → Option TablePos
(Some q) >>= k = k q
None >>= k = None

-- the next record, n payload bytes further
abbrev pub past : ℕ → TablePos → TablePos
past n p = record { at = p.at + 1; from = p.from + n }

abbrev pub next_record : TablePos → TablePos
next_record p = record { at = p.at + 1; from = p.from }

-- so many values, one after another
unfoldable pub walk_children : (TablePos → Option TablePos) → ℕ → TablePos → Option TablePos
walk_children child zero p = Some p
walk_children child (suc n) p = do
  q ← child p
  walk_children child n q

-- what follows a record that is right where it stands: its payload, or its children, which bear tags in all but a tuple
unfoldable pub walk_on : (Bool → TablePos → Option TablePos) → ValueRecord → TablePos → Option TablePos
walk_on child r p = pick (ltb r.kind 15) (Some (past r.size p)) (walk_children (child (ltb r.kind 17)) r.size (next_record p))

-- a value, at most so many levels deep, in a store of so many bytes
unfoldable pub walk_table : List ℕ → ℕ → ℕ → Bool → TablePos → Option TablePos
walk_table table store zero tagged p = None
walk_table table store (suc d) tagged p =
    let r = value_record_at table p.at in
    pick (ltb p.at (value_records_in (length table)) and value_record_ok r tagged p.from store) (walk_on (walk_table table store d) r p) None
