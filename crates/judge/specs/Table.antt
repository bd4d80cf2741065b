-- The value that stands in a value table from a record on.
-- Assumes nothing: these are definitions.
use Rattle.std.specs.Prelude.{ℕ, List}
use Rattle.rules.specs.Value.{Value, nothing}
use Rattle.rules.specs.ValueTable.{Spot, Parsed, Whole, Broken, tag_at, value_at}

-- a value stands there
unfoldable pub IsWhole : Parsed Value → Type 0
IsWhole (Whole v q) = Unit
IsWhole Broken = ⊥

-- the value, and the spot after it
unfoldable pub whole_value : Parsed Value → Value
whole_value (Whole v q) = v
whole_value Broken = nothing

unfoldable pub whole_end : Parsed Value → Spot
whole_end (Whole v q) = q
whole_end Broken = record { at = 0; from = 0 }

-- the value whose records begin at record `at`, with `from` payload bytes before it, as the child that the tag of that record chose
unfoldable pub value_standing_at : List ℕ → List ℕ → ℕ → ℕ → ℕ → Parsed Value
value_standing_at table store depth at from = value_at table store depth (tag_at table store at) (record { at = at; from = from })
