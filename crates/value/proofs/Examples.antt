-- Value tables on both sides of each edge, with the number that the check says to each: 0 for accepted, else 18.
-- Assumes nothing.
use Prim.Native.Nat.{ℕ, zero, suc}
use mathlib.Core.Path.{◌≡◌, refl}
use mathlib.Core.List.{List, [], ◌∷◌, ◌++◌, map}
use lib.ListN.{take}
use Rattle.rules.specs.Choice.{pick, ◌and◌}
use Rattle.rules.specs.Bytes.{le, le_at, part, order, is_equal}
use Rattle.rules.specs.Wire.{form, written, written_if, type_of, type_in, wire_types}
use Rattle.rules.specs.Value.{items, values}
use Rattle.rules.specs.ValueRecord.{value_record, layout, value_record_at, is_record}
use Rattle.rules.specs.ValueTable.{bit, value_kind, size_of, content_of, head_of, ◌>>=◌, kind_of, stored_at, scalar_at, items_at, values_at, node_value, if_record_is, value_at, if_whole_table, table_value}
use Rattle.rules.specs.ValueCheck.{form_checked, table_form, value_table_rule}
use Rattle.rules.specs.Refusals.{line_of}
use Rattle.rules.specs.Answers.{said, none_said, checked_said}

-- a record's bytes: kind, tag, size, content
unfoldable pub rec : ℕ → ℕ → ℕ → ℕ → List ℕ
rec value_kind tag size content = layout (value_record value_kind tag size content)

-- nothing below so many variants
unfoldable pub below : ℕ → List ℕ
below zero = rec 0 0 0 0
below (suc n) = rec 15 0 1 0 ++ below n

-- records, payload store, and the number
pub record Line : Type 0 where
  pub records : List ℕ
  pub payload : List ℕ
  pub number : ℕ

abbrev pub line : List ℕ → List ℕ → ℕ → Line
line records payload number = record { records = records; payload = payload; number = number }

unfoldable pub lines : List Line
lines =
    -- a uint8; a tuple of a uint8 and of a variant's string
    line (rec 8 0 0 7) [] 0
    ∷ line (rec 17 0 2 0 ++ (rec 8 0 0 7 ++ (rec 15 0 1 0 ++ rec 13 1 2 0))) (97 ∷ 98 ∷ []) 0
    -- a length that is no multiple of 16, no record, two trees, a tree cut short
    ∷ line (take 15 (rec 8 0 0 7)) [] 18
    ∷ line [] [] 18
    ∷ line (rec 8 0 0 7 ++ rec 8 0 0 7) [] 18
    ∷ line (rec 17 0 2 0 ++ rec 8 0 0 7) [] 18
    -- more children than records
    ∷ line (rec 16 0 4294967295 0 ++ rec 8 0 0 7) [] 18
    -- a variant with no child, with one and with two
    ∷ line (rec 15 0 0 0) [] 18
    ∷ line (rec 15 0 1 0 ++ rec 8 0 0 7) [] 0
    ∷ line (rec 15 0 2 0 ++ (rec 8 0 0 7 ++ rec 8 0 0 7)) [] 18
    -- depth 64 and 65
    ∷ line (below 63) [] 0
    ∷ line (below 64) [] 18
    -- byte 1
    ∷ line (8 ∷ 1 ∷ (le 2 0 ++ (le 4 0 ++ le 8 7))) [] 18
    -- a tag under a variant or a repeated one, under a tuple, at the root
    ∷ line (rec 16 0 1 0 ++ rec 8 3 0 7) [] 0
    ∷ line (rec 15 0 1 0 ++ rec 8 65535 0 7) [] 0
    ∷ line (rec 17 0 1 0 ++ rec 8 3 0 7) [] 18
    ∷ line (rec 8 3 0 7) [] 18
    -- a boolean of 1 and of 2, bytes past a scalar's width, a size without payload, a content above children, no such kind
    ∷ line (rec 1 0 0 1) [] 0
    ∷ line (rec 1 0 0 2) [] 18
    ∷ line (rec 8 0 0 255) [] 0
    ∷ line (rec 8 0 0 256) [] 18
    ∷ line (rec 11 0 0 18446744073709551615) [] 0
    ∷ line (rec 0 0 0 1) [] 18
    ∷ line (rec 8 0 1 7) [] 18
    ∷ line (rec 17 0 0 1) [] 18
    ∷ line (rec 18 0 0 0) [] 18
    -- an int128 of 15, 16 and 17 bytes
    ∷ line (rec 6 0 15 0) (le 15 1) 18
    ∷ line (rec 6 0 16 0) (le 16 1) 0
    ∷ line (rec 6 0 17 0) (le 17 1) 18
    -- a payload start one off, sums past 32 bits, a store with a byte too many and too few
    ∷ line (rec 17 0 2 0 ++ (rec 13 0 1 0 ++ rec 14 0 1 1)) (97 ∷ 98 ∷ []) 0
    ∷ line (rec 17 0 2 0 ++ (rec 13 0 1 0 ++ rec 14 0 1 0)) (97 ∷ 98 ∷ []) 18
    ∷ line (rec 13 0 1 4294967296) (97 ∷ []) 18
    ∷ line (rec 17 0 2 0 ++ (rec 13 0 4294967295 0 ++ rec 13 0 2 4294967295)) (97 ∷ []) 18
    ∷ line (rec 13 0 1 0) (97 ∷ 98 ∷ []) 18
    ∷ line (rec 13 0 2 0) (97 ∷ []) 18
    ∷ []

pub examples_hold : map (λ l. (checked_said (value_table_rule l.records l.payload)).number) lines ≡ map (λ l. l.number) lines
unfolding rec below lines pick ◌and◌ le le_at part order is_equal form written written_if type_of type_in wire_types items values layout value_record_at is_record bit value_kind size_of content_of head_of ◌>>=◌ kind_of stored_at scalar_at items_at values_at node_value if_record_is value_at if_whole_table table_value form_checked table_form value_table_rule line_of said none_said checked_said
examples_hold = refl
