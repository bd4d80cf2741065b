-- Records on both sides of each edge, and what the query says of each: the number, 0 where it is answered, and the values.
-- Assumes nothing.
use Prim.Native.Nat.{ℕ}
use mathlib.Core.Path.{◌≡◌, refl}
use mathlib.Core.List.{List, [], ◌∷◌, ◌++◌, map}
use lib.ListN.{take}
use lib.IntN.{ℤ, pos, negsuc}
use lib.Ieee.{nan_bits, of_bits, to_bits}
use Rattle.rules.specs.Choice.{pick, ◌and◌}
use Rattle.rules.specs.Bytes.{le, le_at}
use Rattle.rules.specs.Wire.{form, written, written_if, type_of, type_in, wire_types}
use Rattle.rules.specs.Refusals.{line_of}
use Rattle.rules.specs.ValueRecord.{value_record, layout, value_record_at}
use Rattle.rules.specs.ValueTable.{bit}
use Rattle.rules.specs.Query.{scalar_alone, parent_alone, record_alone, record_there, record_good, record_seen, signed, double_said, number_said, scalar_said, record_said, queried_of, query_rule}
use Rattle.rules.specs.Answers.{host_said, host_refused, scalar_values, queried_said}

-- the bytes of a record without a tag: kind, size, content
unfoldable pub untagged : ℕ → ℕ → ℕ → List ℕ
untagged kind size content = layout (value_record kind 0 size content)

-- records, the record's number, and the answer's number and values
pub record Question : Type 0 where
  pub records : List ℕ
  pub at : ℕ
  pub number : ℕ
  pub values : List ℤ

-- one record alone
abbrev pub one : List ℕ → List ℤ → Question
one records values = record { records = records; at = 0; number = 0; values = values }

-- one that is refused
abbrev pub bad : List ℕ → ℕ → ℕ → Question
bad records at number = record { records = records; at = at; number = number; values = [] }

unfoldable pub questions : List Question
questions =
    -- nothing, and a boolean
    one (untagged 0 0 0) []
    ∷ one (untagged 1 0 0) (pos 0 ∷ [])
    ∷ one (untagged 1 0 1) (pos 1 ∷ [])
    ∷ bad (untagged 1 0 2) 0 18
    -- the highest, the lowest and the last negative number of each width
    ∷ one (untagged 2 0 127) (pos 127 ∷ [])
    ∷ one (untagged 2 0 128) (negsuc 127 ∷ [])
    ∷ one (untagged 2 0 255) (negsuc 0 ∷ [])
    ∷ one (untagged 3 0 32767) (pos 32767 ∷ [])
    ∷ one (untagged 3 0 32768) (negsuc 32767 ∷ [])
    ∷ one (untagged 3 0 65535) (negsuc 0 ∷ [])
    ∷ one (untagged 4 0 2147483647) (pos 2147483647 ∷ [])
    ∷ one (untagged 4 0 2147483648) (negsuc 2147483647 ∷ [])
    ∷ one (untagged 4 0 4294967295) (negsuc 0 ∷ [])
    ∷ one (untagged 5 0 9223372036854775807) (pos 9223372036854775807 ∷ [])
    ∷ one (untagged 5 0 9223372036854775808) (negsuc 9223372036854775807 ∷ [])
    ∷ one (untagged 5 0 18446744073709551615) (negsuc 0 ∷ [])
    -- a byte past the width
    ∷ bad (untagged 2 0 256) 0 18
    -- unsigned numbers
    ∷ one (untagged 8 0 255) (pos 255 ∷ [])
    ∷ one (untagged 9 0 65535) (pos 65535 ∷ [])
    ∷ one (untagged 10 0 4294967295) (pos 4294967295 ∷ [])
    ∷ one (untagged 11 0 18446744073709551615) (pos 18446744073709551615 ∷ [])
    ∷ bad (untagged 8 1 255) 0 18
    -- payload
    ∷ one (untagged 6 16 5) (pos 5 ∷ pos 16 ∷ [])
    ∷ bad (untagged 6 15 5) 0 18
    ∷ one (untagged 7 32 0) (pos 0 ∷ pos 32 ∷ [])
    ∷ one (untagged 13 0 7) (pos 7 ∷ pos 0 ∷ [])
    ∷ one (untagged 14 4294967295 4294967296) (pos 4294967296 ∷ pos 4294967295 ∷ [])
    -- children
    ∷ one (untagged 15 1 0) (pos 1 ∷ [])
    ∷ bad (untagged 15 2 0) 0 18
    ∷ one (untagged 16 0 0) (pos 0 ∷ [])
    ∷ one (untagged 17 3 0) (pos 3 ∷ [])
    ∷ bad (untagged 17 3 1) 0 18
    ∷ bad (untagged 18 0 0) 0 18
    -- byte 1
    ∷ bad (8 ∷ 1 ∷ (le 2 0 ++ (le 4 0 ++ le 8 7))) 0 18
    -- a record that is not there, and a slice that is cut within a record
    ∷ bad [] 0 1
    ∷ bad (untagged 8 0 7) 1 1
    ∷ bad (untagged 8 0 7 ++ (0 ∷ [])) 0 18
    ∷ bad (untagged 8 0 7 ++ (0 ∷ [])) 1 1
    ∷ bad (take 15 (untagged 8 0 7)) 0 1
    ∷ []

pub examples_hold : map (λ l. queried_said (query_rule l.records l.at)) questions ≡ map (λ l. record { number = l.number; place = 0; values = l.values }) questions
unfolding untagged questions pick ◌and◌ le le_at form written written_if type_of type_in wire_types line_of layout value_record_at bit scalar_alone parent_alone record_alone record_there record_good record_seen signed number_said scalar_said record_said queried_of query_rule host_said host_refused scalar_values queried_said
examples_hold = refl

-- doubles: 1.0, both zeros, an infinity, and two NaNs
unfoldable pub doubles : List Question
doubles =
    one (untagged 12 0 4607182418800017408) (pos 4607182418800017408 ∷ [])
    ∷ one (untagged 12 0 0) (pos 0 ∷ [])
    ∷ one (untagged 12 0 9223372036854775808) (pos 9223372036854775808 ∷ [])
    ∷ one (untagged 12 0 9218868437227405312) (pos 9218868437227405312 ∷ [])
    ∷ one (untagged 12 0 9218868437227405313) (pos 9218868437227405313 ∷ [])
    ∷ one (untagged 12 0 18444492273895866368) (pos 18444492273895866368 ∷ [])
    ∷ bad (untagged 12 8 0) 0 18
    ∷ []

pub doubles_hold : map (λ l. queried_said (query_rule l.records l.at)) doubles ≡ map (λ l. record { number = l.number; place = 0; values = l.values }) doubles
unfolding untagged doubles pick ◌and◌ le le_at form written written_if type_of type_in wire_types line_of layout value_record_at bit scalar_alone parent_alone record_alone record_there record_good record_seen double_said number_said scalar_said record_said queried_of query_rule host_said host_refused scalar_values queried_said nan_bits of_bits to_bits
doubles_hold = refl
