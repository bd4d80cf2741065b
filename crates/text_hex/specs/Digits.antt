-- The hex digits of a number, and where they stand in its bytes.
-- Assumes nothing: these are definitions.
use Rattle.std.specs.Prelude.{ℕ, ◌+◌, ◌/◌, ◌%◌, ◌^◌, List, length, get_or, eqb}
use Rattle.rules.specs.Bytes.{le_at}
use Rattle.rules.specs.Choice.{pick}

-- the number that bytes are, the lowest first, however many they are
abbrev pub number_of : List ℕ → ℕ
number_of xs = le_at xs 0 (length xs)

-- digit i of a number, the lowest being digit 0
unfoldable pub digit_of : ℕ → ℕ → ℕ
digit_of x i = x / 16 ^ i % 16

-- that of the number whose bytes stand from a position on, the lowest first: two digits to a byte, the lower first
unfoldable pub digit_at : List ℕ → ℕ → ℕ → ℕ
digit_at s from i = pick (eqb (i % 2) 0) (get_or s (from + i / 2) 0 % 16) (get_or s (from + i / 2) 0 / 16)
