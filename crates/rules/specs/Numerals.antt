-- Whole numbers as text, in any base up to 16, and the text of an integer of any width: a minus sign where it is negative, then its
-- magnitude, the most significant digit first, without leading zeros.
-- Assumes nothing: these are definitions.
use Rattle.rules.specs.declared.refusal.Refusal.{Refusal}
use Rattle.std.specs.Prelude.{ℕ, zero, suc, ◌+◌, ◌/◌, ◌%◌, Bool, true, false, List, [], ◌∷◌, ◌++◌, ℤ, pos, negsuc, length, replicate, ltb, leb, Result, Ok, Err}
use Rattle.rules.specs.Choice.{pick, ◌and◌}
use Rattle.rules.specs.Bytes.{le_at, over}
use Rattle.rules.specs.Names.{ascii}
use Rattle.rules.specs.Refusals.{Setting, NoOutputRoom}
use Rattle.rules.specs.Query.{signed}
use Rattle.rules.specs.Reading.{room}

-- ---- numbers

-- a number below 16 as a digit, from 10 on a small letter
unfoldable pub digit : ℕ → ℕ
digit d = pick (ltb d 10) (48 + d) (87 + d)

-- a number below the base is its digit; any other has those of the number divided by the base, and then its last
unfoldable pub digits_if : Bool → (ℕ → List ℕ) → ℕ → ℕ → List ℕ
digits_if true others base n = digit n ∷ []
digits_if false others base n = others (n / base) ++ (digit (n % base) ∷ [])

-- the digits of n in a base, of at most so many
unfoldable pub digits : ℕ → ℕ → ℕ → List ℕ
digits base zero n = []
digits base (suc enough) n = digits_if (ltb n base) (digits base enough) base n

-- a number in a base: its digits are at most as many as itself and one
unfoldable pub numeral : ℕ → ℕ → List ℕ
numeral base n = digits base (suc n) n

-- a whole number in a base: a minus sign where it is negative, then its magnitude
unfoldable pub integer_in : ℕ → ℤ → List ℕ
integer_in base (pos n) = numeral base n
integer_in base (negsuc n) = 45 ∷ numeral base (suc n)

-- ---- integers in bytes

-- the number that bytes are in two's complement, the lowest first, however many they are
unfoldable pub signed_bytes : List ℕ → ℤ
signed_bytes x = signed (length x) (le_at x 0 (length x))

-- its text is in base 16
unfoldable pub integer_text : List ℕ → List ℕ
integer_text x = integer_in 16 (signed_bytes x)

-- ---- the call that writes it

-- what a call that writes a text answers, and the slice afterwards
pub record TextLeft : Type 0 where
  pub answer : Result ℕ Refusal
  pub text : List ℕ

-- a text at the start of a slice that has room for it, else 21 with the text's bytes, at place 0
unfoldable pub text_into : List ℕ → List ℕ → TextLeft
text_into t s =
    pick (leb (length t) (room s)) (record { answer = Ok (length t); text = over s 0 t })
    (record { answer = Err (NoOutputRoom (length t) 0); text = s })

-- an integer has 1 to 32 bytes (1)
unfoldable pub integer_width_ok : List ℕ → Bool
integer_width_ok x = ltb 0 (length x) and leb (length x) 32

unfoldable pub integer_text_rule : List ℕ → List ℕ → TextLeft
integer_text_rule x s = pick (integer_width_ok x) (text_into (integer_text x) s) (record { answer = Err Setting; text = s })

-- ---- examples: -1, 0, 255, the lowest int128 and the highest, the highest int256

-- so many times one byte, and then another
unfoldable pub repeated_byte : ℕ → ℕ → ℕ → List ℕ
repeated_byte n b top = replicate n b ++ (top ∷ [])

unfoldable pub example_integers : List (List ℕ)
example_integers = repeated_byte 15 255 255 ∷ repeated_byte 31 0 0 ∷ (255 ∷ repeated_byte 14 0 0) ∷ repeated_byte 15 0 128 ∷ repeated_byte 15 255 127 ∷ repeated_byte 31 255 127 ∷ []

unfoldable pub example_texts : List (List ℕ)
example_texts =
    ascii "-1"
    ∷ ascii "0"
    ∷ ascii "ff"
    ∷ ascii "-80000000000000000000000000000000"
    ∷ ascii "7fffffffffffffffffffffffffffffff"
    ∷ ascii "7fffffffffffffffffffffffffffffffffffffffffffffffffffffffffffffff"
    ∷ []
