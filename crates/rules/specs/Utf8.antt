-- Well-formed UTF-8, as the Unicode Standard has it: the set of good strings, and a check of a string byte by byte.
-- Assumes nothing: these are definitions.
use Rattle.std.specs.Prelude.{ℕ, zero, suc, ◌+◌, ◌/◌, ◌%◌, ◌^◌, ◌≤◌, ◌<◌, ◌≡◌, Bool, true, false, List, [], ◌∷◌, ◌++◌, ◌⊎◌, ltb, leb, eqb}
use Rattle.rules.specs.Choice.{pick, ◌and◌}

-- ---- the set: concatenations of the encodings of Unicode scalar values

-- a scalar value: 0 to 10FFFF hex without D800 to DFFF
abbrev pub ScalarValue : ℕ → Type 0
ScalarValue c = (c < 0xD800) ⊎ ((0xE000 ≤ c) × (c ≤ 0x10FFFF))

-- the marks of a first byte that none, one, two and three bytes follow: 0xxxxxxx, 110xxxxx, 1110xxxx, 11110xxx
unfoldable pub mark : ℕ → ℕ
mark zero = 0b0000_0000
mark (suc zero) = 0b1100_0000
mark (suc (suc zero)) = 0b1110_0000
mark (suc (suc (suc n))) = 0b1111_0000

-- the bytes that follow, 10xxxxxx each: the last n groups of six bits of c
unfoldable pub following : ℕ → ℕ → List ℕ
following zero c = []
following (suc n) c = (0b1000_0000 + c / 64 ^ n % 64) ∷ following n c

-- c in the form of a first byte that n bytes follow
unfoldable pub byte_form : ℕ → ℕ → List ℕ
byte_form n c = (mark n + c / 64 ^ n) ∷ following n c

-- the numbers that have room in that form: 7, 11, 16 and 21 bits
unfoldable pub room_of : ℕ → ℕ
room_of zero = 2 ^ 7
room_of (suc zero) = 2 ^ 11
room_of (suc (suc zero)) = 2 ^ 16
room_of (suc (suc (suc n))) = 2 ^ 21

-- how many bytes follow in the shortest form that has room for c
unfoldable pub shortest : ℕ → ℕ
shortest c = pick (ltb c 0x80) 0 (pick (ltb c 0x800) 1 (pick (ltb c 0x10000) 2 3))

-- the one encoding of a scalar value, and of a list of them
unfoldable pub encoding : ℕ → List ℕ
encoding c = byte_form (shortest c) c

unfoldable pub encodings : List ℕ → List ℕ
encodings [] = []
encodings (c ∷ cs) = encoding c ++ encodings cs

-- all of a list are scalar values
unfoldable pub ScalarValues : List ℕ → Type 0
ScalarValues [] = Unit
ScalarValues (c ∷ cs) = ScalarValue c × ScalarValues cs

-- a good string is the encodings of scalar values, one after another
pub record Utf8 (s : List ℕ) : Type 0 where
  pub scalars : List ℕ
  pub each : ScalarValues scalars
  pub bytes : encodings scalars ≡ s

-- ---- the check: the Standard's table of well-formed byte sequences, which says what may follow a first byte

abbrev pub between : ℕ → ℕ → ℕ → Bool
between low high b = leb low b and leb b high

-- a byte that begins a character: 00 to 7F, C2 to F4
unfoldable pub begins : ℕ → Bool
begins b = pick (ltb b 0x80) true (between 0xC2 0xF4 b)

-- how many bytes follow it
unfoldable pub awaited : ℕ → ℕ
awaited b = pick (ltb b 0x80) 0 (pick (ltb b 0xE0) 1 (pick (ltb b 0xF0) 2 3))

-- and between which bounds the first of them lies; each after that lies between 80 and BF
unfoldable pub lowest : ℕ → ℕ
lowest b = pick (eqb b 0xE0) 0xA0 (pick (eqb b 0xF0) 0x90 0x80)

unfoldable pub highest : ℕ → ℕ
highest b = pick (eqb b 0xED) 0x9F (pick (eqb b 0xF4) 0x8F 0xBF)

-- the rest of a string, of which n bytes belong to the character that was begun, the next of them between two bounds
unfoldable pub rest_utf8 : ℕ → ℕ → ℕ → List ℕ → Bool
rest_utf8 zero low high [] = true
rest_utf8 (suc n) low high [] = false
rest_utf8 zero low high (b ∷ s) = begins b and rest_utf8 (awaited b) (lowest b) (highest b) s
rest_utf8 (suc n) low high (b ∷ s) = between low high b and rest_utf8 n 0x80 0xBF s

unfoldable pub is_utf8 : List ℕ → Bool
is_utf8 s = rest_utf8 0 0x80 0xBF s

-- ---- examples

-- good: the first and the last of one, two, three and four bytes; beside the surrogates; e with an acute, a byte order mark; nothing
unfoldable pub good_strings : List (List ℕ)
good_strings =
    (0x00 ∷ []) ∷ (0x7F ∷ []) ∷ (0xC2 ∷ 0x80 ∷ []) ∷ (0xDF ∷ 0xBF ∷ []) ∷ (0xE0 ∷ 0xA0 ∷ 0x80 ∷ []) ∷ (0xEF ∷ 0xBF ∷ 0xBF ∷ [])
    ∷ (0xF0 ∷ 0x90 ∷ 0x80 ∷ 0x80 ∷ []) ∷ (0xF4 ∷ 0x8F ∷ 0xBF ∷ 0xBF ∷ []) ∷ (0xED ∷ 0x9F ∷ 0xBF ∷ []) ∷ (0xEE ∷ 0x80 ∷ 0x80 ∷ [])
    ∷ (0xC3 ∷ 0xA9 ∷ []) ∷ (0xEF ∷ 0xBB ∷ 0xBF ∷ []) ∷ [] ∷ []

-- not good: too long; the first and the last surrogate; too large; bytes that begin nothing; characters that are cut off
unfoldable pub bad_strings : List (List ℕ)
bad_strings =
    (0xC0 ∷ 0x80 ∷ []) ∷ (0xC1 ∷ 0xBF ∷ []) ∷ (0xE0 ∷ 0x9F ∷ 0xBF ∷ []) ∷ (0xF0 ∷ 0x8F ∷ 0xBF ∷ 0xBF ∷ []) ∷ (0xED ∷ 0xA0 ∷ 0x80 ∷ [])
    ∷ (0xED ∷ 0xBF ∷ 0xBF ∷ []) ∷ (0xF4 ∷ 0x90 ∷ 0x80 ∷ 0x80 ∷ []) ∷ (0xF5 ∷ 0x80 ∷ 0x80 ∷ 0x80 ∷ [])
    ∷ (0xFF ∷ []) ∷ (0x80 ∷ []) ∷ (0xC3 ∷ []) ∷ (0xE2 ∷ 0x82 ∷ []) ∷ (0xF0 ∷ 0x9F ∷ 0x98 ∷ []) ∷ []
