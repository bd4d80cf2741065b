-- Bytes in a list and numbers in bytes, over any width. A list of numbers is a slice's contents.
-- Assumes nothing: these are definitions.
use Rattle.std.specs.declared.cmp.Ordering.{Ordering}
use Rattle.std.specs.Prelude.{ℕ, zero, suc, ◌+◌, ◌*◌, ◌/◌, ◌%◌, ◌≤◌, ◌<◌, ◌≡◌, Bool, true, false, List, [], ◌∷◌, length, get_or, set, ltb, eqb}
use Rattle.rules.specs.Choice.{pick}

-- the most bytes that a slice may have which is read, and that count of one which is written
abbrev pub longest_slice : ℕ
longest_slice = 4294967295

-- each is a byte
abbrev pub Bytes : List ℕ → Type 0
Bytes s = (i : ℕ) → get_or s i 0 < 256

-- x in w bytes, little-endian
unfoldable pub le : ℕ → ℕ → List ℕ
le zero x = []
le (suc w) x = x % 256 ∷ le w (x / 256)

-- the little-endian number in the w bytes from position `at` on; a byte past the end counts as 0
unfoldable pub le_at : List ℕ → ℕ → ℕ → ℕ
le_at s at zero = 0
le_at s at (suc w) = get_or s at 0 + 256 * le_at s (at + 1) w

-- the n bytes from position `at` on; a byte past the end counts as 0
unfoldable pub part : List ℕ → ℕ → ℕ → List ℕ
part s at zero = []
part s at (suc n) = get_or s at 0 ∷ part s (at + 1) n

-- the list xs stands in s at position `at`
unfoldable pub Stands : List ℕ → ℕ → List ℕ → Type 0
Stands s at [] = at ≤ length s
Stands s at (x ∷ xs) = ((at < length s) × (get_or s at 0 ≡ x)) × Stands s (at + 1) xs

-- s with xs written over it from position `at` on
unfoldable pub over : List ℕ → ℕ → List ℕ → List ℕ
over s at [] = s
over s at (x ∷ xs) = over (set s at x) (at + 1) xs

-- two byte strings by their unsigned bytes, a proper prefix first
unfoldable pub order : List ℕ → List ℕ → Ordering
order [] [] = Ordering.Equal
order [] (y ∷ ys) = Ordering.Less
order (x ∷ xs) [] = Ordering.Greater
order (x ∷ xs) (y ∷ ys) = pick (eqb x y) (order xs ys) (pick (ltb x y) Ordering.Less Ordering.Greater)

unfoldable pub is_less : Ordering → Bool
is_less Ordering.Less = true
is_less Ordering.Equal = false
is_less Ordering.Greater = false

unfoldable pub is_equal : Ordering → Bool
is_equal Ordering.Less = false
is_equal Ordering.Equal = true
is_equal Ordering.Greater = false
