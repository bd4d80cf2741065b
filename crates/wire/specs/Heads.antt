-- Bytes as a number whose first byte counts most: as two such numbers are in order, so are the bytes.
-- Assumes nothing: this is a definition.
use Rattle.std.specs.Prelude.{ℕ, zero, suc, ◌+◌, ◌*◌, List, get_or}

-- the big-endian number in the w bytes from position `at` on; a byte past the end counts as 0
unfoldable pub be_at : List ℕ → ℕ → ℕ → ℕ
be_at s at zero = 0
be_at s at (suc w) = 256 * be_at s at w + get_or s (at + w) 0
