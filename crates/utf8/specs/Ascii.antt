-- Bytes that are ASCII, and how far a walk over them by eights comes.
-- Assumes nothing: these are definitions.
use Rattle.std.specs.Prelude.{ℕ, ◌+◌, ◌-◌, ◌%◌, ◌≤◌, ◌≡◌, Bool, true, false, List, length, get_or, ltb, leb}
use Rattle.rules.specs.Choice.{◌and◌, all}

-- the n bytes from position `at` on are ASCII
unfoldable pub ascii_at : List ℕ → ℕ → ℕ → Bool
ascii_at s at n = all (λ k. ltb (get_or s (at + k) 0) 0x80) n

-- r lies whole eights behind `at`, which are ASCII; those from r on are not, or fewer than eight are left before the end
pub record Reached (s : List ℕ) (at end r : ℕ) : Type 0 where
  pub after : at ≤ r
  pub within : r ≤ end
  pub eights : (r - at) % 8 ≡ 0
  pub before : ascii_at s at (r - at) ≡ true
  pub stops : 8 ≤ end - r → ascii_at s r 8 ≡ false

-- at most so many bytes, all of them ASCII
unfoldable pub short_ascii : List ℕ → ℕ → Bool
short_ascii s most = leb (length s) most and ascii_at s 0 (length s)
