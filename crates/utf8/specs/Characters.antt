-- A character at the start of what is left of a string.
-- Assumes nothing: these are definitions.
use Rattle.std.specs.Prelude.{ℕ, ◌+◌, ◌-◌, ◌≤◌, ◌<◌, ◌≡◌, false, List}
use Rattle.rules.specs.Bytes.{part}
use Rattle.rules.specs.Utf8.{is_utf8}

-- what stands from `at` to `end` begins with a character of n bytes, so that the rest decides; 0 where it is not well formed for what it
-- begins with
pub record Character (s : List ℕ) (at end n : ℕ) : Type 0 where
  pub none : n ≡ 0 → is_utf8 (part s at (end - at)) ≡ false
  pub within : at + n ≤ end
  pub rest : 0 < n → is_utf8 (part s at (end - at)) ≡ is_utf8 (part s (at + n) (end - (at + n)))
