-- A store whose bytes are all ASCII: whatever part of it a name is, it is well formed.
-- Assumes nothing.
use Prim.Native.Nat.{ℕ, ◌+◌, ◌<◌}
use mathlib.Core.Path.{◌≡◌}
use mathlib.Core.Bool.{true}
use mathlib.Core.List.{List}
use native.Mathlib.Omega.{arith}
use native.Mathlib.Decide.{dec_lt}
use lib.ListN.{length, get_or, get_or-eq_default}
use Rattle.rules.specs.Bytes.{part}
use Rattle.rules.specs.Utf8.{is_utf8}
use Rattle.rules.proofs.Tests.{and_both}
use Rattle.block_laws.proofs.Ascii.{part-ascii}
use Rattle.utf8.specs.Ascii.{ascii_at, short_ascii}
use Rattle.utf8.proofs.Runs.{ascii_each}

module _ (s : List ℕ) (most : ℕ) (plain : short_ascii s most ≡ true) where
  whole : ascii_at s 0 (length s) ≡ true
  unfolding short_ascii
  whole = (and_both _ _ plain).1

  -- a byte past the end counts as 0
  byte : (i : ℕ) → Dec (i < length s) → get_or s i 0 < 0x80
  byte i (yes h) = let z : 0 + i ≡ i = omega arith in rw z at (ascii_each s 0 (length s) whole i h)
  byte i (no h) = rw (get_or-eq_default s 0 {n = i} (omega arith)) (omega arith)

  pub store_utf8 : (at n : ℕ) → is_utf8 (part s at n) ≡ true
  store_utf8 at n = part-ascii s at n (λ i. byte i (dec_lt i (length s)))
