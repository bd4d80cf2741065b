-- Every part of a string of bytes below 80 hex is good; and the examples.
-- Assumes nothing.
use Prim.Native.Nat.{ℕ, zero, suc, ◌+◌, ◌<◌}
use mathlib.Core.Path.{◌≡◌, refl, ◌∙◌}
use mathlib.Core.Bool.{true, false}
use mathlib.Core.List.{List, ◌∷◌, map}
use borrow.Author.Tests.{lt-ltb}
use lib.ListN.{get_or}
use Rattle.rules.specs.Choice.{pick, ◌and◌}
use Rattle.rules.specs.Bytes.{part}
use Rattle.rules.specs.Utf8.{begins, awaited, lowest, highest, rest_utf8, is_utf8, good_strings, bad_strings}
use Rattle.block_laws.proofs.Characters.{between_characters}

-- such a byte is a character
pub ascii_before : (b : ℕ) (s : List ℕ) → b < 0x80 → is_utf8 (b ∷ s) ≡ is_utf8 s
unfolding is_utf8 rest_utf8 begins awaited pick ◌and◌
ascii_before b s h = rw (lt-ltb b 0x80 h) (between_characters (lowest b) (highest b) s)

pub part-ascii : (s : List ℕ) (at n : ℕ) → ((i : ℕ) → get_or s i 0 < 0x80) → is_utf8 (part s at n) ≡ true
unfolding part is_utf8 rest_utf8
part-ascii s at zero h = refl
part-ascii s at (suc n) h = ascii_before (get_or s at 0) (part s (at + 1) n) (h at) ∙ part-ascii s (at + 1) n h

-- the examples are as the rules say
pub examples : (map is_utf8 good_strings ≡ map (λ s. true) good_strings) × (map is_utf8 bad_strings ≡ map (λ s. false) bad_strings)
unfolding good_strings bad_strings is_utf8 rest_utf8 begins awaited lowest highest pick ◌and◌
examples = (refl, refl)
