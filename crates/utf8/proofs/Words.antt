-- The highest bits of the bytes of a word: none is set just if each byte is ASCII.
-- Assumes nothing.
use Prim.Native.Nat.{ℕ, zero, suc, ◌+◌, ◌*◌, ◌/◌, ◌%◌, ◌<◌}
use mathlib.Core.Path.{◌≡◌, refl, ap, ap₂, ◌∙◌}
use mathlib.Core.List.{List}
use native.Mathlib.Omega.{arith}
use lib.Bits.{bit_and, and_block, and_mask, and_zero_r}
use lib.ListN.{get_or}
use Rattle.rules.specs.Bytes.{le_at, Bytes}

-- the highest bit of each of w bytes
unfoldable pub high_bits : ℕ → ℕ
high_bits zero = 0
high_bits (suc w) = high_bits w * 256 + 128

-- of one byte
byte_high : (b : ℕ) → bit_and b 128 ≡ b / 128 % 2 * 128
byte_high b =
    let e : b ≡ b / 128 * 128 + b % 128 = omega arith in
    let a = and_block 7 (b / 128) 1 (b % 128) 0 (omega arith) (omega arith) in
    let z : bit_and (b / 128) 1 * 128 + bit_and (b % 128) 0 ≡ b / 128 % 2 * 128 + 0 = ap₂ (λ (x y : ℕ). x * 128 + y) (and_mask (b / 128) 1) (and_zero_r (b % 128)) in
    ap (λ (x : ℕ). bit_and x 128) e ∙ (a ∙ (z ∙ omega arith))

module _ (s : List ℕ) (bytes : Bytes s) where
  -- of a byte and those behind it
  word_step : (at w : ℕ) → bit_and (le_at s at (suc w)) (high_bits (suc w)) ≡ bit_and (le_at s (at + 1) w) (high_bits w) * 256 + get_or s at 0 / 128 * 128
  unfolding le_at high_bits
  word_step at w =
      let b = bytes at in
      let e : get_or s at 0 + 256 * le_at s (at + 1) w ≡ le_at s (at + 1) w * 256 + get_or s at 0 = omega arith in
      let q : get_or s at 0 / 128 % 2 * 128 ≡ get_or s at 0 / 128 * 128 = omega arith in
      ap (λ (x : ℕ). bit_and x (high_bits w * 256 + 128)) e
      ∙ (and_block 8 (le_at s (at + 1) w) (high_bits w) (get_or s at 0) 128 b (omega arith) ∙ ap (λ (x : ℕ). bit_and (le_at s (at + 1) w) (high_bits w) * 256 + x) (byte_high (get_or s at 0) ∙ q))

  -- no bit is set, so each byte is ASCII
  pub none_high : (w at : ℕ) → bit_and (le_at s at w) (high_bits w) ≡ 0 → (k : ℕ) → k < w → get_or s (at + k) 0 < 0x80
  none_high zero at e k h = absurd (omega arith)
  none_high (suc w) at e zero h =
      let q = word_step at w in
      let z : at + 0 ≡ at = omega arith in
      rw z (omega arith)
  none_high (suc w) at e (suc k) h =
      let q = word_step at w in
      let z : at + suc k ≡ (at + 1) + k = omega arith in
      rw z (none_high w (at + 1) (omega arith) k (omega arith))

  -- and the other way round
  pub high_none : (w at : ℕ) → ((k : ℕ) → k < w → get_or s (at + k) 0 < 0x80) → bit_and (le_at s at w) (high_bits w) ≡ 0
  unfolding le_at high_bits
  high_none zero at h = refl
  high_none (suc w) at h =
      let z : at + 0 ≡ at = omega arith in
      let b = rw z at (h 0 (omega arith)) in
      let r = high_none w (at + 1) (λ k l. let e : (at + 1) + k ≡ at + suc k = omega arith in rw e (h (suc k) (omega arith))) in
      let q = word_step at w in
      omega arith
