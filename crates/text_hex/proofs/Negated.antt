-- Two's complement: the highest bit, and what is lacking to the power.
-- Assumes nothing.
use Prim.Native.Nat.{ℕ, zero, suc, ◌+◌, ◌-◌, ◌*◌, ◌/◌, ◌%◌, ◌^◌, ◌≤◌, ◌<◌}
use mathlib.Core.Path.{◌≡◌, refl, ◌∙◌}
use mathlib.Core.Bool.{Bool, true, false}
use mathlib.Core.List.{List}
use native.Mathlib.Omega.{arith}
use native.Mathlib.Nat.{pow-suc}
use borrow.Author.Tests.{lt-leb, le-leb, ltb-true, ltb-false}
use lib.Dec.{ltb, leb}
use lib.ListN.{length, get_or, set, length-set}
use Rattle.rules.specs.Bytes.{Bytes, le, le_at, over}
use Rattle.rules.proofs.Stands.{le_at_lt}

module _ (s : List ℕ) (bs : Bytes s) where
  -- ---- the highest bit is the highest byte's

  half_low : (w from : ℕ) → get_or s (from + w) 0 ≤ 127 → 2 * le_at s from (suc w) < 256 ^ suc w
  unfolding le_at
  half_low zero from h = let e : from + 0 ≡ from = omega arith in let g = rw e at h in omega (arith, g)
  half_low (suc w) from h =
      let e : from + suc w ≡ (from + 1) + w = omega arith in
      let i : 2 * le_at s (from + 1) (suc w) < 256 ^ suc w = half_low w (from + 1) (rw e at h) in
      omega (arith, i, bs from, pow-suc 256 (suc w), pow-suc 256 w)

  half_high : (w from : ℕ) → 127 < get_or s (from + w) 0 → 256 ^ suc w ≤ 2 * le_at s from (suc w)
  unfolding le_at
  half_high zero from h = let e : from + 0 ≡ from = omega arith in let g = rw e at h in omega (arith, g)
  half_high (suc w) from h =
      let e : from + suc w ≡ (from + 1) + w = omega arith in
      let i : 256 ^ suc w ≤ 2 * le_at s (from + 1) (suc w) = half_high w (from + 1) (rw e at h) in
      omega (arith, i, pow-suc 256 (suc w))

  pub top_bit : (w from : ℕ) → 0 < w → ltb 127 (get_or s (from + (w - 1)) 0) ≡ leb (256 ^ w) (2 * le_at s from w)
  top_bit zero from h = absurd (omega arith)
  top_bit (suc w) from h = by (ltb 127 (get_or s (from + w) 0)) refl
    where
      down : suc w - 1 ≡ w
      down = omega arith

      by : (b : Bool) → ltb 127 (get_or s (from + w) 0) ≡ b → ltb 127 (get_or s (from + (suc w - 1)) 0) ≡ leb (256 ^ suc w) (2 * le_at s from (suc w))
      by true e = rw (down, e, le-leb _ _ (half_high w from (ltb-true _ _ e)))
      by false e = rw (down, e, lt-leb _ _ (half_low w from (ltb-false _ _ e)))

-- ---- byte by byte: what is left to write, over what is written, is the whole

module _ (s b₀ : List ℕ) (from w : ℕ) where
  pub record Negates (b : List ℕ) (k carry : ℕ) : Type 0 where
    pub within : k ≤ w
    pub carried : carry ≤ 1
    pub size : length b ≡ length b₀
    pub comes : over b k (le (w - k) ((256 ^ (w - k) - 1 - le_at s (from + k) (w - k)) + carry)) ≡ over b₀ 0 (le w (256 ^ w - le_at s from w))

  pub negates_first : Bytes s → Negates b₀ 0 1
  negates_first bs =
      let e : from + 0 ≡ from = omega arith in
      let f : w - 0 ≡ w = omega arith in
      let l : le_at s from w < 256 ^ w = le_at_lt s bs from w in
      let g : (256 ^ w - 1 - le_at s from w) + 1 ≡ 256 ^ w - le_at s from w = omega (arith, l) in
      record { within = omega arith; carried = omega arith; size = refl; comes = rw (e, f, g) }

  module _ (b : List ℕ) (k carry : ℕ) (p : Negates b k carry) where
    pub negates_turn : Bytes s → k < w → (byte : ℕ) → byte ≡ get_or s (from + k) 0 → Negates (set b k ((255 - byte + carry) % 256)) (k + 1) ((255 - byte + carry) / 256)
    unfolding over le le_at
    negates_turn bs h byte is =
        let n : ℕ = w - (k + 1) in
        let sum : ℕ = 255 - byte + carry in
        let e : w - k ≡ suc n = omega (arith, h) in
        let j : (from + k) + 1 ≡ from + (k + 1) = omega arith in
        let rest : ℕ = le_at s (from + (k + 1)) n in
        let l : rest < 256 ^ n = le_at_lt s bs (from + (k + 1)) n in
        let v : (256 ^ suc n - 1 - (get_or s (from + k) 0 + 256 * rest)) + carry ≡ sum + 256 * (256 ^ n - 1 - rest) = omega (arith, is, l, bs (from + k), pow-suc 256 n) in
        let m : (sum + 256 * (256 ^ n - 1 - rest)) % 256 ≡ sum % 256 = omega arith in
        let d : (sum + 256 * (256 ^ n - 1 - rest)) / 256 ≡ (256 ^ n - 1 - rest) + sum / 256 = omega arith in
        record {
          within = omega (arith, h);
          carried = omega (arith, p.carried);
          size = length-set b k (sum % 256) ∙ p.size;
          comes = rw (m, d) at (rw (e, j, v) at p.comes);
        }

    pub negates_end : w ≤ k → b ≡ over b₀ 0 (le w (256 ^ w - le_at s from w))
    unfolding over le
    negates_end h =
        let e : w - k ≡ 0 = omega (arith, h) in
        rw e at p.comes
