-- Digits put one behind another, the highest first.
-- Assumes nothing.
use Prim.Native.Nat.{ℕ, zero, suc, ◌+◌, ◌-◌, ◌*◌, ◌^◌, ◌≤◌, ◌<◌}
use mathlib.Core.Path.{◌≡◌, refl, sym, ap, ◌∙◌}
use mathlib.Core.List.{List, ◌∷◌}
use native.Mathlib.Omega.{arith}
use lib.ListN.{length, set, length-set}
use Rattle.rules.specs.Bytes.{Bytes, le_at, over}
use Rattle.rules.specs.Numerals.{digit, numeral}
use Rattle.rules.specs.Listing.{hex_number}
use Rattle.rules.proofs.Stands.{le_at_lt}
use Rattle.text_laws.proofs.Numerals.{few_digits}
use Rattle.lines.specs.Puts.{TextPut}
use Rattle.text_hex.specs.Digits.{digit_of, digit_at}
use Rattle.text_hex.proofs.Digits.{two_to_a_byte, digit_at_is, hex_first, numeral_is}

-- a number of w bytes has at most two digits for each
pub few_for_width : (w x : ℕ) → 0 < w → x < 256 ^ w → length (numeral 16 x) ≤ 2 * w
few_for_width zero x h l = absurd (omega arith)
few_for_width (suc w) x h l =
    let e : 2 * suc w ≡ suc (suc (2 * w)) = omega arith in
    rw e (few_digits 16 (omega arith) (suc (2 * w)) x (rw (← e) (rw (two_to_a_byte (suc w)) l)))

module _ (s₀ store : List ℕ) (at from w : ℕ) where
  -- so many digits are left: over what is put, they are the whole
  pub record PutsDigits (s : List ℕ) (left next : ℕ) : Type 0 where
    pub within : left ≤ 2 * w
    pub size : length s ≡ length s₀
    pub position : next + left ≡ at + length (numeral 16 (le_at store from w))
    pub comes : over s next (hex_number left (le_at store from w)) ≡ over s₀ at (numeral 16 (le_at store from w))

  pub digits_first : Bytes store → 0 < w → (count : ℕ) → count ≡ length (numeral 16 (le_at store from w)) → PutsDigits s₀ count at
  digits_first bs some count e = record {
    within = rw e (few_for_width w (le_at store from w) some (le_at_lt store bs from w));
    size = refl;
    position = rw e;
    comes = rw e (ap (over s₀ at) (sym (numeral_is (suc (le_at store from w)) (le_at store from w) (omega arith))));
  }

  module _ (s : List ℕ) (left next : ℕ) (p : PutsDigits s left next) where
    pub digits_turn : Bytes store → 0 < left → (d : ℕ) → d ≡ digit_at store from (left - 1) → (c : ℕ) → c ≡ digit d → PutsDigits (set s next c) (left - 1) (next + 1)
    unfolding over
    digits_turn bs h d f c g =
        let e : left ≡ suc (left - 1) = omega (arith, h) in
        let read : digit_at store from (left - 1) ≡ digit_of (le_at store from w) (left - 1) = digit_at_is store bs w from (left - 1) (omega (arith, h, p.within)) in
        let first : hex_number left (le_at store from w) ≡ c ∷ hex_number (left - 1) (le_at store from w) =
        ap (λ (n : ℕ). hex_number n (le_at store from w)) e ∙ hex_first (left - 1) (le_at store from w)
        ∙ ap (λ (n : ℕ). n ∷ hex_number (left - 1) (le_at store from w)) (sym (g ∙ ap digit (f ∙ read))) in
        record {
          within = omega (arith, p.within);
          size = length-set s next c ∙ p.size;
          position = omega (arith, h, p.position);
          comes = rw first at p.comes;
        }

    pub digits_end : left ≤ 0 → TextPut s₀ at (numeral 16 (le_at store from w)) s next
    unfolding over hex_number
    digits_end h =
        let e : left ≡ 0 = omega (arith, h) in
        record { holds = rw e at p.comes; ends = omega (arith, e, p.position) }
