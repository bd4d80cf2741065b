-- The digits of a number in bytes, and of how many there are.
-- Assumes nothing.
use Prim.Native.Nat.{ℕ, zero, suc, ◌+◌, ◌-◌, ◌*◌, ◌/◌, ◌%◌, ◌^◌, ◌≤◌, ◌<◌}
use mathlib.Core.Path.{◌≡◌, refl, sym, ap, ◌∙◌}
use mathlib.Core.Bool.{Bool, true, false}
use mathlib.Core.List.{List, [], ◌∷◌, ◌++◌}
use native.Mathlib.Omega.{arith}
use native.Mathlib.Numerals.{add-one}
use native.Mathlib.Nat.{div-one, div-div-eq-div-mul, pow-suc, pow-succ', one-le-pow, div-lt_iff_lt-mul, le-div_iff_mul-le}
use borrow.Author.Tests.{ltb-true, ltb-false, eqb-true, eqb-false}
use lib.Dec.{ltb, eqb}
use lib.ListN.{length, get_or}
use Rattle.rules.specs.Choice.{pick}
use Rattle.rules.specs.Bytes.{Bytes, le_at}
use Rattle.rules.specs.Numerals.{digit, numeral}
use Rattle.rules.specs.Listing.{hex_number}
use Rattle.text_laws.proofs.Numerals.{numeral_small, numeral_more, small_length, more_length}
use Rattle.text_hex.specs.Digits.{digit_of, digit_at}

-- ---- powers

pub two_to_a_byte : (w : ℕ) → 16 ^ (2 * w) ≡ 256 ^ w
two_to_a_byte zero = refl
two_to_a_byte (suc w) =
    let e : 2 * suc w ≡ suc (suc (2 * w)) = omega arith in
    rw (e, pow-suc 16 (suc (2 * w)), pow-suc 16 (2 * w), pow-suc 256 w, two_to_a_byte w) (omega arith)

-- ---- byte j of a number

module _ (s : List ℕ) (bs : Bytes s) where
  byte_of : (w j at : ℕ) → j < w → le_at s at w / 256 ^ j % 256 ≡ get_or s (at + j) 0
  unfolding le_at
  byte_of zero j at h = absurd (omega arith)
  byte_of (suc w) zero at h = rw (div-one (get_or s at 0 + 256 * le_at s (at + 1) w)) (let z : at + 0 ≡ at = omega arith in rw z (omega (arith, bs at)))
  byte_of (suc w) (suc j) at h =
      let q : (get_or s at 0 + 256 * le_at s (at + 1) w) / 256 ≡ le_at s (at + 1) w = omega (arith, bs at) in
      let d : (get_or s at 0 + 256 * le_at s (at + 1) w) / 256 ^ suc j ≡ le_at s (at + 1) w / 256 ^ j =
      ap (λ (p : ℕ). (get_or s at 0 + 256 * le_at s (at + 1) w) / p) (pow-succ' 256 j) ∙ sym (div-div-eq-div-mul _ 256 (256 ^ j)) ∙ ap (λ (y : ℕ). y / 256 ^ j) q in
      let n : (at + 1) + j ≡ at + suc j = omega arith in
      rw (d, ← n) (byte_of w j (at + 1) (omega arith))

  -- the lower digit of byte j, and the upper
  low_digit : (w j at : ℕ) → j < w → digit_of (le_at s at w) (2 * j) ≡ get_or s (at + j) 0 % 16
  unfolding digit_of
  low_digit w j at h = rw (two_to_a_byte j, ← (byte_of w j at h)) (omega arith)

  high_digit : (w j at : ℕ) → j < w → digit_of (le_at s at w) (suc (2 * j)) ≡ get_or s (at + j) 0 / 16
  unfolding digit_of
  high_digit w j at h =
      let d : le_at s at w / 16 ^ suc (2 * j) ≡ le_at s at w / 256 ^ j / 16 =
      ap (λ (p : ℕ). le_at s at w / p) (pow-suc 16 (2 * j) ∙ ap (λ (p : ℕ). p * 16) (two_to_a_byte j)) ∙ sym (div-div-eq-div-mul (le_at s at w) (256 ^ j) 16) in
      rw (d, ← (byte_of w j at h)) (omega arith)

  pub digit_at_is : (w at i : ℕ) → i < 2 * w → digit_at s at i ≡ digit_of (le_at s at w) i
  unfolding digit_at pick
  digit_at_is w at i h = by (eqb (i % 2) 0) refl
    where
      by : (b : Bool) → eqb (i % 2) 0 ≡ b → pick b (get_or s (at + i / 2) 0 % 16) (get_or s (at + i / 2) 0 / 16) ≡ digit_of (le_at s at w) i
      by true e =
          let n : i ≡ 2 * (i / 2) = omega (arith, eqb-true (i % 2) 0 e) in
          sym (ap (digit_of (le_at s at w)) n ∙ low_digit w (i / 2) at (omega (arith, h)))
      by false e =
          let n : i ≡ suc (2 * (i / 2)) = omega (arith, eqb-false (i % 2) 0 e) in
          sym (ap (digit_of (le_at s at w)) n ∙ high_digit w (i / 2) at (omega (arith, h)))

pub digit_small : (s : List ℕ) → Bytes s → (at i : ℕ) → digit_at s at i < 16
unfolding digit_at pick
digit_small s bs at i = by (eqb (i % 2) 0)
  where
    by : (b : Bool) → pick b (get_or s (at + i / 2) 0 % 16) (get_or s (at + i / 2) 0 / 16) < 16
    by true = omega arith
    by false = omega (arith, bs (at + i / 2))

-- ---- a number by so many digits

digit_next : (x i : ℕ) → digit_of (x / 16) i ≡ digit_of x (suc i)
unfolding digit_of
digit_next x i = ap (λ (y : ℕ). y % 16) (div-div-eq-div-mul x 16 (16 ^ i) ∙ ap (λ (p : ℕ). x / p) (sym (pow-succ' 16 i)))

-- the first of them
pub hex_first : (i x : ℕ) → hex_number (suc i) x ≡ digit (digit_of x i) ∷ hex_number i x
unfolding hex_number
hex_first zero x = ap (λ (d : ℕ). digit d ∷ []) (unfold digit_of in ap (λ (y : ℕ). y % 16) (sym (div-one x)))
hex_first (suc i) x = rw (hex_first i (x / 16), digit_next x i)

-- the text of a number is by as many digits as it has
pub numeral_is : (k x : ℕ) → x < k → numeral 16 x ≡ hex_number (length (numeral 16 x)) x
unfolding hex_number
numeral_is zero x h = absurd (omega arith)
numeral_is (suc k) x h = by (ltb x 16) refl (numeral_is k (x / 16))
  where
    by : (b : Bool) → ltb x 16 ≡ b → (x / 16 < k → numeral 16 (x / 16) ≡ hex_number (length (numeral 16 (x / 16))) (x / 16)) → numeral 16 x ≡ hex_number (length (numeral 16 x)) x
    by true e i =
        let l : x < 16 = ltb-true x 16 e in
        let m : x % 16 ≡ x = omega (arith, l) in
        rw (small_length 16 (omega arith) x l, numeral_small 16 (omega arith) x l, m)
    by false e i =
        let l : 16 ≤ x = ltb-false x 16 e in
        let n : length (numeral 16 x) ≡ suc (length (numeral 16 (x / 16))) = more_length 16 (omega arith) x l ∙ add-one _ in
        rw (n) (numeral_more 16 (omega arith) x l ∙ ap (λ (t : List ℕ). t ++ (digit (x % 16) ∷ [])) (i (omega (arith, h, l))))

-- it has c + 1, where its digit c is the first that is not 0
count_is : (c x : ℕ) → x < 16 ^ suc c → (0 < c → 16 ^ c ≤ x) → length (numeral 16 x) ≡ suc c
count_is zero x h l = small_length 16 (omega arith) x (omega (arith, h))
count_is (suc c) x h l =
    let p : 16 ^ suc c ≡ 16 ^ c * 16 = pow-suc 16 c in
    let q : 16 ^ suc (suc c) ≡ 16 ^ suc c * 16 = pow-suc 16 (suc c) in
    let one : 1 ≤ 16 ^ c = one-le-pow c 16 (omega arith) in
    let m : 16 ^ suc c ≤ x = l (omega arith) in
    more_length 16 (omega arith) x (omega (arith, p, m, one)) ∙ rw (count_is c (x / 16) (omega (arith, h, q)) (λ g. omega (arith, m, p))) (add-one (suc c))

-- ---- counting them from above

module _ (x : ℕ) where
  lower_power : (c : ℕ) → 1 < c → 16 ^ c ≡ 16 ^ (c - 1) * 16
  lower_power zero h = absurd (omega arith)
  lower_power (suc c) h = let e : suc c - 1 ≡ c = omega arith in rw e (pow-suc 16 c)

  -- a digit that is not 0
  count_here : (c : ℕ) → 1 < c → x < 16 ^ c → 0 < digit_of x (c - 1) → c ≡ length (numeral 16 x)
  unfolding digit_of
  count_here c h l d =
      let e : suc (c - 1) ≡ c = omega (arith, h) in
      let m : 1 ≤ x / 16 ^ (c - 1) = omega (arith, d) in
      let n : 1 * 16 ^ (c - 1) ≤ x = (le-div_iff_mul-le (one-le-pow (c - 1) 16 (omega arith))).0 m in
      sym (count_is (c - 1) x (rw e l) (λ g. omega (arith, n)) ∙ e)

  -- one that is
  count_below : (c : ℕ) → 1 < c → x < 16 ^ c → digit_of x (c - 1) ≤ 0 → x < 16 ^ (c - 1)
  unfolding digit_of
  count_below c h l d =
      let p : 0 < 16 ^ (c - 1) = one-le-pow (c - 1) 16 (omega arith) in
      let u : x < 16 * 16 ^ (c - 1) = omega (arith, l, lower_power c h) in
      let m : x / 16 ^ (c - 1) < 16 = (div-lt_iff_lt-mul p).1 u in
      let z : x / 16 ^ (c - 1) < 1 = omega (arith, m, d) in
      let n : x < 1 * 16 ^ (c - 1) = (div-lt_iff_lt-mul p).0 z in
      omega (arith, n)

  pub count_one : (c : ℕ) → c ≤ 1 → x < 16 ^ c → 1 ≡ length (numeral 16 x)
  count_one zero h l = sym (count_is 0 x (omega (arith, l)) (λ g. absurd (omega (arith, g))))
  count_one (suc c) h l = sym (count_is 0 x (let e : c ≡ 0 = omega (arith, h) in rw e at l) (λ g. absurd (omega (arith, g))))

-- the same by the digit that is read there
module _ (s : List ℕ) (bs : Bytes s) (at w c : ℕ) (few : c ≤ 2 * w) (h : 1 < c) (l : le_at s at w < 16 ^ c) (d : ℕ) (is : d ≡ digit_at s at (c - 1)) where
  digit_read : d ≡ digit_of (le_at s at w) (c - 1)
  digit_read = is ∙ digit_at_is s bs w at (c - 1) (omega (arith, few, h))

  pub counted_here : 0 < d → c ≡ length (numeral 16 (le_at s at w))
  counted_here k = count_here (le_at s at w) c h l (rw (← digit_read) k)

  pub counted_below : d ≤ 0 → le_at s at w < 16 ^ (c - 1)
  counted_below k = count_below (le_at s at w) c h l (rw (← digit_read) k)
