-- The text of an integer, by its sign.
-- Assumes nothing.
use Rattle.std.proofs.Common.{Ok, Err}
use Rattle.std.specs.List.{between}
use Prim.Native.Nat.{ℕ, suc, ◌+◌, ◌-◌, ◌*◌, ◌^◌, ◌≤◌, ◌<◌}
use mathlib.Core.Path.{◌≡◌, refl, sym, ap, ◌∙◌}
use mathlib.Core.Bool.{Bool, true, false}
use mathlib.Core.List.{List, [], ◌∷◌}
use native.Mathlib.Omega.{arith}
use borrow.Author.Tests.{lt-ltb, le-ltb, le-leb, lt-leb, leb-true, leb-false}
use lib.Dec.{leb}
use lib.IntN.{ℤ}
use lib.ListN.{length, take, drop, replicate}
use Rattle.rules.specs.Choice.{pick, ◌and◌}
use Rattle.rules.specs.Bytes.{Bytes, le, le_at, part, over}
use Rattle.rules.specs.Query.{signed}
use Rattle.rules.specs.Reading.{room}
use Rattle.rules.specs.Numerals.{numeral, integer_in, signed_bytes, text_into, integer_width_ok, integer_text, integer_text_rule}
use Rattle.rules.specs.Refusals.{Setting, NoOutputRoom}
use Rattle.rules.proofs.Stands.{length-le, le_at_lt, length_part, stands_le, stands_number, stands_seam, part-stands}
use Rattle.rules.proofs.Slices.{part-take, part-between}
use Rattle.rules.proofs.Over.{over-is}
use Rattle.rules.proofs.Signed.{signed_is}
use Rattle.lines.specs.Puts.{TextPut}
use Rattle.lines.proofs.Putting.{put_both}
use Rattle.text_hex.specs.Digits.{number_of}
use Rattle.text_hex.proofs.Turns.{few_for_width}

-- ---- a number that was written in bytes reads back

pub le_back : (s : List ℕ) (w x : ℕ) → w ≤ length s → x < 256 ^ w → le_at (over s 0 (le w x)) 0 w ≡ x
le_back s w x h l =
    let n : length (le w x) ≡ w = length-le w x in
    let e = over-is (le w x) s 0 (omega (arith, n, h)) in
    stands_le (over s 0 (le w x)) 0 w x l (rw e (stands_seam [] (le w x) (drop (0 + length (le w x)) s)))

-- ---- a number in a part of a longer slice

pub number_of_part : (s : List ℕ) (at n : ℕ) → at + n ≤ length s → number_of (part s at n) ≡ le_at s at n
number_of_part s at n h = sym (ap (le_at s at) (sym (length_part s at n)) ∙ stands_number s at (part s at n) (part-stands s at n h))

pub text_of_part : (s : List ℕ) (at n : ℕ) → at + n ≤ length s → integer_text (between at (at + n) s) ≡ integer_in 16 (signed n (le_at s at n))
unfolding integer_text signed_bytes
text_of_part s at n h = rw (part-between s at (at + n) n refl h, number_of_part s at n h, length_part s at n)

number_in_front : (s : List ℕ) (n : ℕ) → n ≤ length s → number_of (take n s) ≡ le_at s 0 n
number_in_front s n h = rw (part-take s 0 n (omega (arith, h))) (number_of_part s 0 n (omega (arith, h)))

-- ---- by the sign

module _ (w x : ℕ) (l : x < 256 ^ w) where
  pub text_high : leb (256 ^ w) (2 * x) ≡ true → integer_in 16 (signed w x) ≡ 45 ∷ numeral 16 (256 ^ w - x)
  unfolding integer_in
  text_high h =
      let k = leb-true (256 ^ w) (2 * x) h in
      signed_is w x l (λ (z : ℤ). integer_in 16 z ≡ 45 ∷ numeral 16 (256 ^ w - x))
      (λ g. absurd (omega (arith, g, k)))
      (λ g. let e : suc (256 ^ w - 1 - x) ≡ 256 ^ w - x = omega (arith, l) in rw e)

  pub text_low : leb (256 ^ w) (2 * x) ≡ false → integer_in 16 (signed w x) ≡ numeral 16 x
  unfolding integer_in
  text_low h =
      let k = leb-false (256 ^ w) (2 * x) h in
      signed_is w x l (λ (z : ℤ). integer_in 16 z ≡ numeral 16 x) (λ g. refl) (λ g. absurd (omega (arith, g, k)))

  -- a sign, and two digits for each byte
  pub text_few : 0 < w → length (integer_in 16 (signed w x)) ≤ 1 + 2 * w
  text_few some = by (leb (256 ^ w) (2 * x)) refl
    where
      by : (b : Bool) → leb (256 ^ w) (2 * x) ≡ b → length (integer_in 16 (signed w x)) ≤ 1 + 2 * w
      by true e =
          let k = leb-true (256 ^ w) (2 * x) e in
          rw (text_high e) (omega (arith, few_for_width w (256 ^ w - x) some (omega (arith, l, k))))
      by false e = rw (text_low e) (omega (arith, few_for_width w x some l))

-- ---- by what is read: whether the highest bit is set, and the magnitude of a negative number

module _ (number : List ℕ) (bs : Bytes number) (negative : Bool) (is : negative ≡ leb (256 ^ length number) (2 * number_of number)) where
  fits : number_of number < 256 ^ length number
  fits = le_at_lt number bs 0 (length number)

  module _ (yes : negative ≡ true) (few : length number ≤ 32) (m : List ℕ) (e : (m ≡ over (replicate 32 0) 0 (le (length number) (256 ^ length number - number_of number))) × (length m ≡ 32)) where
    above : leb (256 ^ length number) (2 * number_of number) ≡ true
    above = sym is ∙ yes

    magnitude_is : number_of (take (length number) m) ≡ 256 ^ length number - number_of number
    magnitude_is =
        let k = leb-true (256 ^ length number) (2 * number_of number) above in
        number_in_front m (length number) (omega (arith, few, e.1))
        ∙ rw (e.0) (le_back (replicate 32 0) (length number) (256 ^ length number - number_of number) few (omega (arith, fits, k)))

    behind_sign : 45 ∷ numeral 16 (number_of (take (length number) m)) ≡ integer_text number
    unfolding integer_text signed_bytes
    behind_sign = rw (magnitude_is, text_high (length number) (number_of number) fits above)

    pub negative_length : 1 + length (numeral 16 (number_of (take (length number) m))) ≡ length (integer_text number)
    negative_length = rw (← behind_sign) (omega arith)

    pub negative_put : (s s' t : List ℕ) (at mid end : ℕ) → TextPut s at (45 ∷ []) s' mid → TextPut s' mid (numeral 16 (number_of (take (length number) m))) t end → TextPut s at (integer_text number) t end
    negative_put s s' t at mid end p q = rw (← behind_sign) (put_both s s' t (45 ∷ []) (numeral 16 (number_of (take (length number) m))) at mid end p q)

  pub not_negative : negative ≡ false → numeral 16 (number_of number) ≡ integer_text number
  unfolding integer_text signed_bytes
  not_negative no_sign = sym (text_low (length number) (number_of number) fits (sym is ∙ no_sign))

-- the text that is put is not longer than a sign and two digits for each byte
pub signed_few : (store : List ℕ) → Bytes store → (from w : ℕ) → 0 < w → length (integer_in 16 (signed w (le_at store from w))) ≤ 1 + 2 * w
signed_few store bs from w some = text_few w (le_at store from w) (le_at_lt store bs from w) some

pub number_few : (number : List ℕ) → Bytes number → 0 < length number → length (integer_text number) ≤ 1 + 2 * length number
unfolding integer_text signed_bytes
number_few number bs some = signed_few number bs 0 (length number) some

-- ---- the call

module _ (x s : List ℕ) where
  pub no_integer : (0 < length x → 32 < length x) → record { answer = Err Setting; text = s } ≡ integer_text_rule x s
  unfolding integer_text_rule integer_width_ok ◌and◌ pick
  no_integer h = by (leb (length x) 0) refl
    where
      by : (b : Bool) → leb (length x) 0 ≡ b → record { answer = Err Setting; text = s } ≡ integer_text_rule x s
      by true e = rw (le-ltb 0 (length x) (leb-true _ _ e))
      by false e = let l = leb-false _ _ e in rw (lt-ltb 0 (length x) l, lt-leb (length x) 32 (h l))

  module _ (some : 0 < length x) (few : length x ≤ 32) where
    the_rule : text_into (integer_text x) s ≡ integer_text_rule x s
    unfolding integer_text_rule integer_width_ok ◌and◌ pick
    the_rule = rw (lt-ltb 0 (length x) some, le-leb (length x) 32 few)

    pub no_text_room : (n : ℕ) → n ≡ length (integer_text x) → room s < n → record { answer = Err (NoOutputRoom n 0); text = s } ≡ integer_text_rule x s
    unfolding text_into pick
    no_text_room n e h = rw (← the_rule, e, lt-leb (length (integer_text x)) (room s) (rw e at h))

    pub text_put : (n : ℕ) → n ≡ length (integer_text x) → n ≤ room s → (t : List ℕ) → t ≡ over s 0 (integer_text x) → record { answer = Ok n; text = t } ≡ integer_text_rule x s
    unfolding text_into pick
    text_put n e h t f = rw (← the_rule, e, f, le-leb (length (integer_text x)) (room s) (rw e at h))
