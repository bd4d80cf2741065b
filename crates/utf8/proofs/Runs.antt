-- Runs of ASCII: as a test and as a fact of each byte, and the runs that a walk by eights finds.
-- Assumes nothing.
use Prim.Native.Nat.{ℕ, ◌+◌, ◌-◌, ◌≤◌, ◌<◌}
use mathlib.Core.Path.{◌≡◌, refl, sym, ap, ◌∙◌}
use mathlib.Core.Bool.{Bool, true, false}
use mathlib.Core.List.{List}
use native.Mathlib.Omega.{arith}
use native.Mathlib.Decide.{dec_lt}
use borrow.Author.Tests.{ltb-true, lt-ltb, le-ltb, eqb-true, eqb-false}
use lib.Bits.{bit_and}
use lib.Dec.{eqb}
use lib.ListN.{length, get_or}
use Rattle.std.specs.Bool.{Decides}
use Rattle.rules.specs.Choice.{all}
use Rattle.rules.specs.Bytes.{le_at, Bytes}
use Rattle.rules.proofs.Tests.{all_each, all_true, all_false, false_not}
use Rattle.utf8.specs.Ascii.{ascii_at}
use Rattle.utf8.proofs.Words.{high_bits, none_high, high_none}

module _ (s : List ℕ) where
  pub ascii_each : (at n : ℕ) → ascii_at s at n ≡ true → (k : ℕ) → k < n → get_or s (at + k) 0 < 0x80
  unfolding ascii_at
  ascii_each at n e k h = ltb-true _ _ (all_each _ n k e h)

  pub each_ascii : (at n : ℕ) → ((k : ℕ) → k < n → get_or s (at + k) 0 < 0x80) → ascii_at s at n ≡ true
  unfolding ascii_at
  each_ascii at n h = all_true _ n (λ k l. lt-ltb _ _ (h k l))

  pub not_ascii : (at n k : ℕ) → k < n → 0x80 ≤ get_or s (at + k) 0 → ascii_at s at n ≡ false
  unfolding ascii_at
  not_ascii at n k h b = all_false _ n k (le-ltb _ _ b) h

  -- a run inside another
  inside : (at n from m : ℕ) → at ≤ from → from + m ≤ at + n → ascii_at s at n ≡ true → ascii_at s from m ≡ true
  inside at n from m a b e = each_ascii from m (λ k l.
      let z : from + k ≡ at + (from + k - at) = omega arith in
      rw z (ascii_each at n e (from + k - at) (omega arith)))

  pub outside : (at n from m : ℕ) → at ≤ from → from + m ≤ at + n → ascii_at s from m ≡ false → ascii_at s at n ≡ false
  outside at n from m a b e = by (ascii_at s at n) refl
    where
      by : (x : Bool) → ascii_at s at n ≡ x → x ≡ false
      by false p = refl
      by true p = false_not (sym e ∙ inside at n from m a b p)

  -- two runs that meet, or of which one begins within the other
  pub joined : (at n from m : ℕ) → at ≤ from → from ≤ at + n → ascii_at s at n ≡ true → ascii_at s from m ≡ true → ascii_at s at ((from - at) + m) ≡ true
  joined at n from m a b e f = each_ascii at _ (λ k l. by k l (dec_lt k n))
    where
      by : (k : ℕ) → k < (from - at) + m → Dec (k < n) → get_or s (at + k) 0 < 0x80
      by k l (yes h) = ascii_each at n e k h
      by k l (no h) =
          let z : at + k ≡ from + (at + k - from) = omega arith in
          rw z (ascii_each from m f (at + k - from) (omega arith))

  -- all of a slice, byte by byte
  pub all_ascii : (r : Bool) → Decides r ((k : ℕ) → k < length s → get_or s k 0 < 0x80) → r ≡ ascii_at s 0 (length s)
  all_ascii r d = by r (ascii_at s 0 (length s)) refl refl
    where
      each : ascii_at s 0 (length s) ≡ true → (k : ℕ) → k < length s → get_or s k 0 < 0x80
      each e k h = let z : 0 + k ≡ k = omega arith in rw z at (ascii_each 0 (length s) e k h)

      by : (x y : Bool) → r ≡ x → ascii_at s 0 (length s) ≡ y → x ≡ y
      by false false p q = refl
      by true true p q = refl
      by false true p q = sym p ∙ d.1 (each q)
      by true false p q = sym (sym q ∙ each_ascii 0 (length s) (λ k h. let z : 0 + k ≡ k = omega arith in rw z (d.0 p k h)))

  pub nothing : (at n : ℕ) → n ≡ 0 → ascii_at s at n ≡ true
  unfolding ascii_at all
  nothing at n e = rw e

  -- eight more
  pub next : (at i : ℕ) → at ≤ i → ascii_at s at (i - at) ≡ true → ascii_at s i 8 ≡ true → ascii_at s at (i + 8 - at) ≡ true
  next at i h e f = let z : i + 8 - at ≡ (i - at) + 8 = omega arith in rw z (joined at (i - at) i 8 h (omega arith) e f)

  -- the last eight of n, where all before r are ASCII and fewer than eight are left from there on
  pub last_eight : (n : ℕ) → 8 ≤ n → (r : ℕ) → r ≤ n → n - r < 8 → ascii_at s 0 (r - 0) ≡ true → (x : Bool) → x ≡ ascii_at s (n - 8) 8 → x ≡ ascii_at s 0 n
  last_eight n h r a b e x f = by x refl
    where
      by : (y : Bool) → x ≡ y → x ≡ ascii_at s 0 n
      by false p = p ∙ sym (outside 0 n (n - 8) 8 (omega arith) (omega arith) (sym f ∙ p))
      by true p =
          let z : n ≡ ((n - 8) - 0) + 8 = omega arith in
          p ∙ sym (ap (λ (m : ℕ). ascii_at s 0 m) z ∙ joined 0 (r - 0) (n - 8) 8 (omega arith) (omega arith) e (sym f ∙ p))

  -- no high bit in a word
  pub word_ascii : Bytes s → (at w : ℕ) → eqb (bit_and (le_at s at w) (high_bits w)) 0 ≡ ascii_at s at w
  word_ascii bytes at w = by (eqb (bit_and (le_at s at w) (high_bits w)) 0) refl
    where
      by : (x : Bool) → eqb (bit_and (le_at s at w) (high_bits w)) 0 ≡ x → x ≡ ascii_at s at w
      by true e = sym (each_ascii at w (none_high s bytes w at (eqb-true _ _ e)))
      by false e = from (ascii_at s at w) refl
        where
          from : (y : Bool) → ascii_at s at w ≡ y → false ≡ y
          from false p = refl
          from true p = absurd (eqb-false _ _ e (high_none s bytes w at (ascii_each at w p)))
