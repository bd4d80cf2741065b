-- Digits, and numbers in a base.
-- Assumes nothing.
use Prim.Native.Nat.{ℕ, zero, suc, ◌+◌, ◌*◌, ◌/◌, ◌%◌, ◌^◌, ◌≤◌, ◌<◌}
use mathlib.Core.Path.{◌≡◌, refl, sym, ap, ◌∙◌}
use mathlib.Core.Bool.{Bool, true, false}
use mathlib.Core.List.{List, [], ◌∷◌, ◌++◌}
use native.Mathlib.Omega.{arith}
use native.Mathlib.Nat.{div-lt_self, div-add-mod, div-lt_iff_lt-mul, le-div_iff_mul-le, one-mul, pow-zero, pow-suc}
use borrow.Author.Tests.{lt-ltb, le-ltb, ltb-true, ltb-false}
use lib.Dec.{ltb}
use lib.ListN.{length, get_or, length-append}
use Rattle.rules.specs.Choice.{pick}
use Rattle.rules.specs.Numerals.{digit, digits_if, digits, numeral}

-- ---- a digit

pub digit_low : (d : ℕ) → d < 10 → digit d ≡ 48 + d
unfolding digit pick
digit_low d h = rw (lt-ltb d 10 h)

digit_high : (d : ℕ) → 10 ≤ d → digit d ≡ 87 + d
unfolding digit pick
digit_high d h = rw (le-ltb d 10 h)

-- it is not before `0`, nor `0` unless its number is
pub digit_least : (d : ℕ) → 48 + d ≤ digit d
digit_least d = by (ltb d 10) refl
  where
    by : (b : Bool) → ltb d 10 ≡ b → 48 + d ≤ digit d
    by true e = omega (arith, digit_low d (ltb-true d 10 e))
    by false e = omega (arith, digit_high d (ltb-false d 10 e))

-- two numbers of one digit are equal
pub digit_determines : (d e : ℕ) → digit d ≡ digit e → d ≡ e
digit_determines d e h = by (ltb d 10) (ltb e 10) refl refl
  where
    by : (b c : Bool) → ltb d 10 ≡ b → ltb e 10 ≡ c → d ≡ e
    by true true x y = omega (arith, h, digit_low d (ltb-true d 10 x), digit_low e (ltb-true e 10 y))
    by true false x y = absurd (omega (arith, h, ltb-true d 10 x, ltb-false e 10 y, digit_low d (ltb-true d 10 x), digit_high e (ltb-false e 10 y)))
    by false true x y = absurd (omega (arith, h, ltb-false d 10 x, ltb-true e 10 y, digit_high d (ltb-false d 10 x), digit_low e (ltb-true e 10 y)))
    by false false x y = omega (arith, h, digit_high d (ltb-false d 10 x), digit_high e (ltb-false e 10 y))

-- ---- the last of a list, and the first

first_of : (xs : List ℕ) (y : ℕ) → 0 < length xs → get_or (xs ++ (y ∷ [])) 0 0 ≡ get_or xs 0 0
first_of [] y h = absurd (omega arith)
first_of (x ∷ xs) y h = refl

pub same_head : {x y : ℕ} {xs ys : List ℕ} → x ∷ xs ≡ y ∷ ys → x ≡ y
same_head {x} {y} {xs} {ys} e = ap (λ (l : List ℕ). get_or l 0 0) e

unfoldable pub tail : List ℕ → List ℕ
tail [] = []
tail (x ∷ xs) = xs

pub same_tail : {x y : ℕ} {xs ys : List ℕ} → x ∷ xs ≡ y ∷ ys → xs ≡ ys
unfolding tail
same_tail {x} {y} {xs} {ys} e = ap tail e

-- what ends in one element more is the same where both parts are
same_snoc : (xs ys : List ℕ) (x y : ℕ) → xs ++ (x ∷ []) ≡ ys ++ (y ∷ []) → (xs ≡ ys) × (x ≡ y)
same_snoc [] [] x y e = (refl, same_head e)
same_snoc [] (b ∷ ys) x y e = absurd (let l = ap length e in omega (arith, l, length-append ys (y ∷ [])))
same_snoc (a ∷ xs) [] x y e = absurd (let l = ap length e in omega (arith, l, length-append xs (x ∷ [])))
same_snoc (a ∷ xs) (b ∷ ys) x y e =
    let r = same_snoc xs ys x y (same_tail e) in
    (rw (same_head e, r.0), r.1)

-- ---- a number in a base

module _ (base : ℕ) (more : 1 < base) where
  less : (n : ℕ) → base ≤ n → n / base < n
  less n h = div-lt_self (omega (arith, more, h)) more

  -- enough is enough
  digits_enough : (k m n : ℕ) → n < k → n < m → digits base k n ≡ digits base m n
  unfolding digits digits_if
  digits_enough zero m n h l = absurd (omega arith)
  digits_enough (suc k) zero n h l = absurd (omega arith)
  digits_enough (suc k) (suc m) n h l = by (ltb n base) refl (λ g. digits_enough k m (n / base) (omega (arith, h, less n g)) (omega (arith, l, less n g)))
    where
      by : (b : Bool) → ltb n base ≡ b → (base ≤ n → digits base k (n / base) ≡ digits base m (n / base)) →
          digits_if b (digits base k) base n ≡ digits_if b (digits base m) base n
      by true e i = refl
      by false e i = rw (i (ltb-false _ _ e))

  pub numeral_small : (n : ℕ) → n < base → numeral base n ≡ digit n ∷ []
  unfolding numeral digits digits_if
  numeral_small n h = rw (lt-ltb n base h)

  pub numeral_more : (n : ℕ) → base ≤ n → numeral base n ≡ numeral base (n / base) ++ (digit (n % base) ∷ [])
  unfolding numeral digits digits_if
  numeral_more n h = rw (le-ltb n base h, digits_enough n (suc (n / base)) (n / base) (less n h) (omega arith))

  pub small_length : (n : ℕ) → n < base → length (numeral base n) ≡ 1
  small_length n h = rw (numeral_small n h)

  pub more_length : (n : ℕ) → base ≤ n → length (numeral base n) ≡ length (numeral base (n / base)) + 1
  more_length n h = rw (numeral_more n h) (length-append (numeral base (n / base)) (digit (n % base) ∷ []))

  -- there is a digit
  pub some_digit : (n : ℕ) → 0 < length (numeral base n)
  some_digit n = by (ltb n base) refl
    where
      by : (b : Bool) → ltb n base ≡ b → 0 < length (numeral base n)
      by true e = omega (arith, small_length n (ltb-true n base e))
      by false e = omega (arith, more_length n (ltb-false n base e))

  -- below the base to the power of k there are at most k
  pub few_digits : (k n : ℕ) → n < base ^ suc k → length (numeral base n) ≤ suc k
  few_digits zero n h = let e : base ^ suc 0 ≡ base = pow-suc base 0 ∙ ap (λ (p : ℕ). p * base) (pow-zero base) ∙ one-mul base in omega (arith, small_length n (rw e at h))
  few_digits (suc k) n h = by (ltb n base) refl (few_digits k (n / base))
    where
      lower : n / base < base ^ suc k
      lower = (div-lt_iff_lt-mul {k = base} {x = n} {y = base ^ suc k} (omega (arith, more))).1 (rw (pow-suc base (suc k)) at h)

      by : (b : Bool) → ltb n base ≡ b → (n / base < base ^ suc k → length (numeral base (n / base)) ≤ suc k) → length (numeral base n) ≤ suc (suc k)
      by true e i = omega (arith, small_length n (ltb-true _ _ e))
      by false e i = omega (arith, i lower, more_length n (ltb-false _ _ e))

  -- two numbers of one text are equal
  determines : (k m n : ℕ) → m < k → numeral base m ≡ numeral base n → m ≡ n
  determines zero m n h e = absurd (omega arith)
  determines (suc k) m n h e = by (ltb m base) (ltb n base) refl refl (determines k (m / base) (n / base))
    where
      by : (b c : Bool) → ltb m base ≡ b → ltb n base ≡ c → (m / base < k → numeral base (m / base) ≡ numeral base (n / base) → m / base ≡ n / base) → m ≡ n
      by true true x y i = digit_determines m n (same_head (sym (numeral_small m (ltb-true _ _ x)) ∙ e ∙ numeral_small n (ltb-true _ _ y)))
      by true false x y i = let l = ap length e in absurd (omega (arith, l, small_length m (ltb-true _ _ x), more_length n (ltb-false _ _ y), some_digit (n / base)))
      by false true x y i = let l = ap length e in absurd (omega (arith, l, small_length n (ltb-true _ _ y), more_length m (ltb-false _ _ x), some_digit (m / base)))
      by false false x y i =
          let both = same_snoc _ _ _ _ (sym (numeral_more m (ltb-false _ _ x)) ∙ e ∙ numeral_more n (ltb-false _ _ y)) in
          let quotient : m / base ≡ n / base = i (omega (arith, h, less m (ltb-false _ _ x))) both.0 in
          let rest : m % base ≡ n % base = digit_determines (m % base) (n % base) both.1 in
          sym (div-add-mod m base) ∙ rw (quotient, rest) (div-add-mod n base)

  pub numeral_determines : (m n : ℕ) → numeral base m ≡ numeral base n → m ≡ n
  numeral_determines m n = determines (suc m) m n (omega arith)

  -- the first digit
  leads : (k n : ℕ) → n < k → 0 < n → 48 < get_or (numeral base n) 0 0
  leads zero n h l = absurd (omega arith)
  leads (suc k) n h l = by (ltb n base) refl (leads k (n / base))
    where
      by : (b : Bool) → ltb n base ≡ b → (n / base < k → 0 < n / base → 48 < get_or (numeral base (n / base)) 0 0) → 48 < get_or (numeral base n) 0 0
      by true e i = rw (numeral_small n (ltb-true _ _ e)) (omega (arith, digit_least n, l))
      by false e i =
          let g : base ≤ n = ltb-false n base e in
          let some : 1 ≤ n / base = (le-div_iff_mul-le {k = base} {x = 1} {y = n} (omega (arith, more))).1 (rw (one-mul base) g) in
          rw (numeral_more n g, first_of (numeral base (n / base)) (digit (n % base)) (some_digit (n / base))) (i (omega (arith, h, less n g)) some)

  pub no_leading_zero : (n : ℕ) → 0 < n → (rest : List ℕ) → numeral base n ≡ 48 ∷ rest → ⊥
  no_leading_zero n h rest e = let l = rw e at (leads (suc n) n (omega arith) h) in omega (arith, l)

  -- no digit is a minus sign
  pub first_least : (n : ℕ) → 48 ≤ get_or (numeral base n) 0 0
  first_least n = by n refl
    where
      by : (i : ℕ) → n ≡ i → 48 ≤ get_or (numeral base n) 0 0
      by zero e = rw (e, numeral_small 0 (omega (arith, more))) (digit_least 0)
      by (suc i) e = let l = leads (suc n) n (omega arith) (omega (arith, e)) in omega (arith, l)

  pub no_sign : (n : ℕ) (rest : List ℕ) → numeral base n ≡ 45 ∷ rest → ⊥
  no_sign n rest e = let l = rw e at (first_least n) in omega (arith, l)
