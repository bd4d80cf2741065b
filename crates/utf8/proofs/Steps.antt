-- The check of UTF-8 over the parts of a slice: over ASCII, over a character, at a cut.
-- Assumes nothing.
use Prim.Native.Nat.{ℕ, zero, suc, ◌+◌, ◌-◌, ◌≤◌, ◌<◌}
use mathlib.Core.Path.{◌≡◌, refl, sym, ap, ◌∙◌}
use mathlib.Core.Bool.{Bool, true, false}
use mathlib.Core.List.{List}
use native.Mathlib.Omega.{arith}
use borrow.Author.Tests.{lt-ltb, ltb-true, ltb-false}
use lib.Dec.{ltb}
use lib.ListN.{get_or}
use Rattle.rules.specs.Choice.{pick, ◌and◌}
use Rattle.rules.specs.Bytes.{part}
use Rattle.rules.specs.Utf8.{between, begins, awaited, lowest, highest, rest_utf8, is_utf8}
use Rattle.rules.proofs.Tests.{and_both, and_false, and_all, and_assoc}
use Rattle.block_laws.proofs.FirstBytes.{by_range, by_bounds, begins_is}
use Rattle.block_laws.proofs.Characters.{between_characters}
use Rattle.block_laws.proofs.Ascii.{ascii_before}
use Rattle.utf8.specs.Ascii.{ascii_at}
use Rattle.utf8.specs.Characters.{Character}
use Rattle.utf8.proofs.Runs.{ascii_each}

module _ (s : List ℕ) where
  -- a first byte, and what it awaits
  first : (at n : ℕ) → is_utf8 (part s at (suc n)) ≡ begins (get_or s at 0) and rest_utf8 (awaited (get_or s at 0)) (lowest (get_or s at 0)) (highest (get_or s at 0)) (part s (at + 1) n)
  unfolding is_utf8 rest_utf8 part
  first at n = refl

  pub over-ascii : (at n m : ℕ) → ascii_at s at n ≡ true → is_utf8 (part s at (n + m)) ≡ is_utf8 (part s (at + n) m)
  unfolding part
  over-ascii at n m e = go at n (ascii_each s at n e)
    where
      go : (at n : ℕ) → ((k : ℕ) → k < n → get_or s (at + k) 0 < 0x80) → is_utf8 (part s at (n + m)) ≡ is_utf8 (part s (at + n) m)
      go at zero h =
          let z : 0 + m ≡ m = omega arith in
          let y : at + 0 ≡ at = omega arith in
          rw (z, y)
      go at (suc n) h =
          let z : suc n + m ≡ suc (n + m) = omega arith in
          let y : at + suc n ≡ (at + 1) + n = omega arith in
          let x : at + 0 ≡ at = omega arith in
          rw (z, y) (ascii_before (get_or s at 0) _ (rw x at (h 0 (omega arith))) ∙ go (at + 1) n (λ k l. let e : (at + 1) + k ≡ at + suc k = omega arith in rw e (h (suc k) (omega arith))))

  -- the bytes that a character awaits, and what comes after it
  after : (n at m low high : ℕ) → rest_utf8 n low high (part s at (n + m)) ≡ rest_utf8 n low high (part s at n) and is_utf8 (part s (at + n) m)
  unfolding rest_utf8 part ◌and◌
  after zero at m low high =
      let z : 0 + m ≡ m = omega arith in
      let y : at + 0 ≡ at = omega arith in
      rw (z, y) (between_characters low high (part s at m))
  after (suc n) at m low high =
      let z : suc n + m ≡ suc (n + m) = omega arith in
      let y : at + suc n ≡ (at + 1) + n = omega arith in
      rw (z, y) (ap (λ (x : Bool). between low high (get_or s at 0) and x) (after n (at + 1) m 0x80 0xBF) ∙ and_assoc (between low high (get_or s at 0)) (rest_utf8 n 0x80 0xBF (part s (at + 1) n)) (is_utf8 (part s ((at + 1) + n) m)))

  -- fewer bytes than it awaits
  cut : (n at m low high : ℕ) → m < n → rest_utf8 n low high (part s at m) ≡ false
  unfolding rest_utf8 part
  cut zero at m low high h = absurd (omega arith)
  cut (suc n) at zero low high h = refl
  cut (suc n) at (suc m) low high h = rw (cut n (at + 1) m 0x80 0xBF (omega arith)) (and_false _)

  -- the character at the start of the span from `at` to `end`, by its first byte
  module _ (at end : ℕ) (h : at < end) (b : ℕ) (is : b ≡ get_or s at 0) where
    begun : is_utf8 (part s at (end - at)) ≡ begins b and rest_utf8 (awaited b) (lowest b) (highest b) (part s (at + 1) (end - (at + 1)))
    begun = let z : end - at ≡ suc (end - (at + 1)) = omega arith in rw (z, is) (first at (end - (at + 1)))

    pub begins_none : begins b ≡ false → Character s at end 0
    unfolding ◌and◌
    begins_none e = record { none = λ z. begun ∙ rw e; within = omega arith; rest = λ l. absurd (omega arith) }

    pub one_byte : b < 0x80 → Character s at end 1
    unfolding begins awaited pick ◌and◌
    one_byte l = record {
      none = λ z. absurd (omega arith);
      within = omega arith;
      rest = λ m. begun ∙ rw (lt-ltb b 0x80 l) (between_characters _ _ _);
    }

    -- n bytes follow, and whether they are there and good was tested
    module _ (g : begins b ≡ true) (n low high : ℕ) (e : n ≡ awaited b) (p : low ≡ lowest b) (q : high ≡ highest b) (x : Bool) (f : x ≡ ltb n (end - at) and rest_utf8 n low high (part s (at + 1) n)) where
      here : ltb n (end - at) ≡ true → is_utf8 (part s at (end - at)) ≡ rest_utf8 n low high (part s (at + 1) n) and is_utf8 (part s ((at + 1) + n) (end - ((at + 1) + n)))
      unfolding ◌and◌
      here l =
          let k = ltb-true n (end - at) l in
          let z : end - (at + 1) ≡ n + (end - ((at + 1) + n)) = omega arith in
          begun ∙ rw (g, ← e, ← p, ← q, z) (after n (at + 1) (end - ((at + 1) + n)) low high)

      not_here : ltb n (end - at) ≡ false → is_utf8 (part s at (end - at)) ≡ false
      unfolding ◌and◌
      not_here l =
          let k = ltb-false n (end - at) l in
          begun ∙ rw (g, ← e, ← p, ← q) (cut n (at + 1) (end - (at + 1)) low high (omega arith))

      pub bytes_off : x ≡ false → Character s at end 0
      unfolding ◌and◌
      bytes_off z = record { none = λ y. by (ltb n (end - at)) refl; within = omega arith; rest = λ l. absurd (omega arith) }
        where
          by : (t : Bool) → ltb n (end - at) ≡ t → is_utf8 (part s at (end - at)) ≡ false
          by false l = not_here l
          by true l = let r = rw l at (sym f ∙ z) in here l ∙ rw r

      pub bytes_on : x ≡ true → Character s at end (n + 1)
      unfolding ◌and◌
      bytes_on z =
          let r = and_both _ _ (sym f ∙ z) in
          let k = ltb-true n (end - at) r.0 in
          let y : at + (n + 1) ≡ (at + 1) + n = omega arith in
          record { none = λ w. absurd (omega arith); within = omega arith; rest = λ w. rw y (here r.0 ∙ rw r.1) }

  -- before the first turn, and after the last
  pub from_eights : (start len r : ℕ) → start ≤ r → r ≤ start + len → ascii_at s start (r - start) ≡ true → is_utf8 (part s r ((start + len) - r)) ≡ is_utf8 (part s start len)
  from_eights start len r a b e =
      let z : len ≡ (r - start) + ((start + len) - r) = omega arith in
      let y : r ≡ start + (r - start) = omega arith in
      sym (ap (λ (n : ℕ). is_utf8 (part s start n)) z ∙ (over-ascii start (r - start) ((start + len) - r) e ∙ ap (λ (n : ℕ). is_utf8 (part s n ((start + len) - r))) (sym y)))

  pub ended : (at end : ℕ) → end ≤ at → true ≡ is_utf8 (part s at (end - at))
  unfolding is_utf8 rest_utf8 part
  ended at end h = let z : end - at ≡ 0 = omega arith in rw z

  -- a turn over the bytes that follow a first one
  module _ (at n low high : ℕ) (x : Bool) (is : x ≡ between low high (get_or s at 0)) where
    pub follows_off : 0 < n → x ≡ false → rest_utf8 n low high (part s at n) ≡ false
    unfolding rest_utf8 part ◌and◌
    follows_off h e = let z : n ≡ suc (n - 1) = omega arith in rw (z, ← is, e)

    pub follows_on : 0 < n → x ≡ true → rest_utf8 n low high (part s at n) ≡ rest_utf8 (n - 1) 0x80 0xBF (part s (at + 1) (n - 1))
    unfolding rest_utf8 part ◌and◌
    follows_on h e = on n (n - 1) (omega arith)
      where
        on : (n k : ℕ) → n ≡ suc k → rest_utf8 n low high (part s at n) ≡ rest_utf8 k 0x80 0xBF (part s (at + 1) k)
        on n k z = rw (z, ← is, e)

    pub follows_last : n ≡ 1 → rest_utf8 n low high (part s at n) ≡ x
    unfolding rest_utf8 part
    follows_last e = rw (e, ← is) (and_all x)

-- ---- first bytes by their ranges
pub begins_in : (b : ℕ) → 0xC2 ≤ b → b < 0xF5 → begins b ≡ true
begins_in b l h = (begins_is b (omega arith)).1 (l, omega arith)

pub begins_nothing : (b : ℕ) → 0x80 ≤ b → ((0xC2 ≤ b) × (b ≤ 0xF4) → ⊥) → begins b ≡ false
begins_nothing b l h = by (begins b) refl
  where
    by : (x : Bool) → begins b ≡ x → x ≡ false
    by false e = refl
    by true e = absurd (h ((begins_is b l).0 e))

pub awaits_one : (b : ℕ) → 0x80 ≤ b → b < 0xE0 → 1 ≡ awaited b
unfolding awaited
awaits_one b l h = by_range 0x80 0xE0 0xF0 b (λ k. 1 ≡ k) (omega arith)

pub awaits_two : (b : ℕ) → 0xE0 ≤ b → b < 0xF0 → 2 ≡ awaited b
unfolding awaited
awaits_two b l h = by_range 0x80 0xE0 0xF0 b (λ k. 2 ≡ k) (omega arith)

pub awaits_three : (b : ℕ) → 0xF0 ≤ b → 3 ≡ awaited b
unfolding awaited
awaits_three b l = by_range 0x80 0xE0 0xF0 b (λ k. 3 ≡ k) (omega arith)

pub plain_bounds : (b : ℕ) → b < 0xE0 → (0x80 ≡ lowest b) × (0xBF ≡ highest b)
plain_bounds b h = by_bounds (λ low high. (0x80 ≡ low) × (0xBF ≡ high)) b (omega arith)
