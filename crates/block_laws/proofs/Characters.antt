-- One character: what the check makes of a number in the form of a first byte and the bytes that follow.
-- Assumes nothing.
use Prim.Native.Nat.{ℕ, zero, suc, ◌+◌, ◌/◌, ◌%◌, ◌^◌, ◌≤◌, ◌<◌}
use mathlib.Core.Path.{◌≡◌, refl, ◌∙◌}
use mathlib.Core.Bool.{Bool, true, false}
use mathlib.Core.List.{List, [], ◌∷◌, ◌++◌}
use mathlib.Core.Logic.{◌↔◌, inl, inr, ⊎_elim}
use native.Mathlib.Omega.{arith}
use borrow.Author.Tests.{lt-ltb, ltb-true, ltb-false}
use lib.Dec.{ltb}
use Rattle.rules.specs.Choice.{pick, ◌and◌}
use Rattle.rules.specs.Utf8.{ScalarValue, mark, following, byte_form, room_of, shortest, encoding, between, begins, lowest, highest, rest_utf8, is_utf8}
use Rattle.rules.proofs.Tests.{and_both, and_true, and_assoc}
use Rattle.block_laws.proofs.FirstBytes.{by_form_lem, by_range, Bounds, by_bounds, between_is, begins_is, announces}

-- ---- scalar values and their shortest forms

-- a scalar value as `omega` reads it: D800 to DFFF are the numbers from 27 * 2048 on, to before 28 * 2048
abbrev pub Plain : ℕ → Type 0
Plain c = (c / 2048 ≡ 27 → ⊥) × (c ≤ 0x10FFFF)

pub scalar_plain : (c : ℕ) → ScalarValue c → Plain c
scalar_plain c = ⊎_elim (λ (h : c < 0xD800). omega arith) (λ (h : (0xE000 ≤ c) × (c ≤ 0x10FFFF)). omega arith)

plain_scalar : (c : ℕ) → Plain c → ScalarValue c
plain_scalar c p = by (ltb c 0xD800) refl
  where
    by : (b : Bool) → ltb c 0xD800 ≡ b → ScalarValue c
    by true e = inl (ltb-true c 0xD800 e)
    by false e = let h = ltb-false c 0xD800 e in inr (omega arith)

-- the least number whose shortest form has n bytes after the first
unfoldable least : ℕ → ℕ
least zero = 0
least (suc zero) = 0x80
least (suc (suc zero)) = 0x800
least (suc (suc (suc n))) = 0x10000

-- a scalar value whose shortest form is that one
abbrev Fair : ℕ → ℕ → Type 0
Fair n c = (least n ≤ c) × Plain c

fair_shortest : (c n : ℕ) → n ≤ 3 → c < room_of n → Fair n c → shortest c ≡ n
unfolding least room_of shortest
fair_shortest c =
    by_form_lem (λ n. c < room_of n → Fair n c → shortest c ≡ n) (
      (λ h f. by_range 0x80 0x800 0x10000 c (λ k. k ≡ 0) (omega arith)),
      (λ h f. by_range 0x80 0x800 0x10000 c (λ k. k ≡ 1) (omega arith)),
      (λ h f. by_range 0x80 0x800 0x10000 c (λ k. k ≡ 2) (omega arith)),
      (λ h f. by_range 0x80 0x800 0x10000 c (λ k. k ≡ 3) (omega arith)),
    )

scalar_fair : (c : ℕ) → ScalarValue c → (shortest c ≤ 3) × (c < room_of (shortest c)) × Fair (shortest c) c
unfolding least room_of shortest
scalar_fair c i = let p = scalar_plain c i in by_range 0x80 0x800 0x10000 c (λ n. (n ≤ 3) × (c < room_of n) × Fair n c) (omega (arith, p))

-- the shortest form of a scalar value has room for it
pub shortest_room : (c : ℕ) → ScalarValue c → (shortest c ≤ 3) × (c < room_of (shortest c))
shortest_room c i = let f = scalar_fair c i in (f.0, f.1)

-- ---- the bytes that the check looks at: the first, and the one after it, if there is one

after : ℕ → ℕ → ℕ → Bool
after b c zero = true
after b c (suc n) = between (lowest b) (highest b) (0x80 + c / 64 ^ n % 64)

accepts : ℕ → ℕ → Bool
accepts n c = begins (mark n + c / 64 ^ n) and after (mark n + c / 64 ^ n) c n

-- bounds matter only within a character
pub between_characters : (low high : ℕ) (s : List ℕ) → rest_utf8 zero low high s ≡ is_utf8 s
unfolding rest_utf8 is_utf8
between_characters low high [] = refl
between_characters low high (b ∷ s) = refl

-- the bytes that follow are taken as such, however many
follows : (n c : ℕ) (s : List ℕ) → rest_utf8 n 0x80 0xBF (following n c ++ s) ≡ is_utf8 s
unfolding rest_utf8 following is_utf8 ◌and◌
follows zero c s = refl
follows (suc n) c s = rw ((between_is 0x80 0xBF (0x80 + c / 64 ^ n % 64)).1 (omega arith)) (follows n c s)

looks : (c n : ℕ) → n ≤ 3 → c < room_of n → (low high : ℕ) (s : List ℕ) → rest_utf8 zero low high (byte_form n c ++ s) ≡ accepts n c and is_utf8 s
unfolding byte_form rest_utf8 accepts after following ◌and◌
looks c n few h low high s = rw (announces c n few h, next (mark n + c / 64 ^ n) n) (and_assoc (begins _) _ _)
  where
    next : (b n : ℕ) → rest_utf8 n (lowest b) (highest b) (following n c ++ s) ≡ after b c n and is_utf8 s
    next b zero = between_characters (lowest b) (highest b) s
    next b (suc n) = rw (follows n c s)

-- ---- they decide

-- a first byte of two and more, and the byte after it, in numbers
abbrev Row : ℕ → ℕ → ℕ → ℕ → Type 0
Row b x low high = ((0xC2 ≤ b) × (b ≤ 0xF4)) × ((low ≤ x) × (x ≤ high))

row : (b x : ℕ) (T : Type 0) → 0x80 ≤ b → Bounds (λ low high. Row b x low high → T) b → Bounds (λ low high. T → Row b x low high) b →
    (begins b and between (lowest b) (highest b) x ≡ true) ↔ T
row b x T h all some =
    let first = begins_is b h in
    let next = between_is (lowest b) (highest b) x in (
      (λ e. let p = and_both _ _ e in by_bounds (λ low high. Row b x low high → T) b all (first.0 p.0, next.0 p.1)),
      (λ t. let p = by_bounds (λ low high. T → Row b x low high) b some t in and_true _ _ (first.1 p.0) (next.1 p.1)),
    )

accepts_fair : (c n : ℕ) → n ≤ 3 → c < room_of n → (accepts n c ≡ true) ↔ Fair n c
unfolding accepts after mark room_of least begins pick ◌and◌
accepts_fair c =
    by_form_lem (λ n. c < room_of n → (accepts n c ≡ true) ↔ Fair n c) (
      (λ h. ((λ e. omega arith), (λ f. rw (lt-ltb (0 + c / 1) 0x80 (omega arith))))),
      (λ h. row (0xC0 + c / 64) (0x80 + c / 1 % 64) (Fair 1 c) (omega arith) (omega arith) (omega arith)),
      (λ h. row (0xE0 + c / 4096) (0x80 + c / 64 % 64) (Fair 2 c) (omega arith) (omega arith) (omega arith)),
      (λ h. row (0xF0 + c / 262144) (0x80 + c / 4096 % 64) (Fair 3 c) (omega arith) (omega arith) (omega arith)),
    )

-- a number in a form is taken only if it is a scalar value and the form its shortest
pub only_shortest : (c n : ℕ) → n ≤ 3 → c < room_of n → (low high : ℕ) (s : List ℕ) → rest_utf8 zero low high (byte_form n c ++ s) ≡ true →
    ScalarValue c × (shortest c ≡ n) × (is_utf8 s ≡ true)
only_shortest c n few h low high s e =
    let p = and_both _ _ (rw (looks c n few h low high s) at e) in
    let f = (accepts_fair c n few h).0 p.0 in
    (plain_scalar c f.1, fair_shortest c n few h f, p.1)

-- and then it is
pub taken : (c : ℕ) → ScalarValue c → (low high : ℕ) (s : List ℕ) → rest_utf8 zero low high (encoding c ++ s) ≡ is_utf8 s
unfolding encoding ◌and◌
taken c i low high s =
    let (few, room, f) = scalar_fair c i in
    looks c (shortest c) few room low high s ∙ rw ((accepts_fair c (shortest c) few room).1 f)
