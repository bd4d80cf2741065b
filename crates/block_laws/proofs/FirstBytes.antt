-- The first byte of a character: which form it announces, and between which bounds the next byte lies.
-- Assumes nothing.
use Prim.Native.Nat.{ℕ, zero, suc, ◌+◌, ◌-◌, ◌/◌, ◌^◌, ◌≤◌, ◌<◌}
use mathlib.Core.Path.{◌≡◌}
use mathlib.Core.Bool.{true}
use mathlib.Core.Logic.{◌↔◌}
use native.Mathlib.Omega.{arith}
use borrow.Author.Tests.{le-ltb, le-leb, ltb-true, ltb-false, leb-true, eqb-true, eqb-false}
use lib.Dec.{ltb, eqb}
use Rattle.rules.specs.Choice.{pick}
use Rattle.rules.specs.Utf8.{mark, room_of, between, begins, awaited, lowest, highest}
use Rattle.rules.proofs.Tests.{either, and_both, and_true}

-- ---- laws by cases. The cases are one tuple, so that one `omega` answers all of them

-- of how many bytes follow: none to three
pub by_form_lem : (P : ℕ → Type 0) → P 0 × P 1 × P 2 × P 3 → (n : ℕ) → n ≤ 3 → P n
by_form_lem P all zero h = all.0
by_form_lem P all (suc zero) h = all.1
by_form_lem P all (suc (suc zero)) h = all.2
by_form_lem P all (suc (suc (suc zero))) h = all.3
by_form_lem P all (suc (suc (suc (suc n)))) h = absurd (omega arith)

-- of the range in which a number lies: so are counted the bytes that a byte awaits, and those of the shortest form
pub by_range : (p q r x : ℕ) (P : ℕ → Type 0) →
    (x < p → P 0) × (p ≤ x → x < q → P 1) × (p ≤ x → q ≤ x → x < r → P 2) × (p ≤ x → q ≤ x → r ≤ x → P 3) →
    P (pick (ltb x p) 0 (pick (ltb x q) 1 (pick (ltb x r) 2 3)))
by_range p q r x P all =
    either P (ltb x p) (λ e. all.0 (ltb-true x p e))
    (λ e. either P (ltb x q) (λ f. all.1 (ltb-false x p e) (ltb-true x q f))
    (λ f. either P (ltb x r) (λ g. all.2 (ltb-false x p e) (ltb-false x q f) (ltb-true x r g))
    (λ g. all.3 (ltb-false x p e) (ltb-false x q f) (ltb-false x r g))))

-- of the bounds of the byte after the first
abbrev pub Bounds : (ℕ → ℕ → Type 0) → ℕ → Type 0
Bounds P b =
    (b ≡ 0xE0 → P 0xA0 0xBF) × (b ≡ 0xF0 → P 0x90 0xBF) × (b ≡ 0xED → P 0x80 0x9F) × (b ≡ 0xF4 → P 0x80 0x8F)
    × ((b ≡ 0xE0 → ⊥) → (b ≡ 0xF0 → ⊥) → (b ≡ 0xED → ⊥) → (b ≡ 0xF4 → ⊥) → P 0x80 0xBF)

pub by_bounds : (P : ℕ → ℕ → Type 0) (b : ℕ) → Bounds P b → P (lowest b) (highest b)
unfolding lowest highest pick
by_bounds P b all =
    either (λ low. P low (highest b)) (eqb b 0xE0) (λ e. let i = eqb-true b 0xE0 e in rw i (all.0 i))
    (λ e. either (λ low. P low (highest b)) (eqb b 0xF0) (λ f. let i = eqb-true b 0xF0 f in rw i (all.1 i))
    (λ f. either (P 0x80) (eqb b 0xED) (λ g. all.2 (eqb-true b 0xED g))
    (λ g. either (P 0x80) (eqb b 0xF4) (λ k. all.3 (eqb-true b 0xF4 k))
    (λ k. all.4 (eqb-false b 0xE0 e) (eqb-false b 0xF0 f) (eqb-false b 0xED g) (eqb-false b 0xF4 k)))))

-- ---- tests as facts

pub between_is : (low high b : ℕ) → (between low high b ≡ true) ↔ ((low ≤ b) × (b ≤ high))
between_is low high b = (
  (λ e. let p = and_both _ _ e in (leb-true low b p.0, leb-true b high p.1)),
  (λ p. and_true _ _ (le-leb low b p.0) (le-leb b high p.1)),
)

-- a byte that begins a character of two and more bytes
pub begins_is : (b : ℕ) → 0x80 ≤ b → (begins b ≡ true) ↔ ((0xC2 ≤ b) × (b ≤ 0xF4))
unfolding begins pick
begins_is b h = rw (le-ltb b 0x80 h) (between_is 0xC2 0xF4 b)

-- ---- what a first byte says

-- how many bytes follow can be read off it
pub announces : (c n : ℕ) → n ≤ 3 → c < room_of n → awaited (mark n + c / 64 ^ n) ≡ n
unfolding awaited mark room_of
announces c =
    by_form_lem (λ n. c < room_of n → awaited (mark n + c / 64 ^ n) ≡ n) (
      (λ h. by_range 0x80 0xE0 0xF0 (0 + c / 1) (λ k. k ≡ 0) (omega arith)),
      (λ h. by_range 0x80 0xE0 0xF0 (0xC0 + c / 64) (λ k. k ≡ 1) (omega arith)),
      (λ h. by_range 0x80 0xE0 0xF0 (0xE0 + c / 4096) (λ k. k ≡ 2) (omega arith)),
      (λ h. by_range 0x80 0xE0 0xF0 (0xF0 + c / 262144) (λ k. k ≡ 3) (omega arith)),
    )

-- one that begins a character is the mark of its form and more, and the form has room for what goes on from there
pub first_says : (b : ℕ) → begins b ≡ true →
    (awaited b ≤ 3) × (mark (awaited b) ≤ b) × ((c : ℕ) → c / 64 ^ awaited b ≡ b - mark (awaited b) → c < room_of (awaited b))
unfolding awaited mark room_of
first_says b e =
    by_range 0x80 0xE0 0xF0 b (λ n. (n ≤ 3) × (mark n ≤ b) × ((c : ℕ) → c / 64 ^ n ≡ b - mark n → c < room_of n))
    (omega arith, (λ h. let i = (begins_is b h).0 e in omega arith), omega arith, (λ h. let i = (begins_is b h).0 e in omega arith))

-- the bounds that it sets are those of any byte that follows, or narrower
pub bounds_within : (b : ℕ) → (0x80 ≤ lowest b) × (highest b ≤ 0xBF)
bounds_within b = by_bounds (λ low high. (0x80 ≤ low) × (high ≤ 0xBF)) b (omega arith)

-- the first byte of a form of two to four bytes is above them
pub mark_above : (n : ℕ) → 0 < n → 0xC0 ≤ mark n
unfolding mark
mark_above zero h = absurd (omega arith)
mark_above (suc zero) h = omega arith
mark_above (suc (suc zero)) h = omega arith
mark_above (suc (suc (suc n))) h = omega arith
