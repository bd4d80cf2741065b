-- Laws of numbers in bytes, over the width: a number is two parts, the low bytes and those above them, each of any width.
-- Assumes nothing.
use Prim.Native.Nat.{ℕ, zero, suc, ◌+◌, ◌-◌, ◌*◌, ◌/◌, ◌%◌, ◌^◌, ◌≤◌, ◌<◌}
use mathlib.Core.Path.{◌≡◌, refl, sym, ap, ◌∙◌}
use mathlib.Core.List.{List, ◌∷◌, ◌++◌}
use native.Mathlib.Omega.{arith}
use native.Mathlib.Nat.{le_of_suc-le-suc, not-suc-le-zero, mul_assoc, div-div-eq-div-mul, pow-succ', add-zero}
use lib.ListN.{get_or}
use Rattle.rules.specs.Bytes.{Bytes, le, le_at, over}
use Rattle.rules.proofs.Over.{over-at}
use Rattle.rules.proofs.Stands.{length-le}

one≤ : (n : ℕ) → 0 < 256 ^ n
one≤ zero = omega arith
one≤ (suc n) = omega (arith, one≤ n)

-- w bytes hold less than 256 ^ n, where w is at most n
pub le-within : (s : List ℕ) → Bytes s → (at w n : ℕ) → w ≤ n → le_at s at w < 256 ^ n
unfolding le_at
le-within s h at zero n p = one≤ n
le-within s h at (suc w) zero p = absurd (not-suc-le-zero p)
le-within s h at (suc w) (suc n) p = omega (arith, h at, le-within s h (at + 1) w n (le_of_suc-le-suc p))

-- one byte is its own number
pub le_one : (s : List ℕ) (at : ℕ) → le_at s at 1 ≡ get_or s at 0
unfolding le_at
le_one s at = omega arith

pub byte : (s : List ℕ) (at b : ℕ) → b ≡ get_or s at 0 → b ≡ le_at s at 1
byte s at b e = e ∙ sym (le_one s at)

-- w bytes and v above them, read
le_parts : (s : List ℕ) (w v at : ℕ) → le_at s at (w + v) ≡ le_at s at w + 256 ^ w * le_at s (at + w) v
unfolding le_at
le_parts s zero v at =
    let e : zero + v ≡ v = omega arith in
    rw (e, add-zero) (omega arith)
le_parts s (suc w) v at =
    let e : suc w + v ≡ suc (w + v) = omega arith in
    let f : at + suc w ≡ (at + 1) + w = omega arith in
    rw (e, f, le_parts s w v (at + 1), pow-succ' 256 w, mul_assoc 256 (256 ^ w)) (omega arith)

-- The one law of the readers: where w bytes are read, and v from the position after them, this is the number in all.
module _ (s : List ℕ) (at next w v low high : ℕ) (l : low ≡ le_at s at w) (h : high ≡ le_at s next v) (e : next ≡ at + w) where
  pub read_parts : low + 256 ^ w * high ≡ le_at s at (w + v)
  read_parts = rw (l, h, e) (sym (le_parts s w v at))

  -- and up to eight bytes it fits
  pub parts_fit : Bytes s → w + v ≤ 8 → low + 256 ^ w * high < 256 ^ 8
  parts_fit bs b = rw read_parts (le-within s bs at (w + v) 8 b)

-- w bytes and v above them, written
le-append : (w v x : ℕ) → le (w + v) x ≡ le w x ++ le v (x / 256 ^ w)
unfolding le
le-append zero v x =
    let e : zero + v ≡ v = omega arith in
    let f : x / 256 ^ zero ≡ x = omega arith in
    rw (e, f)
le-append (suc w) v x =
    let e : suc w + v ≡ suc (w + v) = omega arith in
    rw (e, pow-succ' 256 w, ← div-div-eq-div-mul x 256 (256 ^ w)) (ap (λ (ys : List ℕ). x % 256 ∷ ys) (le-append w v (x / 256)))

-- The one law of the writers: where one part is written, and then the other after it, so is the number in both.
pub write_parts : (s s' s'' : List ℕ) (at w v x : ℕ) → s' ≡ over s at (le w x) → s'' ≡ over s' (at + w) (le v (x / 256 ^ w)) → s'' ≡ over s at (le (w + v) x)
write_parts s s' s'' at w v x p q =
    rw (q, p, le-append w v x) (over-at (le w x) (le v (x / 256 ^ w)) s at (at + w) (ap (λ (n : ℕ). at + n) (sym (length-le w x))))

-- ---- a loop over the bytes, from the highest down: what is read so far, before the first turn, at each turn, at the end

pub le-none : (s : List ℕ) (at w : ℕ) → 0 ≡ le_at s (at + w) (w - w)
unfolding le_at
le-none s at w = let e : w - w ≡ 0 = omega arith in rw e

pub le-all : (s : List ℕ) (at w k : ℕ) → k ≤ 0 → le_at s (at + k) (w - k) ≡ le_at s at w
le-all s at w k h =
    let p : at + k ≡ at = omega arith in
    let q : w - k ≡ w = omega arith in
    rw (p, q)

pub le_step : (s : List ℕ) (at w k : ℕ) → 0 < k → k ≤ w → le_at s (at + k) (w - k) * 256 + get_or s (at + (k - 1)) 0 ≡ le_at s (at + (k - 1)) (w - (k - 1))
le_step s at w k h l =
    let p : w - (k - 1) ≡ 1 + (w - k) = omega arith in
    let whole = read_parts s (at + (k - 1)) (at + k) 1 (w - k) _ _ (byte s (at + (k - 1)) _ refl) refl (omega arith) in
    rw (p, ← whole) (omega arith)
