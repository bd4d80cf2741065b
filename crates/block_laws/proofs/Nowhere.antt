-- What stands nowhere in a good string: a form that is too long, one of a surrogate, one of a number above the last scalar value.
-- Assumes nothing.
use Prim.Native.Nat.{ℕ, zero, suc, ◌+◌, ◌/◌, ◌^◌, ◌≤◌, ◌<◌}
use mathlib.Core.Path.{◌≡◌}
use mathlib.Core.Bool.{true}
use mathlib.Core.List.{List, [], ◌∷◌, ◌++◌}
use native.Mathlib.Omega.{arith}
use Rattle.rules.specs.Utf8.{ScalarValue, mark, byte_form, room_of, shortest, Utf8, awaited, lowest, highest, rest_utf8, is_utf8}
use Rattle.rules.proofs.Tests.{and_both}
use Rattle.block_laws.proofs.FirstBytes.{between_is, bounds_within, mark_above}
use Rattle.block_laws.proofs.Characters.{scalar_plain, only_shortest}
use Rattle.block_laws.proofs.Utf8.{utf8_exactly}

module _ (n c : ℕ) (some : 0 < n) (few : n ≤ 3) (room : c < room_of n) (ys : List ℕ) where
  -- the first byte of a form follows no other byte of a character, so a character begins there
  wherever : (xs : List ℕ) (k low high : ℕ) → high ≤ 0xBF → rest_utf8 k low high (xs ++ (byte_form n c ++ ys)) ≡ true → ScalarValue c × (shortest c ≡ n)
  unfolding rest_utf8 byte_form
  wherever [] zero low high h e = let r = only_shortest c n few room low high ys e in (r.0, r.1)
  wherever [] (suc k) low high h e =
      let i = (between_is low high (mark n + c / 64 ^ n)).0 (and_both _ _ e).0 in
      absurd (omega (arith, h, i, mark_above n some))
  wherever (x ∷ xs) zero low high h e = wherever xs (awaited x) (lowest x) (highest x) (bounds_within x).1 (and_both _ _ e).1
  wherever (x ∷ xs) (suc k) low high h e = wherever xs k 0x80 0xBF (omega arith) (and_both _ _ e).1

-- wherever a form of two to four bytes stands, it is the shortest of a scalar value
pub only_scalars : (xs ys : List ℕ) (n c : ℕ) → 0 < n → n ≤ 3 → c < room_of n → Utf8 (xs ++ (byte_form n c ++ ys)) → ScalarValue c × (shortest c ≡ n)
unfolding is_utf8
only_scalars xs ys n c some few room u = wherever n c some few room ys xs 0 0x80 0xBF (omega arith) ((utf8_exactly (xs ++ (byte_form n c ++ ys))).1 u)

pub no_overlong : (xs ys : List ℕ) (n c : ℕ) → 0 < n → n ≤ 3 → c < room_of n → shortest c < n → Utf8 (xs ++ (byte_form n c ++ ys)) → ⊥
no_overlong xs ys n c some few room h u = let r = only_scalars xs ys n c some few room u in omega (arith, h, r.1)

pub no_surrogate : (xs ys : List ℕ) (n c : ℕ) → 0 < n → n ≤ 3 → c < room_of n → 0xD800 ≤ c → c ≤ 0xDFFF → Utf8 (xs ++ (byte_form n c ++ ys)) → ⊥
no_surrogate xs ys n c some few room l h u = let i = scalar_plain c (only_scalars xs ys n c some few room u).0 in omega (arith, l, h, i)

pub none_above : (xs ys : List ℕ) (c : ℕ) → 0x10FFFF < c → c < room_of 3 → Utf8 (xs ++ (byte_form 3 c ++ ys)) → ⊥
none_above xs ys c l room u = let i = scalar_plain c (only_scalars xs ys 3 c (omega arith) (omega arith) room u).0 in omega (arith, l, i)
