-- Laws of the part of a list that starts at a position, for a loop that counts up.
-- Assumes nothing.
use Prim.Native.Nat.{ℕ, suc, ◌+◌, ◌-◌, ◌≤◌, ◌<◌}
use mathlib.Core.Path.{◌≡◌}
use mathlib.Core.List.{List, [], ◌∷◌}
use native.Mathlib.Omega.{arith}
use native.Mathlib.Nat.{sub-zero}
use lib.ListN.{get_or}
use Rattle.rules.specs.Bytes.{part}

-- what is left: before the first turn, at each turn, at the end

pub part_none : (s : List ℕ) (at n : ℕ) → part s (at + 0) (n - 0) ≡ part s at n
part_none s at n = let e : at + 0 ≡ at = omega arith in rw (e, sub-zero)

pub part_step : (s : List ℕ) (at n i : ℕ) → i < n → part s (at + i) (n - i) ≡ get_or s (at + i) 0 ∷ part s (at + (i + 1)) (n - (i + 1))
unfolding part
part_step s at n i h =
    let e : n - i ≡ suc (n - (i + 1)) = omega arith in
    let f : (at + i) + 1 ≡ at + (i + 1) = omega arith in
    rw (e, f)

pub part_end : (s : List ℕ) (at n i : ℕ) → n ≤ i → part s at (n - i) ≡ []
unfolding part
part_end s at n i h = let e : n - i ≡ 0 = omega arith in rw e
