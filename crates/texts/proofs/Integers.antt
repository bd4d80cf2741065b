-- A signed number by its sign and by how far it is from 0.
-- Assumes nothing.
use Prim.Native.Nat.{ℕ, suc, ◌+◌}
use mathlib.Core.Path.{◌≡◌, refl, sym, ap, ◌∙◌}
use mathlib.Core.Bool.{true, false, true≢false}
use mathlib.Core.List.{List, ◌++◌}
use native.Mathlib.Omega.{arith}
use native.Mathlib.Numerals.{add-one}
use borrow.Author.Tests.{le-ltb, ltb-true}
use lib.Dec.{T}
use lib.IntN.{ℤ, pos, negsuc, nat_abs, ◌-ℤ◌}
use lib.Signed.{lt_z, mag, non_neg}
use mir.Syntax.{w64}
use mir.Val.{Fits, SFits, of_z, to_z}
use mir.ValLaws.{to_z-of_z}
use Rattle.rules.specs.Names.{ascii}
use Rattle.rules.specs.Lines.{decimal}
use Rattle.rules.specs.Numerals.{integer_in}
use Rattle.lines.specs.Puts.{TextPut}

is_low : (z : ℤ) → lt_z z (pos 0) ≡ true → z ≡ negsuc (mag z)
is_low (pos n) h = let l = ltb-true n 0 h in absurd (omega (arith, l))
is_low (negsuc n) h = refl

is_high : (z : ℤ) → lt_z z (pos 0) ≡ false → z ≡ pos (mag z)
is_high (pos n) h = refl
is_high (negsuc n) h = absurd (true≢false h)

one_below : (k : ℕ) → negsuc 0 -ℤ negsuc k ≡ pos k
one_below k = rw (le-ltb (suc k) 1 (omega arith)) (ap pos (omega arith))

-- the bits of z are read back as z
module _ (z : ℤ) (f : SFits w64 z) where
  module _ (l : lt_z (to_z w64 (of_z w64 z)) (pos 0) ≡ true) where
    pub low : z ≡ negsuc (mag z)
    low = is_low z (rw (to_z-of_z w64 z f) at l)

    pub less_one : negsuc 0 -ℤ to_z w64 (of_z w64 z) ≡ pos (mag z)
    less_one = ap (λ (x : ℤ). negsuc 0 -ℤ x) (to_z-of_z w64 z f ∙ low) ∙ one_below (mag z)

    pub less_one_fits : SFits w64 (negsuc 0 -ℤ to_z w64 (of_z w64 z))
    less_one_fits = rw less_one (record { sfits = f.sfits })

    pub less_one_read : to_z w64 (of_z w64 (negsuc 0 -ℤ to_z w64 (of_z w64 z))) ≡ pos (mag z)
    less_one_read = to_z-of_z w64 _ less_one_fits ∙ less_one

    pub less_one_cast : T (non_neg (to_z w64 (of_z w64 (negsuc 0 -ℤ to_z w64 (of_z w64 z))))) × Fits w64 (nat_abs (to_z w64 (of_z w64 (negsuc 0 -ℤ to_z w64 (of_z w64 z)))))
    less_one_cast = rw less_one_read (tt, record { fits = omega (arith, f.sfits) })

    pub one_more_fits : Fits w64 (nat_abs (to_z w64 (of_z w64 (negsuc 0 -ℤ to_z w64 (of_z w64 z)))) + 1)
    one_more_fits = rw less_one_read (record { fits = omega (arith, f.sfits) })

    pub one_more_lem : nat_abs (to_z w64 (of_z w64 (negsuc 0 -ℤ to_z w64 (of_z w64 z)))) + 1 ≡ nat_abs z
    one_more_lem = rw less_one_read (add-one (mag z) ∙ ap nat_abs (sym low))

    low_text : integer_in 10 z ≡ ascii "-" ++ decimal (nat_abs (to_z w64 (of_z w64 z)))
    unfolding integer_in decimal ascii
    low_text = rw (to_z-of_z w64 z f, low)

    pub put_low : (s t : List ℕ) (at end size : ℕ) → size ≡ nat_abs (to_z w64 (of_z w64 z)) → TextPut s at (ascii "-" ++ decimal size) t end → TextPut s at (integer_in 10 z) t end
    put_low s t at end size e p = rw (low_text, ← e) p

  module _ (l : lt_z (to_z w64 (of_z w64 z)) (pos 0) ≡ false) where
    high : z ≡ pos (mag z)
    high = is_high z (rw (to_z-of_z w64 z f) at l)

    pub high_cast : T (non_neg (to_z w64 (of_z w64 z))) × Fits w64 (nat_abs (to_z w64 (of_z w64 z)))
    high_cast = rw (to_z-of_z w64 z f ∙ high) (tt, record { fits = omega (arith, f.sfits) })

    high_text : integer_in 10 z ≡ decimal (nat_abs (to_z w64 (of_z w64 z)))
    unfolding integer_in decimal
    high_text = rw (to_z-of_z w64 z f, high)

    pub put_high : (s t : List ℕ) (at end size : ℕ) → size ≡ nat_abs (to_z w64 (of_z w64 z)) → TextPut s at (decimal size) t end → TextPut s at (integer_in 10 z) t end
    put_high s t at end size e p = rw (high_text, ← e) p
