-- Tables of words of twenty bytes: all words of a table by one computed test.
-- Assumes nothing.
use Prim.Native.Nat.{ℕ, zero, suc, ◌*◌, ◌<◌}
use mathlib.Core.Path.{◌≡◌, refl, ap}
use mathlib.Core.Bool.{Bool, true, false}
use mathlib.Core.List.{List, [], ◌∷◌}
use native.Mathlib.Omega.{arith}
use borrow.Author.Tests.{eqb-true, eqb-false}
use lib.Dec.{eqb}
use Rattle.rules.specs.Bytes.{part}
use Rattle.rules.specs.Lines.{word}

-- the first n values of a function, the last in front
unfoldable pub values_to : ℕ → (ℕ → List ℕ) → List (List ℕ)
values_to zero f = []
values_to (suc n) f = f n ∷ values_to n f

front : List (List ℕ) → List ℕ
front [] = []
front (x ∷ xs) = x

behind : List (List ℕ) → List (List ℕ)
behind [] = []
behind (x ∷ xs) = xs

-- functions whose first n values are the same, at one of these
pub same_at : (n : ℕ) (f g : ℕ → List ℕ) → values_to n f ≡ values_to n g → (i : ℕ) → i < n → f i ≡ g i
unfolding values_to front behind
same_at zero f g e i h = absurd (omega arith)
same_at (suc n) f g e i h = by (eqb i n) refl (λ l. same_at n f g (ap behind e) i l)
  where
    by : (b : Bool) → eqb i n ≡ b → (i < n → f i ≡ g i) → f i ≡ g i
    by true k r = rw (eqb-true i n k) (ap front e)
    by false k r = let z = eqb-false i n k in r (omega (arith, z))

-- a word of a table whose first n words are the values of a function
pub word_is : (n : ℕ) (table : List ℕ) (f : ℕ → List ℕ) (r : List ℕ) (i : ℕ) → i < n → r ≡ part table (20 * i) 20 → values_to n (λ j. word (part table (20 * j) 20)) ≡ values_to n f → word r ≡ f i
word_is n table f r i h e same = rw e (same_at n (λ j. word (part table (20 * j) 20)) f same i h)
