-- Laws of tests that are joined, and of a choice by a test.
-- Assumes nothing.
use Prim.Native.Nat.{ℕ, zero, suc, ◌+◌, ◌-◌, ◌≤◌, ◌<◌}
use mathlib.Core.Path.{◌≡◌, refl}
use mathlib.Core.Bool.{Bool, true, false}
use mathlib.Core.Logic.{◌⊎◌, inl, inr, ⊎_elim}
use native.Mathlib.Omega.{arith}
use native.Mathlib.Numerals.{add-one}
use native.Mathlib.Nat.{eq-or-lt_of_le}
use borrow.Author.Tests.{le-leb, lt-leb, leb-true, leb-false}
use lib.Dec.{leb}
use Rattle.rules.specs.Choice.{pick, ◌and◌, all}

pub and_both : (a b : Bool) → a and b ≡ true → (a ≡ true) × (b ≡ true)
unfolding ◌and◌
and_both true b e = (refl, e)
and_both false b e = (e, cc)

pub and_true : (a b : Bool) → a ≡ true → b ≡ true → a and b ≡ true
unfolding ◌and◌
and_true a b p q = rw (p, q)

pub and_false : (a : Bool) → a and false ≡ false
unfolding ◌and◌
and_false true = refl
and_false false = refl

pub and_all : (a : Bool) → a and true ≡ a
unfolding ◌and◌
and_all true = refl
and_all false = refl

pub and_assoc : (a b c : Bool) → a and (b and c) ≡ (a and b) and c
unfolding ◌and◌
and_assoc true b c = refl
and_assoc false b c = refl

-- a test that fails does not hold
pub false_not : {A : Type 0} → false ≡ true → A
false_not e = let z : ◌≡◌ {A = ℕ} 0 1 = cc in absurd (omega arith)

pub all_each : (f : ℕ → Bool) (n i : ℕ) → all f n ≡ true → i < n → f i ≡ true
unfolding all
all_each f zero i e h = absurd (omega arith)
all_each f (suc n) i e h =
    let p = and_both _ _ e in
    ⊎_elim (λ (q : i ≡ n). rw q p.1) (λ (q : i < n). all_each f n i p.0 q) (eq-or-lt_of_le (omega arith))

pub all_true : (f : ℕ → Bool) (n : ℕ) → ((i : ℕ) → i < n → f i ≡ true) → all f n ≡ true
unfolding all
all_true f zero h = refl
all_true f (suc n) h = and_true _ _ (all_true f n (λ i l. h i (omega arith))) (h n (omega arith))

pub all_false : (f : ℕ → Bool) (n i : ℕ) → f i ≡ false → i < n → all f n ≡ false
unfolding all ◌and◌
all_false f zero i e h = absurd (omega arith)
all_false f (suc n) i e h = ⊎_elim (λ (q : i ≡ n). rw (← q, e) (and_false (all f i))) (λ (q : i < n). rw (all_false f n i e q)) (eq-or-lt_of_le (omega arith))

pub all_more : (f : ℕ → Bool) (n : ℕ) → all f n ≡ true → f n ≡ true → all f (n + 1) ≡ true
unfolding all
all_more f n a b = rw add-one (and_true _ _ a b)

-- a span within n, tested without a sum
pub span_leb : (a b n : ℕ) → a ≤ n → leb (a + b) n ≡ leb b (n - a)
span_leb a b n h = by (leb b (n - a)) refl
  where
    by : (x : Bool) → leb b (n - a) ≡ x → leb (a + b) n ≡ x
    by true e = le-leb (a + b) n (omega (arith, leb-true b (n - a) e))
    by false e = lt-leb (a + b) n (omega (arith, leb-false b (n - a) e))

-- a choice that holds, holds on its way
pub pick_either : (b x y : Bool) → pick b x y ≡ true → ((b ≡ true) × (x ≡ true)) ⊎ ((b ≡ false) × (y ≡ true))
unfolding pick
pick_either true x y e = inl (refl, e)
pick_either false x y e = inr (refl, e)

-- what holds of both that are chosen from holds of the choice
pub either : {A : Type 0} (P : A → Type 0) {x y : A} (b : Bool) → (b ≡ true → P x) → (b ≡ false → P y) → P (pick b x y)
unfolding pick
either P true f g = f refl
either P false f g = g refl

-- and so of two choices by one test
pub either_both : {A B : Type 0} (R : A → B → Type 0) {x y : A} {u v : B} (b : Bool) → (b ≡ true → R x u) → (b ≡ false → R y v) → R (pick b x y) (pick b u v)
unfolding pick
either_both R true f g = f refl
either_both R false f g = g refl
