-- The order of byte strings is a strict total order: equal only to itself, one of three, asymmetric, transitive.
-- Assumes nothing.
use Rattle.std.specs.declared.cmp.Ordering.{Ordering}
use Prim.Native.Nat.{ℕ, ◌<◌}
use mathlib.Core.Path.{◌≡◌, refl, ◌∙◌}
use mathlib.Core.Bool.{Bool, true, false}
use mathlib.Core.List.{List, [], ◌∷◌}
use mathlib.Core.Logic.{◌↔◌}
use native.Mathlib.Omega.{arith}
use borrow.Author.Tests.{lt-ltb, le-ltb, eq-eqb, ne_eqb, eqb-true, eqb-false, ltb-true, ltb-false}
use lib.Dec.{ltb, eqb}
use Rattle.rules.specs.Choice.{pick}
use Rattle.rules.specs.Bytes.{order, is_less, is_equal}

-- ---- the answers as tests

pub is_less_lem : (o : Ordering) → is_less o ≡ true → o ≡ Ordering.Less
unfolding is_less
is_less_lem Ordering.Less e = refl
is_less_lem Ordering.Equal e = cc
is_less_lem Ordering.Greater e = cc

pub is_equal_lem : (o : Ordering) → is_equal o ≡ true → o ≡ Ordering.Equal
unfolding is_equal
is_equal_lem Ordering.Less e = cc
is_equal_lem Ordering.Equal e = refl
is_equal_lem Ordering.Greater e = cc

-- ---- one byte

pub order_cons_same : (x y : ℕ) (xs ys : List ℕ) → x ≡ y → order (x ∷ xs) (y ∷ ys) ≡ order xs ys
unfolding order pick
order_cons_same x y xs ys h = rw (eq-eqb x y h)

pub order_cons_less : (x y : ℕ) (xs ys : List ℕ) → x < y → order (x ∷ xs) (y ∷ ys) ≡ Ordering.Less
unfolding order pick
order_cons_less x y xs ys h = rw (ne_eqb x y (λ e. omega arith), lt-ltb x y h)

pub order_cons_greater : (x y : ℕ) (xs ys : List ℕ) → y < x → order (x ∷ xs) (y ∷ ys) ≡ Ordering.Greater
unfolding order pick
order_cons_greater x y xs ys h = rw (ne_eqb x y (λ e. omega arith), le-ltb x y (omega arith))

-- how two strings of one byte or more can lie, and what the order then is
data Heads (x y : ℕ) (xs ys : List ℕ) : Ordering → Type 0 where
  same : x ≡ y → Heads x y xs ys (order xs ys)
  less : x < y → Heads x y xs ys Ordering.Less
  greater : y < x → Heads x y xs ys Ordering.Greater

heads : (x y : ℕ) (xs ys : List ℕ) → Heads x y xs ys (order (x ∷ xs) (y ∷ ys))
unfolding order pick
heads x y xs ys = by (eqb x y) (ltb x y) refl refl
  where
    by : (e l : Bool) → eqb x y ≡ e → ltb x y ≡ l → Heads x y xs ys (pick e (order xs ys) (pick l Ordering.Less Ordering.Greater))
    by true l p q = same (eqb-true x y p)
    by false true p q = less (ltb-true x y q)
    by false false p q = let n = eqb-false x y p in greater (omega (arith, ltb-false x y q))

-- ---- equal is the same

pub order_same : (xs : List ℕ) → order xs xs ≡ Ordering.Equal
unfolding order
order_same [] = refl
order_same (x ∷ xs) = order_cons_same x x xs xs refl ∙ order_same xs

pub order_equal : (xs ys : List ℕ) → order xs ys ≡ Ordering.Equal → xs ≡ ys
unfolding order
order_equal [] [] e = refl
order_equal [] (y ∷ ys) e = cc
order_equal (x ∷ xs) [] e = cc
order_equal (x ∷ xs) (y ∷ ys) e = by (order_equal xs ys) _ (heads x y xs ys) e
  where
    by : (order xs ys ≡ Ordering.Equal → xs ≡ ys) → (o : Ordering) → Heads x y xs ys o → o ≡ Ordering.Equal → x ∷ xs ≡ y ∷ ys
    by below _ (same h) f = let t = below f in cc
    by below _ (less h) f = cc
    by below _ (greater h) f = cc

pub order_equal_iff : (xs ys : List ℕ) → (order xs ys ≡ Ordering.Equal) ↔ (xs ≡ ys)
order_equal_iff xs ys = (order_equal xs ys, λ e. rw e (order_same ys))

-- ---- the other way round

unfoldable pub turned : Ordering → Ordering
turned Ordering.Less = Ordering.Greater
turned Ordering.Equal = Ordering.Equal
turned Ordering.Greater = Ordering.Less

pub order_turned : (xs ys : List ℕ) → order ys xs ≡ turned (order xs ys)
unfolding order turned
order_turned [] [] = refl
order_turned [] (y ∷ ys) = refl
order_turned (x ∷ xs) [] = refl
order_turned (x ∷ xs) (y ∷ ys) = by (order_turned xs ys) _ (heads x y xs ys)
  where
    by : order ys xs ≡ turned (order xs ys) → (o : Ordering) → Heads x y xs ys o → order (y ∷ ys) (x ∷ xs) ≡ turned o
    by below _ (same h) = order_cons_same y x ys xs (cc) ∙ below
    by below _ (less h) = order_cons_greater y x ys xs h
    by below _ (greater h) = order_cons_less y x ys xs h

pub order_asymmetric : (xs ys : List ℕ) → is_less (order xs ys) ≡ true → is_less (order ys xs) ≡ false
unfolding is_less turned
order_asymmetric xs ys e = rw (order_turned xs ys, is_less_lem (order xs ys) e)

pub order_total : (xs ys : List ℕ) → is_less (order xs ys) ≡ false → is_less (order ys xs) ≡ false → xs ≡ ys
unfolding is_less turned
order_total xs ys d e = by (order xs ys) refl d (rw (order_turned xs ys) at e)
  where
    by : (o : Ordering) → order xs ys ≡ o → is_less o ≡ false → is_less (turned o) ≡ false → xs ≡ ys
    by Ordering.Less p d e = cc
    by Ordering.Equal p d e = order_equal xs ys p
    by Ordering.Greater p d e = cc

-- ---- transitive

pub order_less_trans : (xs ys zs : List ℕ) → order xs ys ≡ Ordering.Less → order ys zs ≡ Ordering.Less → order xs zs ≡ Ordering.Less
unfolding order
order_less_trans [] [] [] d e = d
order_less_trans [] (y ∷ ys) [] d e = cc
order_less_trans [] ys (z ∷ zs) d e = refl
order_less_trans (x ∷ xs) [] zs d e = cc
order_less_trans (x ∷ xs) (y ∷ ys) [] d e = cc
order_less_trans (x ∷ xs) (y ∷ ys) (z ∷ zs) d e = by (order_less_trans xs ys zs) _ (heads x y xs ys) _ (heads y z ys zs) d e
  where
    by : (order xs ys ≡ Ordering.Less → order ys zs ≡ Ordering.Less → order xs zs ≡ Ordering.Less) → (o : Ordering) → Heads x y xs ys o → (q : Ordering) → Heads y z ys zs q → o ≡ Ordering.Less → q ≡ Ordering.Less → order (x ∷ xs) (z ∷ zs) ≡ Ordering.Less
    by below _ (same h) _ (same k) d e = order_cons_same x z xs zs (h ∙ k) ∙ below d e
    by below _ (same h) _ (less k) d e = order_cons_less x z xs zs (omega arith)
    by below _ (same h) _ (greater k) d e = cc
    by below _ (less h) _ (same k) d e = order_cons_less x z xs zs (omega arith)
    by below _ (less h) _ (less k) d e = order_cons_less x z xs zs (omega arith)
    by below _ (less h) _ (greater k) d e = cc
    by below _ (greater h) q k d e = cc

pub order_transitive : (xs ys zs : List ℕ) → is_less (order xs ys) ≡ true → is_less (order ys zs) ≡ true → is_less (order xs zs) ≡ true
unfolding is_less
order_transitive xs ys zs d e = rw (order_less_trans xs ys zs (is_less_lem _ d) (is_less_lem _ e))
