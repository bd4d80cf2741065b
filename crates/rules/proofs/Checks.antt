-- Laws of checks one after another.
-- Assumes nothing.
use Rattle.std.specs.Prelude.{⊤}
use Rattle.std.proofs.Common.{Result, Option, Ok, Err, Some, None}
use Rattle.std.specs.Result.{result_ok}
use Rattle.std.proofs.lemmas.Option.{none-some}
use Prim.Native.Nat.{ℕ, zero, suc, ◌+◌, ◌-◌, ◌≤◌, ◌<◌}
use mathlib.Core.Path.{◌≡◌, refl, subst, ap}
use mathlib.Core.Bool.{Bool, true, false}
use native.Mathlib.Omega.{arith}
use native.Mathlib.Nat.{sub-zero}
use Rattle.rules.specs.Choice.{pick}
use Rattle.rules.specs.Refusals.{◌then◌, in_order}
use Rattle.rules.specs.declared.refusal.Refusal.{Refusal}

pub refused_not : (r : Refusal) → ◌≡◌ {A = Result ⊤ Refusal} (Err r) (Ok tt) → ⊥
refused_not r e = subst (λ (x : Result ⊤ Refusal). IsRefused x) e tt
  where
    IsRefused : Result ⊤ Refusal → Type 0
    IsRefused (Ok tt) = ⊥
    IsRefused (Err r) = Unit

-- both checks accept
pub then_both : (a b : Result ⊤ Refusal) → a then b ≡ Ok tt → (a ≡ Ok tt) × (b ≡ Ok tt)
unfolding ◌then◌
then_both (Ok tt) b e = (refl, e)
then_both (Err r) b e = absurd (refused_not r e)

pub then_assoc : (a b c : Result ⊤ Refusal) → (a then b) then c ≡ a then (b then c)
unfolding ◌then◌
then_assoc (Ok tt) b c = refl
then_assoc (Err r) b c = refl

-- a choice between a check and a refusal accepts
pub pick_accepted : (b : Bool) (x : Result ⊤ Refusal) (r : Refusal) → pick b x (Err r) ≡ Ok tt → (b ≡ true) × (x ≡ Ok tt)
unfolding pick
pick_accepted true x r e = (refl, e)
pick_accepted false x r e = absurd (refused_not r e)

-- ---- what a `Result` has in its place of an `Option`
pub value_in : {A : Type 0} (r : Result A Refusal) (x : A) → result_ok r ≡ Some x → r ≡ Ok x
value_in {A = A} (Ok y) x e = ap taken e
  where
    taken : Option A → Result A Refusal
    taken (Some z) = Ok z
    taken None = Ok y
value_in (Err r) x e = absurd (none-some x e)

-- ---- a loop over the checks of n things: none of them yet, the next one, all of them
pub in_order_none : (check : ℕ → Result ⊤ Refusal) (i n : ℕ) → in_order check (i + 0) (n - 0) ≡ in_order check i n
in_order_none check i n =
    let e : i + 0 ≡ i = omega arith in
    rw (e, sub-zero)

pub in_order_step : (check : ℕ → Result ⊤ Refusal) (i n k : ℕ) → k < n → in_order check (i + k) (n - k) ≡ check (i + k) then in_order check (i + (k + 1)) (n - (k + 1))
unfolding in_order
in_order_step check i n k h =
    let e : n - k ≡ suc (n - (k + 1)) = omega arith in
    let f : (i + k) + 1 ≡ i + (k + 1) = omega arith in
    rw (e, f)

pub in_order_end : (check : ℕ → Result ⊤ Refusal) (i n k : ℕ) → n ≤ k → in_order check i (n - k) ≡ Ok tt
unfolding in_order
in_order_end check i n k h = let e : n - k ≡ 0 = omega arith in rw e

-- all of them accept, just if each does
pub in_order_each : (check : ℕ → Result ⊤ Refusal) (i n k : ℕ) → in_order check i n ≡ Ok tt → k < n → check (i + k) ≡ Ok tt
unfolding in_order
in_order_each check i zero k e h = absurd (omega arith)
in_order_each check i (suc n) zero e h = let z : i + 0 ≡ i = omega arith in rw z (then_both _ _ e).0
in_order_each check i (suc n) (suc k) e h =
    let z : i + suc k ≡ (i + 1) + k = omega arith in
    rw z (in_order_each check (i + 1) n k (then_both _ _ e).1 (omega arith))

pub in_order_all : (check : ℕ → Result ⊤ Refusal) (i n : ℕ) → ((k : ℕ) → k < n → check (i + k) ≡ Ok tt) → in_order check i n ≡ Ok tt
unfolding in_order ◌then◌
in_order_all check i zero h = refl
in_order_all check i (suc n) h =
    let z : i + 0 ≡ i = omega arith in
    rw (rw z at (h 0 (omega arith))) (in_order_all check (i + 1) n (λ k l. let e : i + suc k ≡ (i + 1) + k = omega arith in rw e at (h (suc k) (omega arith))))
