-- Checks that come in turn: what it takes that all of them accept.
-- Assumes nothing.
use Rattle.std.specs.Prelude.{⊤}
use Rattle.std.proofs.Common.{Result, Ok, Err}
use Prim.Native.Nat.{ℕ, ◌+◌, ◌<◌}
use mathlib.Core.Path.{◌≡◌, refl}
use mathlib.Core.Bool.{Bool, true, false}
use mathlib.Core.Logic.{◌↔◌}
use native.Mathlib.Omega.{arith}
use Rattle.rules.specs.Choice.{pick}
use Rattle.rules.specs.Refusals.{◌then◌, in_order}
use Rattle.rules.specs.declared.refusal.Refusal.{Refusal}
use Rattle.rules.proofs.Checks.{refused_not, pick_accepted, in_order_each, in_order_all}

pub then_accepted : (a b : Result ⊤ Refusal) → a ≡ Ok tt → b ≡ Ok tt → a then b ≡ Ok tt
unfolding ◌then◌
then_accepted a b p q = rw (p, q)

pub accepted_pick : (b : Bool) (x y : Result ⊤ Refusal) → b ≡ true → x ≡ Ok tt → pick b x y ≡ Ok tt
unfolding pick
accepted_pick b x y p q = rw (p, q)

-- a check after a choice, where the other way out is a refusal
pub pick_then : (b : Bool) (x y : Result ⊤ Refusal) (r : Refusal) → pick b (x then y) (Err r) ≡ pick b x (Err r) then y
unfolding pick ◌then◌
pick_then true x y r = refl
pick_then false x y r = refl

-- a choice whose first way out is a refusal
pub none_refused : (b : Bool) (x : Result ⊤ Refusal) (r : Refusal) → pick b (Err r) x ≡ Ok tt → (b ≡ false) × (x ≡ Ok tt)
unfolding pick
none_refused true x r e = absurd (refused_not r e)
none_refused false x r e = (refl, e)

-- checks of n things accept just if each does
pub in_order_iff : (check : ℕ → Result ⊤ Refusal) (n : ℕ) → (in_order check 0 n ≡ Ok tt) ↔ ((k : ℕ) → k < n → check k ≡ Ok tt)
in_order_iff check n = (
  λ e k h. let z : 0 + k ≡ k = omega arith in rw z at (in_order_each check 0 n k e h),
  λ h. in_order_all check 0 n (λ k l. let z : 0 + k ≡ k = omega arith in rw z (h k l)),
)

-- forms, depths, names and rules all pass
pub record Passes (form depth names : Bool) (rules : Result ⊤ Refusal) : Type 0 where
  pub form_ok : form ≡ true
  pub depth_ok : depth ≡ true
  pub names_ok : names ≡ true
  pub rules_ok : rules ≡ Ok tt

pub in_turn : (form depth names : Bool) (rules : Result ⊤ Refusal) (x y z : Refusal) →
    (pick form (pick depth (pick names rules (Err z)) (Err y)) (Err x) ≡ Ok tt) ↔ Passes form depth names rules
in_turn form depth names rules x y z = (
  λ e.
      let a = pick_accepted _ _ _ e in
      let b = pick_accepted _ _ _ a.1 in
      let c = pick_accepted _ _ _ b.1 in
      record { form_ok = a.0; depth_ok = b.0; names_ok = c.0; rules_ok = c.1 },
  λ p. accepted_pick _ _ _ p.form_ok (accepted_pick _ _ _ p.depth_ok (accepted_pick _ _ _ p.names_ok p.rules_ok)),
)
