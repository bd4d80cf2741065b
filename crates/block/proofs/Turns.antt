-- A loop that checks n things in order, at its turn k: the check accepts and the rest decides, or it refuses and that is the answer.
-- Assumes nothing.
use Rattle.std.specs.Prelude.{⊤}
use Prim.Native.Nat.{ℕ, ◌+◌, ◌-◌, ◌≤◌, ◌<◌}
use Rattle.std.proofs.Common.{List, length, get_or, Result, Ok, Err}
use Rattle.std.specs.Bool.{MatchBool}
use Rattle.std.specs.Fn.{Called}
use Rattle.std.specs.Iterator.{YieldsThen}
use Rattle.std.specs.List.{FoldsTo, AllWithin, HoldsAt, range_with_len}
use Rattle.std.specs.Option.{MatchOption}
use Rattle.std.specs.declared.ops.Range.{Range}
use Rattle.std.specs.declared.option.Option.{Option}
use Rattle.std.proofs.iter.Yields.{nat_range_steps}
use Rattle.std.proofs.lemmas.Iterator.{cases_from_all, YieldsList-from_range}
use Rattle.std.proofs.lemmas.List.FromFn.{length-range_with_len, get_or-range_with_len}
use denote.Param.Members.{Mut}
use mathlib.Core.Path.{◌≡◌, refl, sym, subst, ◌∙◌}
use mathlib.Core.Bool.{Bool, true, false}
use native.Mathlib.Omega.{arith}
use Rattle.rules.specs.Choice.{all}
use Rattle.rules.specs.Refusals.{◌then◌, in_order}
use Rattle.rules.specs.declared.refusal.Refusal.{Refusal}
use Rattle.rules.proofs.Tests.{all_true, all_false, all_more}
use Rattle.rules.proofs.Checks.{in_order_step}

module _ (check : ℕ → Result ⊤ Refusal) (i n k : ℕ) (h : k < n) where
  pub turn_on : (r : Result ⊤ Refusal) → r ≡ check (i + k) → r ≡ Ok tt → in_order check (i + (k + 1)) (n - (k + 1)) ≡ in_order check (i + k) (n - k)
  unfolding ◌then◌
  turn_on r e a = rw (in_order_step check i n k h, ← e, a)

  pub turn_off : (r : Result ⊤ Refusal) {x : Refusal} → r ≡ check (i + k) → r ≡ Err x → r ≡ in_order check (i + k) (n - k)
  unfolding ◌then◌
  turn_off r e a = rw (in_order_step check i n k h, ← e, a)

-- the same of a loop that tests n things, at its turn i
pub test_on : (test : ℕ → Bool) (i : ℕ) → all test i ≡ true → (b : Bool) → b ≡ test i → b ≡ true → all test (i + 1) ≡ true
test_on test i h b e a = all_more test i h (sym e ∙ a)

module _ (test : ℕ → Bool) (n i : ℕ) where
  pub test_off : i < n → (b : Bool) → b ≡ test i → b ≡ false → false ≡ all test n
  test_off h b e a = sym (all_false test n i (sym e ∙ a) h)

  pub test_end : all test i ≡ true → i ≤ n → n ≤ i → true ≡ all test n
  test_end h l m = let e : n ≡ i = omega arith in rw e (sym h)

-- and of `(0..m).all(f)`, where f answers as the test does
module _ {F : Type 0} {g : Mut F (ℕ × Unit {0}) Bool} (test : ℕ → Bool) (m : ℕ) where
  pub all_in_range : (u : Range ℕ) (f : F) (r : Bool) → (xs : List ℕ) × (o : Option ℕ) × (j : F) × YieldsThen nat_range_steps (record { start = 0; end = m }) xs o u × FoldsTo (λ p x q. Called g p (x, tt) true q) f xs j × MatchOption o (r ≡ true) (λ x. (r ≡ false) × ((h : F) × Called g j (x, tt) false h)) → ((x : ℕ) (b : Bool) (q : F) → Called g f (x, tt) b q → (q ≡ f) × (b ≡ test x)) → r ≡ all test m
  all_in_range u f r ran tells =
      by r (cases_from_all u f r (λ x. test x ≡ true) (λ x. test x ≡ false) ran (YieldsList-from_range 0 m m refl (omega arith)) (λ x q k. ((tells x true q k).0, sym (tells x true q k).1)) (λ x q k. sym (tells x false q k).1))
    where
      number : (k : ℕ) → k < m → get_or (range_with_len 0 m) k 0 ≡ k
      number k h = get_or-range_with_len 0 m k 0 h ∙ omega arith

      by : (b : Bool) → MatchBool b (AllWithin (λ x. test x ≡ true) (range_with_len 0 m) 0 (length (range_with_len 0 m))) ((k : ℕ) × (k < length (range_with_len 0 m)) × HoldsAt (λ x. test x ≡ false) (range_with_len 0 m) k) → b ≡ all test m
      by true h = sym (all_true test m (λ i l. subst (λ x. test x ≡ true) (number i l) (h i 0 (omega arith) (omega (arith, length-range_with_len 0 m)))))
      by false h =
          let l : h.0 < m = omega (arith, h.1, length-range_with_len 0 m) in
          sym (all_false test m h.0 (subst (λ x. test x ≡ false) (number h.0 l) (h.2 0)) l)
