-- The charge by reference: no second answer and no second later allowance, and what follows of whatever meets its contract. It is proved
-- by hand, so there is no `Post` of it as there is of the other calls: what is said here is said of the contract's own clause, in the
-- logic that it is written in and in every model of it.
-- Assumes nothing.
use Rattle.std.proofs.Common.{Ok, Err}
use mathlib.Core.Path.{◌≡◌, refl, sym, ◌∙◌, ap}
use mathlib.Core.Bool.{Bool, true, false}
use seplogic.Ra.Ura.{Ura}
use base.Logic.{SProp, ent, id⊢}
use prog.Memory.{Memory}
use prog.Routine.{Routine}
use types.Logic.{Logic}
use contract.Lifetimes.{Lfts}
use contract.Monad.{Fun, conj, conj_l, conj_r, fact, fact_i, fact_use}
use denote.Triple.Clauses.{AtExit}
use denote.Triple.Entry.{Args, Res}
use Rattle.rules.specs.Choice.{pick}
use Rattle.rules.specs.declared.refusal.Refusal.{Refusal}
use Rattle.leaves.specs.Budget.{spent}
use Rattle.rules.proofs.Checks.{refused_not}
use Rattle.leaves.specs.declared.budget.RowBudget.{RowBudget}
use Rattle.charge.specs.declared.Lowered.{Lowered}
use Rattle.charge.specs.Lowering.{lowered_by, lowering}
use Rattle.charge.specs.contracts.charge

-- the allowance afterwards
abbrev pub later : (κs : Lfts 1) → AtExit charge.ended κs → RowBudget
later κs (budget, _) = budget.now

-- a refused charge, by what the allowance's test said
leaves : (b : Bool) (before left : RowBudget) (why r : Refusal) → (lowered_by before (pick b (Ok left) (Err why))).answer ≡ Err r →
    (lowered_by before (pick b (Ok left) (Err why))).budget ≡ before
unfolding lowered_by pick
leaves true before left why r e = absurd (refused_not r (sym e))
leaves false before left why r e = refl

module _ {M : Type 1} {𝓤 : Ura M} (𝓛 : Logic 𝓤) (memory : Memory → SProp 𝓤) (run : Routine → Fun 𝓤) (κs : Lfts 1) (a : Args charge.signature κs) where
  -- what the charge has to show when it returns
  abbrev Shown : Res charge.signature κs → AtExit charge.ended κs → SProp 𝓤
  Shown = (charge.clauses 𝓛 memory run κs a).ensures tt

  -- and that is the rule's answer, and the allowance that the rule leaves
  abbrev Rule : Res charge.signature κs → AtExit charge.ended κs → Type 0
  Rule x s = record { budget = later κs s; answer = x } ≡ lowering a.0.now a.1.0 a.1.1.0

  -- Whatever two answers and later allowances meet it are the same.
  pub charge_by_reference_one_answer : (x y : Res charge.signature κs) (s t : AtExit charge.ended κs) → ent 𝓤 (conj 𝓤 (Shown x s) (Shown y t)) (fact 𝓤 ((x ≡ y) × (later κs s ≡ later κs t)))
  charge_by_reference_one_answer x y s t =
      fact_use 𝓤 (Rule x s) (conj_l 𝓤 (Shown x s) (Shown y t)) (λ p.
      fact_use 𝓤 (Rule y t) (conj_r 𝓤 (Shown x s) (Shown y t)) (λ q.
      fact_i 𝓤 _ _ (ap (λ (l : Lowered). l.answer) (p ∙ sym q), ap (λ (l : Lowered). l.budget) (p ∙ sym q))))

  -- A refusal leaves the allowance as it was.
  pub refused_charge_leaves : (x : Res charge.signature κs) (s : AtExit charge.ended κs) (r : Refusal) → x ≡ Err r → ent 𝓤 (Shown x s) (fact 𝓤 (later κs s ≡ a.0.now))
  unfolding lowering spent
  refused_charge_leaves x s r e =
      fact_use 𝓤 (Rule x s) (id⊢ 𝓤 (Shown x s)) (λ p.
      fact_i 𝓤 _ _ (ap (λ (l : Lowered). l.budget) p ∙ leaves _ _ _ _ r (sym (ap (λ (l : Lowered). l.answer) p) ∙ e)))
