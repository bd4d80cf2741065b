-- What an accepted charge tells.
-- Assumes nothing.
use Rattle.std.proofs.Common.{Result, Ok, Err}
use Prim.Native.Nat.{ℕ, ◌+◌, ◌-◌}
use mathlib.Core.Path.{◌≡◌, refl, sym, subst, ◌∙◌}
use mathlib.Core.Bool.{Bool, true, false}
use mathlib.Core.List.{List}
use native.Mathlib.Omega.{arith}
use borrow.Author.Tests.{leb-true}
use lib.Dec.{leb}
use Rattle.rules.specs.Choice.{pick}
use Rattle.rules.specs.declared.refusal.Refusal.{Refusal}
use Rattle.rules.specs.Refusals.{RowTooLarge}
use Rattle.leaves.specs.Budget.{leaving, spent}
use Rattle.leaves.specs.Leaf.{standing}
use Rattle.read.specs.Ready.{Ready}
use Rattle.leaves.specs.declared.budget.RowBudget.{RowBudget}
use Rattle.leaves.specs.declared.leaf.SkipPos.{SkipPos}

-- a charge that was made
data Paid (b : RowBudget) (cost : ℕ) : Result RowBudget Refusal → Type 0 where
  left : {a : RowBudget} → a.remaining + cost ≡ b.remaining → Paid b cost (Ok a)
  dear : {r : Refusal} → Paid b cost (Err r)

-- the node's record is paid for, so that the walk may stand at its first byte
pub ready_paid : (inp : List ℕ) (charge : ℕ) (p : SkipPos) (c : Result RowBudget Refusal) (a : RowBudget) → Ready inp charge p → c ≡ spent p.budget charge p.at → c ≡ Ok a → Ready inp charge (standing p.at a (p.records + 1) p.payload)
unfolding spent pick
ready_paid inp charge p c a r m e = so (subst (λ (x : Result RowBudget Refusal). Paid p.budget charge x) (sym m ∙ e) (pays (leb charge p.budget.remaining) refl))
  where
    so : Paid p.budget charge (Ok a) → Ready inp charge (standing p.at a (p.records + 1) p.payload)
    so (left h) = record { stands = record { within = r.stands.within; short = r.stands.short; passed = r.stands.passed }; costs = r.costs; total = omega (arith, r.total, r.costs) }

    pays : (b : Bool) → leb charge p.budget.remaining ≡ b → Paid p.budget charge (pick b (Ok (leaving p.budget (p.budget.remaining - charge))) (Err (RowTooLarge p.budget.limit p.at)))
    pays true e = left {a = leaving p.budget (p.budget.remaining - charge)} (omega (arith, leb-true charge p.budget.remaining e))
    pays false e = dear
