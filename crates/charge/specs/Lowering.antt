-- What a charge leaves of an allowance, and what it answers.
-- Assumes nothing: these are definitions.
use Rattle.rules.specs.declared.refusal.Refusal.{Refusal}
use Rattle.std.specs.Prelude.{ℕ, Result, Ok, Err}
use Rattle.leaves.specs.Budget.{spent}
use Rattle.leaves.specs.declared.budget.RowBudget.{RowBudget}
use Rattle.charge.specs.declared.Lowered.{Lowered}

-- an accepted charge leaves what it says, and a refused one leaves the allowance as it was
unfoldable pub lowered_by : RowBudget → Result RowBudget Refusal → Lowered
lowered_by before (Ok left) = record { budget = left; answer = Ok tt }
lowered_by before (Err r) = record { budget = before; answer = Err r }

-- so many bytes less, or 13 at `place`
unfoldable pub lowering : RowBudget → ℕ → ℕ → Lowered
lowering before bytes place = lowered_by before (spent before bytes place)
