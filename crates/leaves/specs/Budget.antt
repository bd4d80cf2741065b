-- A row's allowance: what a charge leaves of it, and the longest blob of each type.
-- Assumes nothing: these are definitions.
use Rattle.rules.specs.declared.refusal.Refusal.{Refusal}
use Rattle.std.specs.Prelude.{ℕ, ◌-◌, leb, Result, Ok, Err}
use Rattle.rules.specs.Choice.{pick}
use Rattle.rules.specs.Walk.{of_type}
use Rattle.rules.specs.Refusals.{RowTooLarge}
use Rattle.leaves.specs.declared.budget.RowBudget.{RowBudget}

-- so much left of an allowance
abbrev pub leaving : RowBudget → ℕ → RowBudget
leaving b n = record { max_string32_bytes = b.max_string32_bytes; max_yson32_bytes = b.max_yson32_bytes; remaining = n; limit = b.limit }

-- the whole allowance
unfoldable pub fresh : ℕ → ℕ → ℕ → RowBudget
fresh string32 yson32 row = record { max_string32_bytes = string32; max_yson32_bytes = yson32; remaining = row; limit = row }

-- so many bytes less, or 13 at `place`
unfoldable pub spent : RowBudget → ℕ → ℕ → Result RowBudget Refusal
spent b bytes place = pick (leb bytes b.remaining) (Ok (leaving b (b.remaining - bytes))) (Err (RowTooLarge b.limit place))

-- the longest blob of a wire code
unfoldable pub longest : RowBudget → ℕ → ℕ
longest b code = of_type code b.max_string32_bytes b.max_yson32_bytes
