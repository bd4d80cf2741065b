use mathlib.Core.Path.{refl}
use Rattle.leaves.specs.Budget.{fresh}
use Rattle.leaves.proofs.budget.RowBudget.new.Goals as goal

pub returns : goal.returns
unfolding fresh
returns c = refl
