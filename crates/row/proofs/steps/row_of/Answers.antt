use Rattle.std.proofs.lemmas.Result.{err_from_is_err_and}
-- Along the table's block the value is what the walk says.
-- Assumes nothing.
use native.Mathlib.Omega.{arith}
use Rattle.row.specs.Steps.{a_row}
use Rattle.row.proofs.Laws.{value_refused, value_row, value_ends}
use Rattle.row.proofs.steps.row_of.Goals as goal

pub skip_root-requires : goal.skip_root-requires
skip_root-requires c = rw c.block_of-block.ensures c.requires.rooted

pub returns-in_err-q : goal.returns-in_err-q
unfolding a_row
returns-in_err-q c =
    let p = err_from_is_err_and c.from_residual.result c.from_residual.ensures.1 in
    rw (p.1, p.2) (value_refused _ _ _ _ _ _ _ _ (rw c.block_of-block.ensures at c.skip_root.ensures) _ c.in_err-q.was)

pub overflow_sub-result : goal.overflow_sub-result
overflow_sub-result c = let h = value_ends _ _ _ _ c.args.found.tag _ _ _ (rw c.block_of-block.ensures at c.skip_root.ensures) (λ j. omega (arith, c.type_inv.input j)) c.requires.rooted.within _ c.in_ok-q.was in omega (arith, h)

pub returns : goal.returns
unfolding a_row
returns c = value_row _ _ _ _ _ _ _ _ (rw c.block_of-block.ensures at c.skip_root.ensures) _ c.in_ok-q.was
