-- Each return by what the door said.
-- Assumes nothing.
use Rattle.std.proofs.lemmas.Result.{err_from_is_err_and}
use mathlib.Core.Path.{ap, ◌∙◌}
use Rattle.std.proofs.Common.{Ok}
use Rattle.rules.specs.Reading.{skip_rule, through}
use Rattle.row.specs.Steps.{a_row}
use Rattle.row.proofs.AtDoor.{asked}
use Rattle.row.proofs.skip_row.Goals as goal

pub returns-in_err-entry : goal.returns-in_err-entry
unfolding skip_rule through
returns-in_err-entry c =
    let p = err_from_is_err_and c.from_residual.result c.from_residual.ensures.1 in
    rw (p.1, p.2, ← c.door.ensures, c.in_err-entry.was)

pub row_at-requires : goal.row_at-requires
row_at-requires c = asked _ _ _ _ _ c.door.ensures (c.in_ok-entry.was ∙ ap Ok c.in-Open.is)

pub returns-in_err-row-in-Open : goal.returns-in_err-row-in-Open
unfolding skip_rule through a_row
returns-in_err-row-in-Open c =
    let p = err_from_is_err_and c.from_residual-in_err-row-in-Open.result c.from_residual-in_err-row-in-Open.ensures.1 in
    rw (p.1, p.2, ← c.door.ensures, c.in_ok-entry.was, c.in-Open.is, ← c.row_at.ensures, c.in_err-row-in-Open.was)

pub returns-in_ok-row-in-Open : goal.returns-in_ok-row-in-Open
unfolding skip_rule through a_row
returns-in_ok-row-in-Open c = rw (← c.door.ensures, c.in_ok-entry.was, c.in-Open.is, ← c.row_at.ensures, c.in_ok-row-in-Open.was)

pub returns-in-End : goal.returns-in-End
unfolding skip_rule through
returns-in-End c = rw (← c.door.ensures, c.in_ok-entry.was, c.in-End.is)
