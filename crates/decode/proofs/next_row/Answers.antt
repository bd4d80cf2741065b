-- Each return by what the door said.
-- Assumes nothing.
use Rattle.std.proofs.lemmas.Result.{err_from_is_err_and}
use mathlib.Core.Path.{ap, ◌∙◌}
use Rattle.std.proofs.Common.{Ok}
use Rattle.rules.specs.Reading.{through, decode_rule}
use Rattle.row.proofs.AtDoor.{asked}
use Rattle.decode.proofs.next_row.Goals as goal

pub returns-in_err-entry : goal.returns-in_err-entry
unfolding decode_rule through
returns-in_err-entry c =
    let p = err_from_is_err_and c.from_residual.result c.from_residual.ensures.1 in
    rw (p.1, p.2, ← c.door.ensures, c.in_err-entry.was)

pub decode_row-requires : goal.decode_row-requires
decode_row-requires c = asked _ _ _ _ _ c.door.ensures (c.in_ok-entry.was ∙ ap Ok c.in-Open.is)

pub returns-in-Open : goal.returns-in-Open
unfolding decode_rule through
returns-in-Open c = rw (← c.door.ensures, c.in_ok-entry.was, c.in-Open.is) c.decode_row.ensures

pub returns-in-End : goal.returns-in-End
unfolding decode_rule through
returns-in-End c = rw (← c.door.ensures, c.in_ok-entry.was, c.in-End.is)
