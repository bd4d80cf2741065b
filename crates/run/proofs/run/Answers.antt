-- Each return by what the door said.
-- Assumes nothing.
use mathlib.Core.Path.{ap, ◌∙◌}
use Rattle.std.proofs.Common.{Ok}
use Rattle.rules.specs.Reading.{through, run_rule, ran_of, refused_run, ended_run, row_count, byte_count}
use Rattle.row.proofs.AtDoor.{asked}
use Rattle.run.proofs.run.Goals as goal

pub run_rows-requires : goal.run_rows-requires
run_rows-requires c = (asked _ _ _ _ _ c.door-entry.ensures (c.in-Ok.is ∙ ap Ok c.in-Open.is)).0

pub returns-in-Open : goal.returns-in-Open
unfolding run_rule through
returns-in-Open c = rw (← c.door-entry.ensures, c.in-Ok.is, c.in-Open.is) c.run_rows.ensures

pub returns-in-End : goal.returns-in-End
unfolding ran_of run_rule through ended_run row_count byte_count
returns-in-End c = rw (← c.door-entry.ensures, c.in-Ok.is, c.in-End.is) c.ran_to.ensures

pub returns-in-Err : goal.returns-in-Err
unfolding ran_of run_rule through refused_run row_count byte_count
returns-in-Err c = rw (← c.door-entry.ensures, c.in-Err.is) c.ran_to-in-Err.ensures
