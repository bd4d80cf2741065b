-- At the end it goes on, and where the refusal's number is 12.
-- Assumes nothing.
use Rattle.rules.specs.Refusals.{report_of}
use Rattle.rules.specs.Windows.{goes_on}
use Rattle.windows.proofs.goes_on.Goals as goal

pub returns-in-Ok : goal.returns-in-Ok
unfolding goes_on
returns-in-Ok c = rw c.in-Ok.is

pub returns-in-Err : goal.returns-in-Err
unfolding goes_on report_of
returns-in-Err c = rw (c.in-Err.is, c.in_numbers-report.ensures)
