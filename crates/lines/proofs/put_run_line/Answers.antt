-- By how the run stops.
-- Assumes nothing.
use native.Mathlib.Omega.{arith}
use Rattle.lines.proofs.Heads.{run_ended, run_refused}
use Rattle.lines.proofs.put_run_line.Goals as goal

pub returns-in-Ok : goal.returns-in-Ok
returns-in-Ok c = record { text_put = run_ended _ _ _ _ c.in-Ok.is c.put_end_line.ensures.text_put; upper_bound = omega arith }

pub returns-in-Err : goal.returns-in-Err
returns-in-Err c = record { text_put = run_refused _ _ _ _ _ c.in-Err.is c.put_refused_line.ensures.text_put; upper_bound = omega arith }
