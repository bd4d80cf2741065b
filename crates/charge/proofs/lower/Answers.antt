use Rattle.charge.specs.Lowering.{lowered_by, lowering}
use Rattle.charge.proofs.lower.Goals as goal

pub returns-in-Ok : goal.returns-in-Ok
unfolding lowering lowered_by
returns-in-Ok c = rw (← c.charge.ensures, c.in-Ok.is)

pub returns-in-Err : goal.returns-in-Err
unfolding lowering lowered_by
returns-in-Err c = rw (← c.charge.ensures, c.in-Err.is)
