use Rattle.rules.specs.Bytes.{le, over}
use Rattle.write.proofs.put.put_number.Goals as goal

pub returns-in-0 : goal.returns-in-0
unfolding over le
returns-in-0 c = rw c.in-0.is

pub returns-in-1 : goal.returns-in-1
unfolding over le
returns-in-1 c = rw c.in-1.is
