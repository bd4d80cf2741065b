use Rattle.wire.proofs.Fields.{byte}
use Rattle.wire.proofs.numbers.field.Goals as goal

pub returns-in-1 : goal.returns-in-1
returns-in-1 c = rw c.in-1.is (byte _ _ _ c.wide.ensures.0)

pub returns-in-2 : goal.returns-in-2
returns-in-2 c = rw c.in-2.is c.u16_at.ensures

pub returns-in-4 : goal.returns-in-4
returns-in-4 c = rw c.in-4.is c.u32_at.ensures

pub returns-in-8 : goal.returns-in-8
returns-in-8 c = rw c.in-8.is c.u64_at.ensures
