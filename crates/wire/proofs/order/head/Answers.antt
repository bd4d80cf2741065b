use Rattle.wire.proofs.Compared.{four_bytes}
use Rattle.wire.proofs.order.head.Goals as goal

pub returns : goal.returns
returns c = four_bytes _ _ _ _ _ _ c.wide.ensures.0 c.wide-2.ensures.0 c.wide-3.ensures.0 c.wide-4.ensures.0
