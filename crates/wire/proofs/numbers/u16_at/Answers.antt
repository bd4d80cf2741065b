use native.Mathlib.Omega.{arith}
use Rattle.wire.proofs.Fields.{byte, read_parts}
use Rattle.wire.proofs.numbers.u16_at.Goals as goal

pub returns : goal.returns
returns c = let b0 = byte _ _ _ c.wide.ensures.0 in
    let b1 = byte _ _ _ c.wide-2.ensures.0 in
    read_parts _ _ _ 1 1 _ _ b0 b1 (omega arith)
