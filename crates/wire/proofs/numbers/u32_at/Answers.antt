use native.Mathlib.Omega.{arith}
use Prim.Native.Nat.{◌+◌}
use Rattle.wire.proofs.Fields.{byte, read_parts}
use Rattle.wire.proofs.numbers.u32_at.Goals as goal

pub returns : goal.returns
returns c = let b0 = byte _ _ _ c.wide.ensures.0 in
    let b1 = byte _ _ _ c.wide-2.ensures.0 in
    let b2 = byte _ _ _ c.wide-3.ensures.0 in
    let b3 = byte _ _ _ c.wide-4.ensures.0 in
    let at = c.args.at in
    read_parts _ at (at + 1) 1 3 _ _ b0 (read_parts _ (at + 1) (at + 2) 1 2 _ _ b1 (read_parts _ (at + 2) (at + 3) 1 1 _ _ b2 b3 (omega arith)) (omega arith)) (omega arith)
