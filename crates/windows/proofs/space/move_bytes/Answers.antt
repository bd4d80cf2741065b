use Prim.Native.Nat.{◌+◌, ◌-◌}
use mathlib.Core.Path.{◌≡◌, ◌∙◌}
use native.Mathlib.Omega.{arith}
use Rattle.rules.proofs.Slices.{over-paste}
use Rattle.windows.proofs.space.move_bytes.Goals as goal

pub returns : goal.returns
returns c =
    let size : (c.args.from + c.args.n) - c.args.from ≡ c.args.n = omega arith in
    rw size at c.copy_within.ensures.after ∙ over-paste _ _ _ _ c.requires.1 (omega arith)
