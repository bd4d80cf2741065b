use Prim.Native.Nat.{◌+◌, ◌-◌}
use mathlib.Core.Path.{◌≡◌, refl}
use native.Mathlib.Omega.{arith}
use lib.ListN.{length}
use Rattle.rules.proofs.Slices.{over-mid}
use Rattle.lines.proofs.put_text.Goals as goal

pub returns : goal.returns
returns c =
    let size : (c.args.at + length c.args.text.now) - c.args.at ≡ length c.args.text.now = omega arith in
    record { holds = rw (size, c.copy_from_slice.ensures.after) (over-mid _ _ _ _ c.requires refl); ends = refl }
