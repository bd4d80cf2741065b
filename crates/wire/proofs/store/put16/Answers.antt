use native.Mathlib.Omega.{arith}
use lib.ListN.{length-set}
use mathlib.Core.Path.{refl}
use Rattle.rules.specs.Bytes.{le, over}
use Rattle.wire.proofs.store.put16.Goals as goal

pub bounds-s-at-2 : goal.bounds-s-at-2
bounds-s-at-2 c = simp length-set (omega arith)

pub returns : goal.returns
unfolding over le
returns c = refl
