use native.Mathlib.Omega.{arith}
use Prim.Native.Nat.{◌<◌, ◌^◌}
use mathlib.Core.Path.{◌∙◌}
use Rattle.wire.proofs.Fields.{le-within, le-none, le-all, le_step}
use Rattle.wire.proofs.numbers.by_bytes.Goals as goal

pub loop-k-init : goal.loop-k-init
loop-k-init c = le-none _ _ _

pub overflow_mul-v : goal.overflow_mul-v
overflow_mul-v c = let small_here : c.loop-k.v < 256 ^ 7 = rw c.loop-k.invariant (le-within c.args.s.now (λ i. omega (arith, c.type_inv.s i)) _ _ 7 (omega arith)) in
    omega (arith, small_here)

pub overflow_add-v : goal.overflow_add-v
overflow_add-v c = let small_here : c.loop-k.v < 256 ^ 7 = rw c.loop-k.invariant (le-within c.args.s.now (λ i. omega (arith, c.type_inv.s i)) _ _ 7 (omega arith)) in
    omega (arith, small_here)

pub loop-k-preserved : goal.loop-k-preserved
loop-k-preserved c = rw (c.wide.ensures.0, c.loop-k.invariant) (le_step _ _ _ _ c.loop-k-test.true c.loop-k.auto.k)

pub returns : goal.returns
returns c = c.loop-k.invariant ∙ le-all _ _ _ _ c.loop-k-test.false
