use Prim.Native.Nat.{◌+◌, ◌-◌, min}
use mathlib.Core.Path.{◌≡◌, refl, ◌∙◌}
use native.Mathlib.Omega.{arith}
use Rattle.rules.specs.Bytes.{part, over}
use Rattle.payload.proofs.Turns.{copy_word, near_step}
use Rattle.payload.proofs.copy.Goals as goal

pub loop-k-init : goal.loop-k-init
unfolding part over
loop-k-init c = let z : min 0 c.args.n ≡ 0 = omega arith in (refl, rw z)

pub loop-k-preserved : goal.loop-k-preserved
loop-k-preserved c = let n = c.args.n in
    let all : (n - 8) + 8 ≡ n = omega (arith, c.if-n-lt8.false) in (
      c.copy_near-k-in-loop-k-3.auto.payload ∙ c.copy_near-k-in-loop-k-2.auto.payload ∙ c.copy_near-k-in-loop-k.auto.payload ∙ c.copy_near-k.auto.payload ∙ c.loop-k.invariant.0,
      near_step _ _ _ _ _ _ 8 _ all _ _ (near_step _ _ _ _ _ _ 8 _ all _ _ (near_step _ _ _ _ _ _ 8 _ all _ _ (near_step _ _ _ _ _ _ 8 _ all _ _ c.loop-k.invariant.1 c.copy_near-k.ensures.payload _ c.copy_near-k.ensures.next) c.copy_near-k-in-loop-k.ensures.payload _ c.copy_near-k-in-loop-k.ensures.next) c.copy_near-k-in-loop-k-2.ensures.payload _ c.copy_near-k-in-loop-k-2.ensures.next) c.copy_near-k-in-loop-k-3.ensures.payload _ c.copy_near-k-in-loop-k-3.ensures.next,
    )

pub shape_of-payload : goal.shape_of-payload
shape_of-payload c = c.copy_word.auto.payload ∙ c.loop-k.invariant.0

pub returns : goal.returns
returns c = let a = c.args in
    let e : (a.n - 8) + 8 ≡ a.n = omega (arith, c.if-n-lt8.false) in
    let all = rw e at (copy_word a.input.now a.payload.now a.from a.to (a.n - 8) (min c.loop-k.k a.n) 8 (omega (arith, c.loop-k-test.false)) (omega (arith, e))) in
    c.copy_word.ensures ∙ rw c.loop-k.invariant.1 all
