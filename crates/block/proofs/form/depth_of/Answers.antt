use native.Mathlib.Omega.{arith}
use mathlib.Core.Path.{refl}
use mathlib.Core.List.{[]}
use Rattle.rules.specs.Block.{earlier, depth_of}
use Rattle.block_laws.proofs.Form.{next_suc, next_fits}
use Rattle.block_laws.proofs.Levels.{spot_first, spot_same, spot_next, spot_last}
use Rattle.block.proofs.form.depth_of.Goals as goal
use Rattle.block.proofs.form.depth_of.Goals.{then-i-edge, else-i-edge}

pub loop-i-init : goal.loop-i-init
unfolding earlier
loop-i-init c = (refl, spot_first _)

pub overflow_add-next : goal.overflow_add-next
overflow_add-next c = let h = next_fits _ (λ j. omega (arith, c.type_inv.s j)) c.loop-i.i c.loop-i.next _ c.node_at-n.ensures c.loop-i.invariant.0 (omega (arith, c.requires.most)) in
    omega (arith, h)

pub loop-i-preserved : goal.loop-i-preserved
loop-i-preserved c = (
  next_suc _ _ _ _ c.node_at-n.ensures c.loop-i.invariant.0,
  elim c.if-i-edge.branch [
    | then-i-edge w ↦ spot_next _ c.requires _ _ _ _ _ _ c.loop-i-test.true c.loop-i.invariant.0 c.loop-i.invariant.1 w.if-i-edge.true w.edge-is w.depth-is
    | else-i-edge w ↦ spot_same _ _ _ _ _ _ c.loop-i.invariant.1 w.if-i-edge.false w.edge-is w.depth-is
  ],
)

pub returns : goal.returns
unfolding depth_of
returns c = spot_last _ [] c.requires _ _ _ (omega (arith, c.loop-i.auto.i-end, c.loop-i-test.false)) c.loop-i.invariant.1
