use native.Mathlib.Omega.{arith}
use Rattle.judge.proofs.Columns.{leaf_inside}
use Rattle.judge.proofs.flat.leaf_fits.Goals as goal

pub judge_leaf-requires : goal.judge_leaf-requires
judge_leaf-requires c = (c.requires.0, omega (arith, leaf_inside _ _ _ _ _ c.requires.0 c.requires.3 c.if-own-code.false _ c.record_ok.ensures c.if-not-record_ok.false, c.requires.1), c.requires.2, omega (arith, c.requires.1, c.requires.3), c.requires.4)

pub overflow_add-p : goal.overflow_add-p
overflow_add-p c = omega (arith, leaf_inside _ _ _ _ _ c.requires.0 c.requires.3 c.if-own-code.false _ c.record_ok.ensures c.if-not-record_ok.false, c.requires.1)
