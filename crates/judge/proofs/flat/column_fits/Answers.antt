use native.Mathlib.Omega.{arith}
use Rattle.judge.proofs.Columns.{reached_only, column_seen}
use Rattle.judge.proofs.flat.column_fits.Goals as goal

pub value_record_at-own-requires : goal.value_record_at-own-requires
value_record_at-own-requires c = (reached_only _ _ _ _ _ _ c.column_leaf.ensures _ _ _ c.in_ok-code.was).there

pub leaf_fits-requires : goal.leaf_fits-requires
leaf_fits-requires c = let o = reached_only _ _ _ _ _ _ c.column_leaf.ensures _ _ _ c.in_ok-code.was in
    let k = c.requires in
    (o.leaf, k.small, omega (arith, o.there, k.short), o.within, o.few)

pub returns : goal.returns
returns c = λ q e. column_seen _ _ _ _ _ _ c.column_leaf.ensures _ _ _ c.in_ok-code.was _ c.value_record_at-own.ensures _ q (c.leaf_fits.ensures q e)
