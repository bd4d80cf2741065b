use native.Mathlib.Omega.{arith}
use mathlib.Core.Path.{refl}
use Rattle.leaves.proofs.Codes.{wide_width}
use Rattle.fill.proofs.Leaves.{narrow_held, narrow_filled, wide_held, wide_filled, blob_held, blob_filled}
use Rattle.fill.proofs.fill_leaf.Goals as goal

pub u32_at-n-requires : goal.u32_at-n-requires
u32_at-n-requires c = omega (arith, blob_held _ _ _ _ _ c.requires c.if-code-gt12.true _ refl)

pub overflow_add-at : goal.overflow_add-at
overflow_add-at c = omega (arith, blob_held _ _ _ _ _ c.requires c.if-code-gt12.true _ refl, c.well_formed)

pub copy-requires : goal.copy-requires
copy-requires c = let h = blob_held _ _ _ _ _ c.requires c.if-code-gt12.true _ c.u32_at-n.ensures in (h.0, h.2)

pub overflow_add-at-then-code-gt12 : goal.overflow_add-at-then-code-gt12
overflow_add-at-then-code-gt12 c = omega (arith, blob_held _ _ _ _ _ c.requires c.if-code-gt12.true _ refl, c.well_formed)

pub fill_stored-requires : goal.fill_stored-requires
fill_stored-requires c = let h = blob_held _ _ _ _ _ c.requires c.if-code-gt12.true _ c.u32_at-n.ensures in (h.1, omega (arith, h, c.well_formed), omega (arith, h, c.well_formed))

pub returns-then-code-gt12 : goal.returns-then-code-gt12
returns-then-code-gt12 c = blob_filled _ _ _ _ _ c.requires c.if-code-gt12.true _ c.u32_at-n.ensures _ _ _ _ _ _ c.fill_stored.ensures.spot c.fill_stored.ensures.records c.copy.ensures

pub copy_wide-requires : goal.copy_wide-requires
copy_wide-requires c = let w = c.code_width-width.ensures in
    let h = wide_held _ _ _ _ _ c.requires c.if-code-gt12.false _ w.0 c.if-width-gt8.true in
    (wide_width _ _ c.if-code-gt12.false w.0 c.if-width-gt8.true, w.1, h.0, h.2)

pub fill_stored-requires-then-width-gt8 : goal.fill_stored-requires-then-width-gt8
fill_stored-requires-then-width-gt8 c = let h = wide_held _ _ _ _ _ c.requires c.if-code-gt12.false _ c.code_width-width.ensures.0 c.if-width-gt8.true in
    (h.1, omega (arith, h, c.well_formed), omega (arith, h, c.well_formed))

pub returns-then-width-gt8 : goal.returns-then-width-gt8
returns-then-width-gt8 c = wide_filled _ _ _ _ _ c.requires c.if-code-gt12.false _ c.code_width-width.ensures.0 c.if-width-gt8.true _ _ _ _ _ _
    c.fill_stored-then-width-gt8.ensures.spot c.fill_stored-then-width-gt8.ensures.records c.copy_wide.ensures

pub scalar_at-requires : goal.scalar_at-requires
scalar_at-requires c = (c.if-width-gt8.false, (narrow_held _ _ _ _ _ c.requires c.if-code-gt12.false _ c.code_width-width.ensures.0 c.if-width-gt8.false).0)

pub put_record-requires : goal.put_record-requires
put_record-requires c = omega (arith, narrow_held _ _ _ _ _ c.requires c.if-code-gt12.false _ c.code_width-width.ensures.0 c.if-width-gt8.false)

pub overflow_add-result : goal.overflow_add-result
overflow_add-result c = omega (arith, narrow_held _ _ _ _ _ c.requires c.if-code-gt12.false _ c.code_width-width.ensures.0 c.if-width-gt8.false, c.well_formed, c.ranges)

pub returns : goal.returns
returns c = narrow_filled _ _ _ _ _ c.requires c.if-code-gt12.false _ c.code_width-width.ensures.0 c.if-width-gt8.false _ _ _ _ _ c.scalar_at.ensures c.put_record.ensures
