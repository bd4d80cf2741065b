use mathlib.Core.Path.{refl}
use native.Mathlib.Omega.{arith}
use native.Mathlib.Nat.{add-zero}
use Rattle.leaves.proofs.Codes.{wide_width}
use Rattle.write.proofs.Numbers.{blob_is, wide_is, narrow_is, blob_takes, wide_takes, narrow_takes, leaf_put, blob_put}
use Rattle.write.proofs.put.put_leaf.Goals as goal

pub put32-requires : goal.put32-requires
put32-requires c = omega (arith, blob_takes _ c.args.size c.if-code-gt12.true, c.requires)

pub copy-requires : goal.copy-requires
copy-requires c = let k = blob_takes _ c.args.size c.if-code-gt12.true in (omega (arith, k, c.requires), omega (arith, k, c.requires, c.put32.auto))

pub overflow_add-result-then-code-gt12 : goal.overflow_add-result-then-code-gt12
overflow_add-result-then-code-gt12 c = omega (arith, blob_takes _ c.args.size c.if-code-gt12.true, c.requires, c.well_formed)

pub overflow_add-result-then-code-gt12-2 : goal.overflow_add-result-then-code-gt12-2
overflow_add-result-then-code-gt12-2 c = omega (arith, blob_takes _ c.args.size c.if-code-gt12.true, c.requires, c.well_formed)

pub overflow_add-result-then-code-gt12-3 : goal.overflow_add-result-then-code-gt12-3
overflow_add-result-then-code-gt12-3 c = omega (arith, blob_takes _ c.args.size c.if-code-gt12.true, c.requires, c.well_formed)

pub returns-then-code-gt12 : goal.returns-then-code-gt12
returns-then-code-gt12 c = let both = leaf_put _ _ _ _ _ _ _ _ (blob_is _ _ _ _ _ c.if-code-gt12.true) _ _ _ _ _ refl (blob_put _ _ _ _ _ _ c.put32.ensures c.copy.ensures) in
    record { spot = both.0; out = both.1 }

pub copy_wide-requires : goal.copy_wide-requires
copy_wide-requires c = let w = c.code_width-width.ensures in
    let k = wide_takes _ c.args.size _ c.if-code-gt12.false w.0 c.if-width-gt8.true in
    (wide_width _ _ c.if-code-gt12.false w.0 c.if-width-gt8.true, w.1, omega (arith, k, c.requires), omega (arith, k, c.requires))

pub returns-then-width-gt8 : goal.returns-then-width-gt8
returns-then-width-gt8 c = let both = leaf_put _ _ _ _ _ _ _ _ (wide_is _ _ _ _ _ _ c.if-code-gt12.false c.code_width-width.ensures.0 c.if-width-gt8.true) _ _ _ _ _ refl c.copy_wide.ensures in
    record { spot = both.0; out = both.1 }

pub put_number-requires : goal.put_number-requires
put_number-requires c = omega (arith, narrow_takes _ c.args.size _ c.if-code-gt12.false c.code_width-width.ensures.0 c.if-width-gt8.false, c.requires)

pub returns : goal.returns
returns c = let both = leaf_put _ _ _ _ _ _ _ _ (narrow_is _ _ _ _ _ _ c.if-code-gt12.false c.code_width-width.ensures.0 c.if-width-gt8.false) _ _ _ _ _ (rw (add-zero)) c.put_number.ensures in
    record { spot = both.0; out = both.1 }
