use native.Mathlib.Omega.{arith}
use Rattle.scalars.proofs.Signs.{Below, below, Above, above}
use Rattle.scalars.proofs.signed_bits.Goals as goal

pub overflow_sub-result : goal.overflow_sub-result
overflow_sub-result c = let low_here : Below c.args.x = below _ (record { sfits = c.well_formed.0 }) c.if-x-lt0.true in
    (low_here).half

pub overflow_cast-result : goal.overflow_cast-result
overflow_cast-result c = let low_here : Below c.args.x = below _ (record { sfits = c.well_formed.0 }) c.if-x-lt0.true in
    let b = low_here in rw b.more (tt, record { fits = omega (arith, b.fits) })

pub overflow_sub-result-then-x-lt0 : goal.overflow_sub-result-then-x-lt0
overflow_sub-result-then-x-lt0 c = let low_here : Below c.args.x = below _ (record { sfits = c.well_formed.0 }) c.if-x-lt0.true in
    let b = low_here in rw b.more (omega (arith, b.fits))

pub returns-then-x-lt0 : goal.returns-then-x-lt0
returns-then-x-lt0 c = let low_here : Below c.args.x = below _ (record { sfits = c.well_formed.0 }) c.if-x-lt0.true in
    (low_here).told

pub overflow_cast-result-2 : goal.overflow_cast-result-2
overflow_cast-result-2 c = let high_here : Above c.args.x = above _ (record { sfits = c.well_formed.0 }) c.if-x-lt0.false in
    let a = high_here in rw a.more (tt, record { fits = omega (arith, a.fits) })

pub returns : goal.returns
returns c = let high_here : Above c.args.x = above _ (record { sfits = c.well_formed.0 }) c.if-x-lt0.false in
    (high_here).told
