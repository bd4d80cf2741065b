-- By the sign.
-- Assumes nothing.
use native.Mathlib.Omega.{arith}
use Rattle.rules.specs.Names.{ascii}
use Rattle.texts.proofs.Integers.{put_low, put_high}
use Rattle.texts.proofs.put_integer.Goals as goal

pub returns-then-n-lt0 : goal.returns-then-n-lt0
unfolding ascii
returns-then-n-lt0 c = record { text_put = put_low _ c.ranges.n c.if-n-lt0.true _ _ _ _ _ c.magnitude-size.ensures c.put_number.ensures.text_put; upper_bound = omega (arith, c.put_number.ensures.upper_bound) }

pub returns : goal.returns
returns c = record { text_put = put_high _ c.ranges.n c.if-n-lt0.false _ _ _ _ _ c.magnitude-size.ensures c.put_number-2.ensures.text_put; upper_bound = omega (arith, c.put_number-2.ensures.upper_bound) }
