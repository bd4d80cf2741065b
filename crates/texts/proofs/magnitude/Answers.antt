-- Below 0 the number is one less than 0 less some number, and from 0 on it is itself.
-- Assumes nothing.
use Rattle.texts.proofs.Integers.{less_one_fits, less_one_cast, one_more_fits, one_more_lem, high_cast}
use Rattle.texts.proofs.magnitude.Goals as goal

pub overflow_sub-result : goal.overflow_sub-result
overflow_sub-result c = less_one_fits _ c.ranges.n c.if-n-lt0.true

pub overflow_cast-result : goal.overflow_cast-result
overflow_cast-result c = less_one_cast _ c.ranges.n c.if-n-lt0.true

pub overflow_add-result : goal.overflow_add-result
overflow_add-result c = one_more_fits _ c.ranges.n c.if-n-lt0.true

pub returns-then-n-lt0 : goal.returns-then-n-lt0
returns-then-n-lt0 c = one_more_lem _ c.ranges.n c.if-n-lt0.true

pub overflow_cast-result-2 : goal.overflow_cast-result-2
overflow_cast-result-2 c = high_cast _ c.ranges.n c.if-n-lt0.false
