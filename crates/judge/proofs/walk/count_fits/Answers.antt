use Rattle.leaves.proofs.Codes.{shape_tuple}
use Rattle.judge.specs.Judging.{count_ok}
use Rattle.judge.proofs.Codes.{uncounted}
use Rattle.judge.proofs.walk.count_fits.Goals as goal

pub returns-then-code-lt19 : goal.returns-then-code-lt19
returns-then-code-lt19 c = uncounted _ _ _ c.if-code-lt19.true

pub returns : goal.returns
unfolding count_ok
returns c = rw (shape_tuple _ c.if-code-lt19.false)
