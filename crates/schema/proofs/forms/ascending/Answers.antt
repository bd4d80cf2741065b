use Rattle.rules.specs.Format.{ascending}
use Rattle.schema.proofs.Given.{ascending_suc}
use Rattle.schema.proofs.forms.ascending.Goals as goal

pub returns-then-j-eq0 : goal.returns-then-j-eq0
unfolding ascending
returns-then-j-eq0 c = rw c.if-j-eq0.true

pub returns : goal.returns
returns c = ascending_suc _ _ _ c.if-j-eq0.false _ _ c.entry_at-last.ensures c.entry_at-e.ensures _ c.compare.ensures _ c.is_less.ensures
