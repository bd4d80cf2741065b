use Rattle.value.specs.Records.{tag_ok}
use Rattle.value.proofs.tag_ok.Goals as goal

pub returns-then-tagged : goal.returns-then-tagged
unfolding tag_ok
returns-then-tagged c = rw c.if-tagged.true

pub returns : goal.returns
unfolding tag_ok
returns c = rw c.if-tagged.false
