use borrow.Author.Tests.{le-leb, lt-leb}
use Rattle.rules.specs.Choice.{◌and◌}
use Rattle.rules.specs.Block.{record_ok}
use Rattle.block.proofs.form.node_ok.Goals as goal

pub returns-then-code-gt19 : goal.returns-then-code-gt19
unfolding record_ok ◌and◌
returns-then-code-gt19 c = rw (lt-leb _ _ c.if-code-gt19.true)

pub returns-then-name_ok : goal.returns-then-name_ok
unfolding record_ok ◌and◌
returns-then-name_ok c = rw (le-leb _ _ c.if-code-gt19.false, ← c.name_ok.ensures, c.if-name_ok.true) c.children_ok.ensures

pub returns : goal.returns
unfolding record_ok ◌and◌
returns c = rw (le-leb _ _ c.if-code-gt19.false, ← c.name_ok.ensures, c.if-name_ok.false)
