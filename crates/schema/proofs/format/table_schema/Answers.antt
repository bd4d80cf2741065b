use borrow.Author.Tests.{lt-ltb, le-ltb}
use Rattle.rules.specs.Choice.{pick}
use Rattle.rules.specs.Format.{table_schema}
use Rattle.schema.proofs.format.table_schema.Goals as goal

pub returns-then-m-t : goal.returns-then-m-t
unfolding table_schema pick
returns-then-m-t c = rw (← c.format.view_is, le-ltb _ _ c.if-m-t.true)

pub returns : goal.returns
unfolding table_schema pick
returns c = rw (← c.format.view_is, lt-ltb _ _ c.if-m-t.false, ← c.reference_at.ensures) c.resolve.ensures
