use Rattle.rules.specs.Wire.{wire_types}
use Rattle.wire.proofs.NameTable.{left_all, left_none, left_found, left_next}
use Rattle.wire.proofs.names.parse.Goals as goal

pub loop-t-init : goal.loop-t-init
loop-t-init c = left_all _

pub returns-then-is_name : goal.returns-then-is_name
unfolding wire_types
returns-then-is_name c = left_found _ _ _ c.loop-t.invariant c.loop-t-test.true _ c.is_name.ensures c.if-is_name.true

pub loop-t-preserved : goal.loop-t-preserved
unfolding wire_types
loop-t-preserved c = left_next _ _ _ c.loop-t.invariant c.loop-t-test.true _ c.is_name.ensures c.if-is_name.false

pub returns : goal.returns
returns c = left_none _ _ c.loop-t.invariant c.loop-t-test.false
