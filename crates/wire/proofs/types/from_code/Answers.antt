use Rattle.rules.specs.Wire.{type_of, wire_types}
use Rattle.wire.proofs.CodeTable.{type_in_lem, type_out}
use Rattle.wire.proofs.types.from_code.Goals as goal

pub returns-then-code-lt20 : goal.returns-then-code-lt20
unfolding type_of wire_types
returns-then-code-lt20 c = type_in_lem wire_types _ c.args.code c.if-code-lt20.true

pub returns-else-code-lt20 : goal.returns-else-code-lt20
unfolding type_of wire_types
returns-else-code-lt20 c = type_out wire_types c.args.code c.if-code-lt20.false
