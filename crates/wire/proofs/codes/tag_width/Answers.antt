use native.Mathlib.Omega.{arith}
use Rattle.wire.proofs.CodeTable.{tag_width_lem}
use Rattle.wire.proofs.codes.tag_width.Goals as goal

pub returns-then-code-eq1 : goal.returns-then-code-eq1
returns-then-code-eq1 c = omega (arith, c.if-code-eq1.true, tag_width_lem _ c.requires.0 c.requires.1)

pub returns-else-code-eq1 : goal.returns-else-code-eq1
returns-else-code-eq1 c = omega (arith, c.if-code-eq1.false, tag_width_lem _ c.requires.0 c.requires.1)
