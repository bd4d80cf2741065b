use Rattle.wire.proofs.CodeTable.{fixed_in, fixed_out}
use Rattle.wire.proofs.types.fixed_width.Goals as goal

pub returns-then-code-lt13 : goal.returns-then-code-lt13
returns-then-code-lt13 c = let b = c in
    rw c.code_width.ensures.0 (fixed_in _ _ b.code_of-code.ensures c.if-code-lt13.true)

pub returns-else-code-lt13 : goal.returns-else-code-lt13
returns-else-code-lt13 c = fixed_out _ _ c.code_of-code.ensures c.if-code-lt13.false
