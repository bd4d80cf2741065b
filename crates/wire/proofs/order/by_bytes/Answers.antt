use borrow.Author.Rules.{rules}
use native.Mathlib.Omega.{arith}
use mathlib.Core.Path.{◌∙◌}
use Rattle.wire.proofs.Compared.{rest_first, rest_second_ended, rest_less, rest_greater, rest_next, rest_ended}
use Rattle.wire.proofs.order.by_bytes.Goals as goal

pub loop-k-init : goal.loop-k-init
loop-k-init c = (search rules, rest_first _ _ _ _ _ _)

pub returns-then-lb-k : goal.returns-then-lb-k
returns-then-lb-k c = rest_second_ended _ _ _ _ _ _ _ c.loop-k.invariant.1 (search rules) c.if-lb-k.true

pub returns-then-x-y : goal.returns-then-x-y
returns-then-x-y c = rest_less _ _ _ _ _ _ _ c.loop-k.invariant.1 (search rules) c.if-x-y.true

pub returns-then-y-x : goal.returns-then-y-x
returns-then-y-x c = rest_greater _ _ _ _ _ _ _ c.loop-k.invariant.1 (search rules) c.if-y-x.true

pub loop-k-preserved : goal.loop-k-preserved
loop-k-preserved c = (search rules, rest_next _ _ _ _ _ _ _ c.loop-k.invariant.1 (search rules) (omega (arith, c.if-x-y.false, c.if-y-x.false)))

pub returns : goal.returns
returns c = c.cmp.ensures ∙ rest_ended _ _ _ _ _ _ _ c.loop-k.invariant.1 (search rules)
