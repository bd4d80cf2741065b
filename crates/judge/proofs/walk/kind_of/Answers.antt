use Rattle.rules.specs.Writing.{kind_for}
use Rattle.leaves.proofs.Codes.{form_variant, form_repeated, form_tuple}
use Rattle.judge.proofs.Codes.{leaf_kind}
use Rattle.judge.proofs.walk.kind_of.Goals as goal

pub returns-then-code-lt15 : goal.returns-then-code-lt15
returns-then-code-lt15 c = leaf_kind _ c.if-code-lt15.true

pub returns-then-code-lt17 : goal.returns-then-code-lt17
unfolding kind_for
returns-then-code-lt17 c = rw (form_variant _ c.if-code-lt15.false c.if-code-lt17.true)

pub returns-then-code-lt19 : goal.returns-then-code-lt19
unfolding kind_for
returns-then-code-lt19 c = rw (form_repeated _ c.if-code-lt17.false c.if-code-lt19.true)

pub returns : goal.returns
unfolding kind_for
returns c = rw (form_tuple _ c.if-code-lt19.false c.requires)
