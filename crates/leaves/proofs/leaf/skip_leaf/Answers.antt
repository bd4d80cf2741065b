use Rattle.std.proofs.lemmas.Result.{err_from_is_err_and}
use borrow.Author.Tests.{lt-ltb, le-ltb}
use Rattle.rules.specs.Choice.{pick}
use Rattle.leaves.specs.Leaf.{skim_leaf}
use Rattle.leaves.proofs.leaf.skip_leaf.Goals as goal

pub returns-in_err-q : goal.returns-in_err-q
unfolding skim_leaf pick
returns-in_err-q c =
    let p = err_from_is_err_and c.from_residual.result c.from_residual.ensures.1 in
    rw (p.1, p.2, lt-ltb _ _ c.if-code-lt13.true, ← c.skip_fixed.ensures, c.in_err-q.was)

pub returns-then-code-lt13 : goal.returns-then-code-lt13
unfolding skim_leaf pick
returns-then-code-lt13 c = rw (lt-ltb _ _ c.if-code-lt13.true, ← c.skip_fixed.ensures, c.in_ok-q.was)

pub returns-in_err-q-2 : goal.returns-in_err-q-2
unfolding skim_leaf pick
returns-in_err-q-2 c =
    let p = err_from_is_err_and c.from_residual-in_err-q-2.result c.from_residual-in_err-q-2.ensures.1 in
    rw (p.1, p.2, le-ltb _ _ c.if-code-lt13.false, ← c.skip_blob.ensures, c.in_err-q-2.was)

pub returns : goal.returns
unfolding skim_leaf pick
returns c = rw (le-ltb _ _ c.if-code-lt13.false, ← c.skip_blob.ensures, c.in_ok-q-2.was)
