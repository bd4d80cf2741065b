use borrow.Author.Tests.{lt-ltb, le-ltb}
use Rattle.rules.specs.Choice.{pick}
use Rattle.read.specs.Children.{by_tag, picked}
use Rattle.leaves.proofs.Codes.{shape_tuple}
use Rattle.read.proofs.Tags.{picked_tag}
use Rattle.read.proofs.walk.next_child.Goals as goal

pub returns-then-count-i : goal.returns-then-count-i
unfolding picked pick
returns-then-count-i c = rw (shape_tuple _ c.if-code-gt18.true, le-ltb _ _ c.if-count-i.true)

pub returns-then-code-gt18 : goal.returns-then-code-gt18
unfolding picked pick
returns-then-code-gt18 c = rw (shape_tuple _ c.if-code-gt18.true, lt-ltb _ _ c.if-count-i.false)

pub returns-in_default : goal.returns-in_default
unfolding by_tag
returns-in_default c = rw (picked_tag _ _ _ _ _ _ c.if-code-gt18.false, ← c.read_tag-t.ensures, c.unwrap_err.ensures)

pub returns-then-ends : goal.returns-then-ends
unfolding by_tag pick
returns-then-ends c = rw (picked_tag _ _ _ _ _ _ c.if-code-gt18.false, ← c.read_tag-t.ensures, c.in-Ok.is, ← c.ends.ensures, c.if-ends.true)

pub returns-then-count-tag : goal.returns-then-count-tag
unfolding by_tag pick
returns-then-count-tag c = rw (picked_tag _ _ _ _ _ _ c.if-code-gt18.false, ← c.read_tag-t.ensures, c.in-Ok.is, ← c.ends.ensures, c.if-ends.false, le-ltb _ _ c.if-count-tag.true)

pub returns : goal.returns
unfolding by_tag pick
returns c = rw (picked_tag _ _ _ _ _ _ c.if-code-gt18.false, ← c.read_tag-t.ensures, c.in-Ok.is, ← c.ends.ensures, c.if-ends.false, lt-ltb _ _ c.if-count-tag.false)
