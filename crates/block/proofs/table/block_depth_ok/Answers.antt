use mathlib.Core.Path.{◌∙◌}
use borrow.Author.Tests.{le-leb}
use Rattle.rules.specs.Format.{block_depth_ok}
use Rattle.block.proofs.Depth.{few_records}
use Rattle.block.proofs.table.block_depth_ok.Goals as goal

pub returns-then-count-le64 : goal.returns-then-count-le64
returns-then-count-le64 c = le-leb _ _ c.if-count-le64.true ∙ few_records _ _ _ c.requires c.if-count-le64.true

pub returns-else-count-le64 : goal.returns-else-count-le64
unfolding block_depth_ok
returns-else-count-le64 c = rw (← c.block_of.ensures, ← c.depth_of.ensures)
