use borrow.Author.Tests.{not-true, not-false}
use native.Mathlib.Omega.{arith}
use Rattle.windows.proofs.Moves.{place_stays, place_moves, place_fits}
use Rattle.windows.proofs.moved.Goals as goal

-- A place that moves plus where the window starts; any other stays.
-- Assumes nothing.

pub returns-then-not-line : goal.returns-then-not-line
returns-then-not-line c = place_stays _ _ _ c.line-line.ensures (not-true c.line-line.result.moves c.if-not-line.true)

pub overflow_add-result : goal.overflow_add-result
overflow_add-result c = let h = place_fits 4294967295 _ _ c.line-line.ensures (not-false c.line-line.result.moves c.if-not-line.false) c.requires.0 in omega (arith, h)

pub returns : goal.returns
returns c = place_moves _ _ _ c.line-line.ensures (not-false c.line-line.result.moves c.if-not-line.false)
