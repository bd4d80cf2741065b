-- Piece after piece: what is left is the pieces from a position on.
-- Assumes nothing.
use Rattle.std.proofs.Common.{◌-◌, length}
use Rattle.listings.proofs.Telling.{Telling}
use Rattle.listings.proofs.tell_pieces.Given as goal

abbrev pub invariant-loop-end : goal.invariant-loop-end
invariant-loop-end g l = Telling l.schema l.names l.stream l.row l.at

abbrev pub decreases-loop-end : goal.decreases-loop-end
decreases-loop-end g l = length l.stream - l.at
