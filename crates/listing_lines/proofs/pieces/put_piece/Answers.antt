use mathlib.Core.Path.{sym, ◌∙◌}
use native.Mathlib.Omega.{arith}
use Rattle.listing_lines.specs.Pieces.{shown_length}
use Rattle.listing_lines.proofs.FromDecode.{no_room, too_long, in_room}
use Rattle.listing_lines.proofs.pieces.put_piece.Goals as goal

-- By the tests, and then by what is read.
-- Assumes nothing.

pub returns-then-text-lt-TEXT_ROOM : goal.returns-then-text-lt-TEXT_ROOM
unfolding shown_length
returns-then-text-lt-TEXT_ROOM c = record { text_after = no_room _ _ _ _ _ _ c.if-text-lt-TEXT_ROOM.true; result_bound = omega arith }

pub returns-then-not-files_ok : goal.returns-then-not-files_ok
unfolding shown_length
returns-then-not-files_ok c = record { text_after = too_long _ _ _ _ _ _ c.if-text-lt-TEXT_ROOM.false (sym c.files_ok.ensures ∙ c.if-not-files_ok.true) _ _ c.put_refusal_line.ensures.text_put; result_bound = omega (arith, c.put_refusal_line.ensures.upper_bound) }

pub returns : goal.returns
returns c = record { text_after = in_room _ _ _ _ _ _ c.if-text-lt-TEXT_ROOM.false (sym c.files_ok.ensures ∙ c.if-not-files_ok.false) _ c.put_read.ensures.text_after; result_bound = c.put_read.ensures.result_bound }
