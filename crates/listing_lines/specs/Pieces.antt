-- A piece of a listing in a buffer.
-- Assumes nothing: these are definitions.
use Rattle.std.specs.Prelude.{ℕ, List, length, leb}
use Rattle.rules.specs.Choice.{pick}
use Rattle.rules.specs.Bytes.{over}
use Rattle.rules.specs.Listing.{Piece, row_piece, last_piece, files_piece}
use Rattle.listing_lines.specs.declared.pieces.Shown.{Shown}
use Rattle.listing_lines.specs.declared.pieces.Shown.TheVariants.{Row, Last, NoRoom}

-- what is answered, and the buffer afterwards
pub record PieceShown : Type 0 where
  pub shown : Shown
  pub text : List ℕ

-- so many bytes of the buffer are the piece
unfoldable pub shown_length : Shown → ℕ
shown_length (Row n bytes) = n
shown_length (Last n) = n
shown_length NoRoom = 0

-- the piece stands at the buffer's start, and its length is answered
unfoldable pub show_piece : Piece → List ℕ → PieceShown
show_piece (row_piece lines bytes) text = record { shown = Row (length lines) bytes; text = over text 0 lines }
show_piece (last_piece line) text = record { shown = Last (length line); text = over text 0 line }

-- in a buffer that has room for any row's lines; a shorter one stays
unfoldable pub piece_shown : List ℕ → List ℕ → List ℕ → ℕ → ℕ → List ℕ → PieceShown
piece_shown schema names stream row at text = pick (leb 655360 (length text)) (show_piece (files_piece schema names stream row at) text) (record { shown = NoRoom; text = text })
