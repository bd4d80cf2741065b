-- The listing of a delivery of one inline table: a line for each value record of its rows, and a last line.
-- Assumes nothing: these are definitions.
use Rattle.rules.specs.declared.answer.Extent.{Extent}
use Rattle.std.specs.Prelude.{ℕ, zero, suc, ◌+◌, ◌-◌, ◌/◌, ◌%◌, List, [], ◌∷◌, ◌++◌, Bool, length, get_or, ltb, leb, Result, Option, Ok, Err, Some, None}
use Prim.Native.String.{String}
use Rattle.rules.specs.Choice.{pick, ◌and◌}
use Rattle.rules.specs.Wire.{form, width_of}
use Rattle.rules.specs.Names.{ascii}
use Rattle.rules.specs.Numerals.{digit, integer_in, integer_text}
use Rattle.rules.specs.Lines.{decimal, is_none, code_word, end_line}
use Rattle.rules.specs.Refusals.{refusal_number, Setting}
use Rattle.rules.specs.Block.{records}
use Rattle.rules.specs.Format.{Format}
use Rattle.rules.specs.Value.{Value, nothing, boolean, number, wide, blob, variant, repeated, tuple, Items, done, item, Values, none, more, items, values}
use Rattle.rules.specs.ValueRecord.{value_record_start}
use Rattle.rules.specs.ValueTable.{bit, value_kind}
use Rattle.rules.specs.Query.{signed}
use Rattle.rules.specs.Walk.{Answer, Got, Refused}
use Rattle.rules.specs.Reading.{defaults, limits, door, through, row_at, extent, room_for}
use Rattle.rules.specs.Rows.{one_table, B}
use Rattle.rules.specs.declared.refusal.Refusal.{Refusal}

-- ---- numbers and bytes as text

-- bytes as they are stored, each by two digits, the upper first
unfoldable pub hex : List ℕ → List ℕ
hex [] = []
hex (b ∷ bs) = digit (b / 16) ∷ digit (b % 16) ∷ hex bs

-- a number by n digits, the top one first
unfoldable pub hex_number : ℕ → ℕ → List ℕ
hex_number zero x = []
hex_number (suc n) x = hex_number n (x / 16) ++ (digit (x % 16) ∷ [])

-- no bytes are a `-`
unfoldable pub hex_bytes : List ℕ → List ℕ
hex_bytes bs = pick (is_none bs) (ascii "-") (hex bs)

-- ---- a line

-- a kind by its name: a scalar's and a blob's is its wire type's
unfoldable pub parent_words : List (List ℕ)
parent_words = ascii "variant" ∷ ascii "repeated_variant" ∷ ascii "tuple" ∷ []

unfoldable pub kind_word : ℕ → List ℕ
kind_word kind = pick (ltb kind 15) (code_word kind) (get_or parent_words (kind - 15) [])

-- the bits of a kind: int8 to int64, uint8 to uint64, double
unfoldable pub number_text : ℕ → ℕ → List ℕ
number_text kind x = pick (ltb kind 8) (integer_in 10 (signed (width_of (form kind)) x)) (pick (ltb kind 12) (decimal x) (hex_number 16 x))

-- what is told of a value: int128 and int256 are integers of their width, blobs bytes as they are stored; of one with children how many they are
unfoldable pub value_text : Value → List ℕ
value_text nothing = ascii "-"
value_text (boolean x) = decimal (bit x)
value_text (number k x) = number_text k x
value_text (wide k x) = integer_text x
value_text (blob k x) = hex_bytes x
value_text (variant t v) = decimal 1
value_text (repeated is) = decimal (items is)
value_text (tuple vs) = decimal (values vs)

-- `ROW DEPTH TAG KIND VALUE`
unfoldable pub listing_line : ℕ → ℕ → ℕ → ℕ → List ℕ → List ℕ
listing_line row depth tag kind text =
    decimal row ++ ((ascii " " ++ decimal depth) ++ ((ascii " " ++ decimal tag) ++ ((ascii " " ++ kind_word kind) ++ ((ascii " " ++ text) ++ (10 ∷ [])))))

-- the line of a node that its parent chose by a tag
unfoldable pub node_line : ℕ → ℕ → ℕ → Value → List ℕ
node_line row depth tag v = listing_line row depth tag (value_kind v) (value_text v)

-- ---- the lines of a row

-- those of the nodes below one, in preorder, its children being so deep
unfoldable mutual
  pub lines_below : ℕ → ℕ → Value → List ℕ
  lines_below row depth nothing = []
  lines_below row depth (boolean x) = []
  lines_below row depth (number k x) = []
  lines_below row depth (wide k x) = []
  lines_below row depth (blob k x) = []
  lines_below row depth (variant t v) = node_line row depth t v ++ lines_below row (depth + 1) v
  lines_below row depth (repeated is) = lines_below_i row depth is
  lines_below row depth (tuple vs) = lines_below_v row depth vs

  pub lines_below_i : ℕ → ℕ → Items → List ℕ
  lines_below_i row depth done = []
  lines_below_i row depth (item t v is) = node_line row depth t v ++ (lines_below row (depth + 1) v ++ lines_below_i row depth is)

  pub lines_below_v : ℕ → ℕ → Values → List ℕ
  lines_below_v row depth none = []
  lines_below_v row depth (more v vs) = node_line row depth 0 v ++ (lines_below row (depth + 1) v ++ lines_below_v row depth vs)

-- a node's own line, and those below it
unfoldable pub lines_of : ℕ → ℕ → ℕ → Value → List ℕ
lines_of row depth tag v = node_line row depth tag v ++ lines_below row (depth + 1) v

-- the root's depth is 1, and nothing chose it
unfoldable pub row_lines : ℕ → Value → List ℕ
row_lines row v = lines_of row 1 0 v

-- ---- the listing, piece by piece

-- `refused NO PLACE`
unfoldable pub refusal_line : Refusal → List ℕ
refusal_line r = (ascii "refused " ++ decimal (refusal_number r)) ++ ((ascii " " ++ decimal r.place) ++ (10 ∷ []))

-- the lines of a row, and its bytes in the stream; or the last line
pub data Piece : Type 0 where
  row_piece : List ℕ → ℕ → Piece
  last_piece : List ℕ → Piece

-- by what reading a row of v at a position answers, after n rows
unfoldable pub piece_of : ℕ → ℕ → Value → Result (Option Extent) Refusal → Piece
piece_of n at v (Ok (Some e)) = row_piece (row_lines n v) e.bytes
piece_of n at v (Ok None) = last_piece (end_line n at)
piece_of n at v (Err r) = last_piece (refusal_line r)

-- a row has room for 4,096 records and 65,536 payload bytes
unfoldable pub row_piece_of : ℕ → ℕ → Answer (ℕ × Value) → Piece
row_piece_of n at (Got (t, v) q) = piece_of n at v (room_for at (value_record_start 4096) 65536 (extent at t q))
row_piece_of n at (Refused r) = last_piece (refusal_line r)

-- through the door, the row, with the default settings
unfoldable pub piece_at : Format → List ℕ → ℕ → ℕ → Piece
piece_at f inp n at = through (door f defaults inp at) (λ r. last_piece (refusal_line r)) (last_piece (end_line n at)) (row_piece_of n at (row_at f inp (limits defaults) at))

-- a file has at most 65,536 bytes
unfoldable pub files_ok : List ℕ → List ℕ → List ℕ → Bool
files_ok schema names stream = leb (length schema) 65536 and leb (length names) 65536 and leb (length stream) 65536

-- the piece of three files at a position of the stream, after n rows
unfoldable pub files_piece : List ℕ → List ℕ → List ℕ → ℕ → ℕ → Piece
files_piece schema names stream n at = pick (files_ok schema names stream) (piece_at (one_table (records schema) schema names) stream n at) (last_piece (refusal_line Setting))

unfoldable pub and_then : (ℕ → List (List ℕ)) → ℕ → Piece → List (List ℕ)
and_then rest at (row_piece text bytes) = text ∷ rest (at + bytes)
and_then rest at (last_piece text) = text ∷ []

-- each row has at least its tag's two bytes, so as many pieces as there are bytes left, and one more, are enough
unfoldable pub pieces_from : List ℕ → List ℕ → List ℕ → ℕ → ℕ → ℕ → List (List ℕ)
pieces_from schema names stream zero n at = []
pieces_from schema names stream (suc enough) n at = and_then (pieces_from schema names stream enough (n + 1)) at (files_piece schema names stream n at)

-- the texts that three files are told in, one after another
unfoldable pub pieces : List ℕ → List ℕ → List ℕ → List (List ℕ)
pieces schema names stream = pieces_from schema names stream (suc (length stream)) 0 0

unfoldable pub joined : List (List ℕ) → List ℕ
joined [] = []
joined (t ∷ ts) = t ++ joined ts

unfoldable pub listing : List ℕ → List ℕ → List ℕ → List ℕ
listing schema names stream = joined (pieces schema names stream)

-- ---- files

-- a file is missing, or has these bytes; one that can't be read counts as missing
pub data File : Type 0 where
  missing : File
  holds : List ℕ → File

unfoldable pub files_listing : File → File → File → List ℕ
files_listing missing names stream = refusal_line Setting
files_listing (holds a) missing stream = refusal_line Setting
files_listing (holds a) (holds b) missing = refusal_line Setting
files_listing (holds a) (holds b) (holds c) = listing a b c

-- ---- document 01's example: B's four schema records, the name store `v` and B's seven-byte row
unfoldable pub example_listing : List ℕ
example_listing = files_listing (holds B.table) (holds B.names) (holds (0x00 ∷ 0x00 ∷ 0x00 ∷ 0x07 ∷ 0x01 ∷ 0xFE ∷ 0xFF ∷ []))

unfoldable pub ended : String → List ℕ
ended line = ascii line ++ (10 ∷ [])

unfoldable pub example_lines : List (List ℕ)
example_lines =
    ended "0 1 0 tuple 1"
    ∷ ended "0 2 0 repeated_variant 2"
    ∷ ended "0 3 0 boolean 1"
    ∷ ended "0 3 1 int8 -2"
    ∷ ended "end 1 7"
    ∷ []
