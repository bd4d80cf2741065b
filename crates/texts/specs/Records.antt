-- What a listing tells of a value record: of its fields and the payload store, so that no value is built.
-- Assumes nothing: these are definitions.
use Rattle.std.specs.Prelude.{ℕ, ◌+◌, ◌^◌, ◌≤◌, ◌<◌, ◌≡◌, Bool, true, false, List, ◌++◌, ltb, eqb}
use Rattle.rules.specs.Choice.{pick}
use Rattle.rules.specs.Bytes.{le_at, part}
use Rattle.rules.specs.Wire.{form, width_of}
use Rattle.rules.specs.Names.{ascii}
use Rattle.rules.specs.Lines.{decimal}
use Rattle.rules.specs.Query.{signed}
use Rattle.rules.specs.Numerals.{integer_in, integer_text}
use Rattle.rules.specs.Listing.{hex_bytes, number_text, listing_line}
use Rattle.rules.specs.declared.table_record.ValueRecord.{ValueRecord}

-- int128, int256 and blobs stand in the payload store
unfoldable pub is_stored : ℕ → Bool
is_stored kind = pick (ltb kind 13) (pick (ltb kind 6) false (ltb kind 8)) (ltb kind 15)

-- the payload bytes of a record
unfoldable pub kept : ValueRecord → ℕ
kept r = pick (is_stored r.kind) r.size 0

-- int8 to int64, uint8 to uint64 and double, with bits that their width holds
pub record IsNumber (kind bits : ℕ) : Type 0 where
  pub scalar : kind < 13
  pub narrow : width_of (form kind) ≤ 8
  pub fits : bits < 256 ^ width_of (form kind)

-- payload of a record that lies in a store of so many bytes; int128 and int256, the kinds below 8, have some bytes, and at most 32
pub record IsPayload (kind from count store : ℕ) : Type 0 where
  pub within : from + count ≤ store
  pub integer : kind < 8 → (0 < count) × (count ≤ 32)

-- what is asked of a record: its payload lies in a store of so many bytes, and its number is one
pub record Told (r : ValueRecord) (store : ℕ) : Type 0 where
  pub stored : is_stored r.kind ≡ true → IsPayload r.kind r.content r.size store
  pub number : is_stored r.kind ≡ false → 1 < r.kind → r.kind < 15 → IsNumber r.kind r.content

-- an integer by its number, a blob by its bytes
unfoldable pub payload_text : ℕ → List ℕ → ℕ → ℕ → List ℕ
payload_text kind store from count = pick (ltb kind 8) (integer_in 16 (signed count (le_at store from count))) (hex_bytes (part store from count))

-- the same of payload that is a slice of its own
unfoldable pub bytes_text : ℕ → List ℕ → List ℕ
bytes_text kind xs = pick (ltb kind 8) (integer_text xs) (hex_bytes xs)

unfoldable pub content_text : ValueRecord → List ℕ → List ℕ
content_text r store =
    pick (is_stored r.kind) (payload_text r.kind store r.content r.size)
    (pick (ltb 14 r.kind) (decimal r.size)
    (pick (eqb r.kind 0) (ascii "-")
    (pick (eqb r.kind 1) (decimal r.content) (number_text r.kind r.content))))

unfoldable pub line_front : ℕ → ℕ → ℕ → List ℕ
line_front row depth tag = decimal row ++ ((ascii " " ++ decimal depth) ++ (ascii " " ++ decimal tag))

-- the record's line
unfoldable pub record_line : ℕ → ℕ → ValueRecord → List ℕ → List ℕ
record_line row depth r store = listing_line row depth r.tag r.kind (content_text r store)
