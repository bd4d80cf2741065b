-- 'Rows on both sides of each edge': document 01's table, and rows at the two blob limits of document 02, d. Flat bytes go in; number, place
-- and carried values come out; an accepted row is decoded, and encoded again from what decode has left.
-- Assumes nothing: these are definitions.
use Rattle.rules.specs.declared.answer.Extent.{Extent}
use Rattle.rules.specs.declared.refusal.Refusal.{Refusal}
use Rattle.std.specs.Prelude.{ℕ, List, [], ◌∷◌, ◌++◌, take, replicate, Result, Option, Ok, Err, Some, None}
use Rattle.rules.specs.Bytes.{le}
use Rattle.rules.specs.Names.{ascii}
use Rattle.rules.specs.Block.{records}
use Rattle.rules.specs.Format.{Format}
use Rattle.rules.specs.ValueRecord.{value_record_start}
use Rattle.rules.specs.Reading.{skip_rule, Decoded, decode_rule}
use Rattle.rules.specs.Answers.{Said, none_said, read_said}
use Rattle.rules.specs.Writing.{encode_from}
use Rattle.rules.specs.declared.settings.Settings.{Settings}

-- ---- the formats

-- a schema record: wire code, whether it has a name, name length, name start, first child, child count
unfoldable pub schema_record : ℕ → ℕ → ℕ → ℕ → ℕ → ℕ → List ℕ
schema_record code has len start first children = code ∷ has ∷ (le 2 len ++ (le 4 start ++ (le 4 first ++ le 4 children)))

-- one inline table, whose block is the whole record table
unfoldable pub one_table : ℕ → List ℕ → List ℕ → Format
one_table n table names = record { table = table; names = names; references = 0 ∷ 0 ∷ 0 ∷ 0 ∷ (le 4 0 ++ (le 4 n ++ le 4 0)); registry = [] }

-- tuple("page" uint8, "name" variant8(nothing, string32))
unfoldable pub A : Format
A = one_table 5
    (schema_record 19 0 0 0 1 2
    ++ (schema_record 8 1 4 0 0 0
    ++ (schema_record 15 1 4 4 3 2
    ++ (schema_record 0 0 0 0 0 0
    ++ schema_record 13 0 0 0 0 0))))
    (ascii "pagename")

-- tuple("v" repeated_variant8(boolean, int8))
unfoldable pub B : Format
B = one_table 4
    (schema_record 19 0 0 0 1 1
    ++ (schema_record 17 1 1 0 2 2
    ++ (schema_record 1 0 0 0 0 0
    ++ schema_record 2 0 0 0 0 0)))
    (ascii "v")

-- tuple("name" string32, "note" yson32)
unfoldable pub C : Format
C = one_table 3
    (schema_record 19 0 0 0 1 2
    ++ (schema_record 13 1 4 0 0 0
    ++ schema_record 14 1 4 4 0 0))
    (ascii "namenote")

-- ---- a line of the table, and what comes out of it

-- a format, the three limits, and the bytes of a stream; the charge is 48
pub record RowLine : Type 0 where
  pub format : Format
  pub string32 : ℕ
  pub yson32 : ℕ
  pub row : ℕ
  pub bytes : List ℕ

unfoldable pub settings : RowLine → Settings
settings l = record { node_charge = 48; max_string32_bytes = l.string32; max_yson32_bytes = l.yson32; max_row_bytes = l.row }

-- what skip and decode say; decode's two slices afterwards; and the bytes of the row, encoded again
pub record RowOutcome : Type 0 where
  pub skipped : Said
  pub decoded : Said
  pub records : List ℕ
  pub payload : List ℕ
  pub again : List ℕ

-- n bytes that nobody has written
unfoldable pub blank : ℕ → List ℕ
blank n = replicate n 0xEE

unfoldable pub encoded_again : Result Extent Refusal → List ℕ → List ℕ
encoded_again (Ok e) out = take e.bytes out
encoded_again (Err r) out = []

-- the row, encoded from what decode has left
unfoldable pub again : RowLine → Result (Option Extent) Refusal → Decoded → List ℕ
again l (Ok None) d = []
again l (Err r) d = []
again l (Ok (Some e)) d =
    let n = records l.format.table in
    let x = encode_from l.format (settings l) 0 n (take (value_record_start e.records) d.records) (take e.payload d.payload) (blank 12) 0 in
    encoded_again x.answer x.output

-- decode has room for four records and some bytes more, and for three payload bytes
unfoldable pub outcome : RowLine → RowOutcome
outcome l =
    let d = decode_rule l.format (settings l) l.bytes 0 (blank 70) (blank 3) in
    record {
      skipped = read_said (skip_rule l.format (settings l) l.bytes 0);
      decoded = read_said d.answer;
      records = d.records;
      payload = d.payload;
      again = again l d.answer d;
    }

-- ---- the lines

-- the default limits, unless a line says otherwise
unfoldable pub line : Format → List ℕ → RowLine
line f bytes = record { format = f; string32 = 134217728; yson32 = 134217728; row = 268435456; bytes = bytes }

-- one limit for both blob types, and the row limit
unfoldable pub limited : ℕ → ℕ → Format → List ℕ → RowLine
limited blob row f bytes = record { format = f; string32 = blob; yson32 = blob; row = row; bytes = bytes }

-- string32's limit and yson32's
unfoldable pub apart : ℕ → ℕ → Format → List ℕ → RowLine
apart string32 yson32 f bytes = record { format = f; string32 = string32; yson32 = yson32; row = 268435456; bytes = bytes }

unfoldable pub ten_bytes : List ℕ
ten_bytes = 0x00 ∷ 0x00 ∷ 0x25 ∷ 0x01 ∷ 0x02 ∷ 0x00 ∷ 0x00 ∷ 0x00 ∷ 0xD1 ∷ 0xC5 ∷ []

unfoldable pub lines : List RowLine
lines =
    line A []
    ∷ line A (0x00 ∷ [])
    ∷ line A (0x01 ∷ 0x00 ∷ [])
    ∷ line A (0x00 ∷ 0x00 ∷ [])
    ∷ limited 134217728 47 A (0x00 ∷ 0x00 ∷ [])
    ∷ line A (0x00 ∷ 0x00 ∷ 0x25 ∷ 0x00 ∷ [])
    ∷ line A ten_bytes
    ∷ limited 134217728 194 A ten_bytes
    ∷ limited 134217728 193 A ten_bytes
    ∷ limited 1 192 A ten_bytes
    ∷ limited 1 268435456 A ten_bytes
    ∷ line A (take 9 ten_bytes)
    ∷ line A (0x00 ∷ 0x00 ∷ 0x25 ∷ 0x02 ∷ [])
    ∷ line B (0x00 ∷ 0x00 ∷ 0x00 ∷ 0x07 ∷ 0x01 ∷ 0xFE ∷ 0xFF ∷ [])
    ∷ line B (0x00 ∷ 0x00 ∷ 0xFF ∷ [])
    ∷ []

-- both blobs in one row, of one byte each
unfoldable pub two_blobs : List ℕ
two_blobs = 0x00 ∷ 0x00 ∷ 0x01 ∷ 0x00 ∷ 0x00 ∷ 0x00 ∷ 0x61 ∷ 0x01 ∷ 0x00 ∷ 0x00 ∷ 0x00 ∷ 0x62 ∷ []

-- each limit at equality and one below; then a limit that no blob of the schema asks for, at 0, at its largest, and one past that
unfoldable pub limit_lines : List RowLine
limit_lines =
    apart 1 1 C two_blobs
    ∷ apart 0 1 C two_blobs
    ∷ apart 1 0 C two_blobs
    ∷ apart 2 0 A ten_bytes
    ∷ apart 2 4294967295 A ten_bytes
    ∷ apart 2 4294967296 A ten_bytes
    ∷ apart 1 2 A ten_bytes
    ∷ apart 4294967296 1 C two_blobs
    ∷ []

-- ---- what comes out of them

-- no row: both say the same, and both slices are as before
unfoldable pub same : Said → RowOutcome
same answer = record { skipped = answer; decoded = answer; records = blank 70; payload = blank 3; again = [] }

-- a refusal: number, place, carried values
unfoldable pub refusal : ℕ → ℕ → List ℕ → RowOutcome
refusal number place carries = same (record { number = number; place = place; carries = carries })

-- a row of table 0: bytes, records, payload bytes; what decode leaves; the bytes that are encoded again
unfoldable pub row : ℕ → ℕ → ℕ → List ℕ → List ℕ → List ℕ → RowOutcome
row bytes records payload recs pay again =
    let answer : Said = record { number = 0; place = 0; carries = 0 ∷ bytes ∷ records ∷ payload ∷ [] } in
    record { skipped = answer; decoded = answer; records = recs; payload = pay; again = again }

-- the records of A's ten bytes: a tuple of 2; uint8 25; a variant; by tag 1 a string32 of 2 bytes from 0 on. Six bytes stay.
unfoldable pub ten_records : List ℕ
ten_records =
    17 ∷ 0 ∷ 0 ∷ 0 ∷ 2 ∷ 0 ∷ 0 ∷ 0 ∷ 0 ∷ 0 ∷ 0 ∷ 0 ∷ 0 ∷ 0 ∷ 0 ∷ 0
    ∷ 8 ∷ 0 ∷ 0 ∷ 0 ∷ 0 ∷ 0 ∷ 0 ∷ 0 ∷ 0x25 ∷ 0 ∷ 0 ∷ 0 ∷ 0 ∷ 0 ∷ 0 ∷ 0
    ∷ 15 ∷ 0 ∷ 0 ∷ 0 ∷ 1 ∷ 0 ∷ 0 ∷ 0 ∷ 0 ∷ 0 ∷ 0 ∷ 0 ∷ 0 ∷ 0 ∷ 0 ∷ 0
    ∷ 13 ∷ 0 ∷ 1 ∷ 0 ∷ 2 ∷ 0 ∷ 0 ∷ 0 ∷ 0 ∷ 0 ∷ 0 ∷ 0 ∷ 0 ∷ 0 ∷ 0 ∷ 0
    ∷ 0xEE ∷ 0xEE ∷ 0xEE ∷ 0xEE ∷ 0xEE ∷ 0xEE ∷ []

-- of A's four bytes: as before, but by tag 0 a nothing
unfoldable pub four_records : List ℕ
four_records =
    17 ∷ 0 ∷ 0 ∷ 0 ∷ 2 ∷ 0 ∷ 0 ∷ 0 ∷ 0 ∷ 0 ∷ 0 ∷ 0 ∷ 0 ∷ 0 ∷ 0 ∷ 0
    ∷ 8 ∷ 0 ∷ 0 ∷ 0 ∷ 0 ∷ 0 ∷ 0 ∷ 0 ∷ 0x25 ∷ 0 ∷ 0 ∷ 0 ∷ 0 ∷ 0 ∷ 0 ∷ 0
    ∷ 15 ∷ 0 ∷ 0 ∷ 0 ∷ 1 ∷ 0 ∷ 0 ∷ 0 ∷ 0 ∷ 0 ∷ 0 ∷ 0 ∷ 0 ∷ 0 ∷ 0 ∷ 0
    ∷ 0 ∷ 0 ∷ 0 ∷ 0 ∷ 0 ∷ 0 ∷ 0 ∷ 0 ∷ 0 ∷ 0 ∷ 0 ∷ 0 ∷ 0 ∷ 0 ∷ 0 ∷ 0
    ∷ 0xEE ∷ 0xEE ∷ 0xEE ∷ 0xEE ∷ 0xEE ∷ 0xEE ∷ []

-- of B's seven bytes: a tuple of 1; a repeated of 2; by tag 0 a boolean, 1; by tag 1 int8 FE
unfoldable pub seven_records : List ℕ
seven_records =
    17 ∷ 0 ∷ 0 ∷ 0 ∷ 1 ∷ 0 ∷ 0 ∷ 0 ∷ 0 ∷ 0 ∷ 0 ∷ 0 ∷ 0 ∷ 0 ∷ 0 ∷ 0
    ∷ 16 ∷ 0 ∷ 0 ∷ 0 ∷ 2 ∷ 0 ∷ 0 ∷ 0 ∷ 0 ∷ 0 ∷ 0 ∷ 0 ∷ 0 ∷ 0 ∷ 0 ∷ 0
    ∷ 1 ∷ 0 ∷ 0 ∷ 0 ∷ 0 ∷ 0 ∷ 0 ∷ 0 ∷ 1 ∷ 0 ∷ 0 ∷ 0 ∷ 0 ∷ 0 ∷ 0 ∷ 0
    ∷ 2 ∷ 0 ∷ 1 ∷ 0 ∷ 0 ∷ 0 ∷ 0 ∷ 0 ∷ 0xFE ∷ 0 ∷ 0 ∷ 0 ∷ 0 ∷ 0 ∷ 0 ∷ 0
    ∷ 0xEE ∷ 0xEE ∷ 0xEE ∷ 0xEE ∷ 0xEE ∷ 0xEE ∷ []

-- of B's three bytes: a tuple of 1; a repeated of none. The rest stays.
unfoldable pub three_records : List ℕ
three_records =
    17 ∷ 0 ∷ 0 ∷ 0 ∷ 1 ∷ 0 ∷ 0 ∷ 0 ∷ 0 ∷ 0 ∷ 0 ∷ 0 ∷ 0 ∷ 0 ∷ 0 ∷ 0
    ∷ 16 ∷ 0 ∷ 0 ∷ 0 ∷ 0 ∷ 0 ∷ 0 ∷ 0 ∷ 0 ∷ 0 ∷ 0 ∷ 0 ∷ 0 ∷ 0 ∷ 0 ∷ 0
    ∷ blank 38

-- of C's twelve bytes: a tuple of 2; a string32 of 1 byte from 0 on; a yson32 of 1 byte from 1 on. The rest stays.
unfoldable pub twelve_records : List ℕ
twelve_records =
    17 ∷ 0 ∷ 0 ∷ 0 ∷ 2 ∷ 0 ∷ 0 ∷ 0 ∷ 0 ∷ 0 ∷ 0 ∷ 0 ∷ 0 ∷ 0 ∷ 0 ∷ 0
    ∷ 13 ∷ 0 ∷ 0 ∷ 0 ∷ 1 ∷ 0 ∷ 0 ∷ 0 ∷ 0 ∷ 0 ∷ 0 ∷ 0 ∷ 0 ∷ 0 ∷ 0 ∷ 0
    ∷ 14 ∷ 0 ∷ 0 ∷ 0 ∷ 1 ∷ 0 ∷ 0 ∷ 0 ∷ 1 ∷ 0 ∷ 0 ∷ 0 ∷ 0 ∷ 0 ∷ 0 ∷ 0
    ∷ blank 22

unfoldable pub ten_payload : List ℕ
ten_payload = 0xD1 ∷ 0xC5 ∷ 0xEE ∷ []

unfoldable pub outcomes : List RowOutcome
outcomes =
    same none_said
    ∷ refusal 12 0 (17 ∷ [])
    ∷ refusal 11 0 (1 ∷ [])
    ∷ refusal 12 2 (8 ∷ [])
    ∷ refusal 13 2 (47 ∷ [])
    ∷ row 4 4 0 four_records (blank 3) (0x00 ∷ 0x00 ∷ 0x25 ∷ 0x00 ∷ [])
    ∷ row 10 4 2 ten_records ten_payload ten_bytes
    ∷ row 10 4 2 ten_records ten_payload ten_bytes
    ∷ refusal 13 4 (193 ∷ [])
    ∷ refusal 14 4 (13 ∷ 2 ∷ 1 ∷ [])
    ∷ refusal 14 4 (13 ∷ 2 ∷ 1 ∷ [])
    ∷ refusal 12 8 (14 ∷ [])
    ∷ refusal 17 3 (15 ∷ 2 ∷ 2 ∷ [])
    ∷ row 7 4 0 seven_records (blank 3) (0x00 ∷ 0x00 ∷ 0x00 ∷ 0x01 ∷ 0x01 ∷ 0xFE ∷ 0xFF ∷ [])
    ∷ row 3 2 0 three_records (blank 3) (0x00 ∷ 0x00 ∷ 0xFF ∷ [])
    ∷ []

-- 14 carries the wire code, the length, and the limit of that code
unfoldable pub limit_outcomes : List RowOutcome
limit_outcomes =
    row 12 3 2 twelve_records (0x61 ∷ 0x62 ∷ 0xEE ∷ []) two_blobs
    ∷ refusal 14 2 (13 ∷ 1 ∷ 0 ∷ [])
    ∷ refusal 14 7 (14 ∷ 1 ∷ 0 ∷ [])
    ∷ row 10 4 2 ten_records ten_payload ten_bytes
    ∷ row 10 4 2 ten_records ten_payload ten_bytes
    ∷ refusal 1 0 []
    ∷ refusal 14 4 (13 ∷ 2 ∷ 1 ∷ [])
    ∷ refusal 1 0 []
    ∷ []
