-- A row that was decoded encodes again, to a row of the same length, which decodes to the same table.
-- Assumes nothing.
use Rattle.std.proofs.Common.{Ok}
use Prim.Native.Nat.{ℕ, ◌+◌, ◌≤◌}
use mathlib.Core.Path.{◌≡◌, refl, sym, ap, ◌∙◌, subst}
use mathlib.Core.List.{List}
use mathlib.Core.Logic.{◌↔◌}
use native.Mathlib.Omega.{arith}
use lib.ListN.{length, take}
use Rattle.rules.specs.Bytes.{le, Bytes, Stands, part, over}
use Rattle.rules.specs.Schema.{Schema}
use Rattle.rules.specs.Format.{Format, tables}
use Rattle.rules.specs.Value.{Value, records_of, payload_of}
use Rattle.rules.specs.ValueTable.{TableOf}
use Rattle.rules.specs.ValueRecord.{value_record_start}
use Rattle.rules.specs.Grammar.{TableRow, table_row, Conforms, encoded_row}
use Rattle.rules.specs.Walk.{Pos, after}
use Rattle.rules.specs.Reading.{limits, start, schema_of, Accepts, room, record_room, decode_rule}
use Rattle.rules.specs.Answers.{row_said, read_said, written_said}
use Rattle.rules.specs.Writing.{Encoded, encode_from}
use Rattle.rules.specs.RoundTrip.{EncodeAsked, Encodable, decoded_as, PlainRow}
use Rattle.rules.specs.declared.settings.Settings.{Settings}
use Rattle.rules.specs.declared.answer.Extent.{Extent}
use Rattle.rules.proofs.Stands.{stands_right, stands_part}
use Rattle.row_laws.proofs.Only.{only}
use Rattle.promises.proofs.Lengths.{table_row_length}
use Rattle.promises.proofs.Plain.{plain_exactly}
use Rattle.promises.proofs.Tables.{stood, decoded_held}
use Rattle.promises.proofs.RoundTrip.{encoded_when, encoded_as, over-part, reads_back}

-- rows of one table at one position are of one value
one_value_there : (inp : List ℕ) (at : ℕ) {n : ℕ} {schema : ℕ → Schema} {v w : Value} {b c : List ℕ} → TableRow n schema 0 v b → Stands inp at b → TableRow n schema 0 w c → Stands inp at c → v ≡ w
one_value_there inp at (table_row {x = y} h l r e) st (table_row {x = x} h' l' r' e') st' =
    (only inp r r' (at + length (le 2 0)) (stands_right inp at (le 2 0) y (rw e at st)) (stands_right inp at (le 2 0) x (rw e' at st'))).0

-- ---- what was decoded is encoded again

-- A row e of v, of table 0, that stood somewhere within the limits, where recs and pay are the table of v:
module _ (f : Format) (s : Settings) (inp : List ℕ) (at : ℕ) (e : Extent) (v : Value) (there : Accepts f inp (limits s) at e.table v (after (limits s) v e.bytes (start (limits s) at)))
    (conforming : Conforms (schema_of f e.table) v) (records : records_of v ≡ e.records) (payload : payload_of v ≡ e.payload) (zero : e.table ≡ 0)
    (first n : ℕ) (recs pay out : List ℕ) (position : ℕ) (is : TableOf v recs pay) (asked : EncodeAsked f s first n recs pay out position) (fits : position + e.bytes ≤ room out) where
  bytes_are : e.bytes ≡ length (encoded_row (schema_of f 0) v)
  unfolding after start
  bytes_are =
      let y : at + e.bytes ≡ at + length there.bytes = ap (λ (x : Pos). x.at) there.ends in
      let z : length there.bytes ≡ length (encoded_row (schema_of f e.table) v) = table_row_length there.is in
      let x : e.bytes ≡ length there.bytes = omega arith in
      x ∙ (z ∙ ap (λ t. length (encoded_row (schema_of f t) v)) zero)

  can : Encodable (schema_of f 0) (limits s) v out position
  can = record { conforms = subst (λ t. Conforms (schema_of f t) v) zero conforming; within = there.within; fits = subst (λ m. position + m ≤ room out) bytes_are fits }

  same_counts : record { table = 0; bytes = length (encoded_row (schema_of f 0) v); records = records_of v; payload = payload_of v } ≡ e
  same_counts = rw (← bytes_are, records, payload, ← zero) refl

  -- it is answered again, with its very counts,
  row_again : (encode_from f s first n recs pay out position).answer ≡ Ok e
  row_again =
      let w = encoded_as f s first n recs pay out position asked v is ((encoded_when f s first n recs pay out position asked v is).1 can) in
      ap (λ (d : Encoded). d.answer) w ∙ ap Ok same_counts

  -- and decodes anywhere to the table that was encoded
  table_again : (inp' : List ℕ) (at' : ℕ) (rs' ps' : List ℕ) → Stands inp' at' (part (encode_from f s first n recs pay out position).output position e.bytes) → length inp' ≤ 4294967295 →
      e.records ≤ record_room rs' → e.payload ≤ room ps' → decode_rule f s inp' at' rs' ps' ≡ decoded_as e recs pay rs' ps'
  table_again inp' at' rs' ps' stands short nodes enough =
      reads_back f s first n recs pay out position asked v is e (unfold written_said in ap written_said row_again) f asked.format (stood f asked.format 0 first n asked.block).below refl s inp' at'
      (record { stands = stands; short = short; settings = asked.settings; string32 = omega arith; yson32 = omega arith; charge = there.afford }) rs' ps' (record { nodes = nodes; payload = enough })

  -- the row that stood there is written again byte for byte, just where its boolean bytes are plain
  bytes_again : (w : Value) (b : List ℕ) (r : TableRow (tables f) (schema_of f) 0 w b) → Stands inp at b →
      ((encode_from f s first n recs pay out position).output ≡ over out position (part inp at e.bytes)) ↔ PlainRow r
  unfolding room
  bytes_again w b r st =
      let x = encoded_as f s first n recs pay out position asked v is ((encoded_when f s first n recs pay out position asked v is).1 can) in
      let o : (encode_from f s first n recs pay out position).output ≡ over out position (encoded_row (schema_of f 0) v) = ap (λ (d : Encoded). d.output) x in
      let same : v ≡ w = one_value_there inp at (subst (λ t. TableRow (tables f) (schema_of f) t v there.bytes) zero there.is) there.stands r st in
      let l : length b ≡ length (encoded_row (schema_of f 0) v) = table_row_length r ∙ ap (λ y. length (encoded_row (schema_of f 0) y)) (sym same) in
      let p : part inp at e.bytes ≡ b = ap (part inp at) (bytes_are ∙ sym l) ∙ stands_part inp at b st in
      let i : position + length b ≤ length out = omega (arith, fits, bytes_are, l) in (
        λ h.
            let y : over out position (encoded_row (schema_of f 0) v) ≡ over out position b = sym o ∙ (h ∙ ap (over out position) p) in
            let z : encoded_row (schema_of f 0) v ≡ b = sym (over-part (encoded_row (schema_of f 0) v) out position (omega (arith, i, l))) ∙ (ap (λ u. part u position (length (encoded_row (schema_of f 0) v))) y ∙ (ap (part (over out position b) position) (sym l) ∙ over-part b out position i)) in
            (plain_exactly r).0 (sym z ∙ ap (encoded_row (schema_of f 0)) same),
        λ h. o ∙ ap (over out position) (ap (encoded_row (schema_of f 0)) same ∙ (sym ((plain_exactly r).1 h) ∙ sym p)),
      )

-- Of a row of table 0 that decode answered, and the table that it left:
module _ (f : Format) (s : Settings) (inp : List ℕ) (at : ℕ) (rs ps : List ℕ) (bs : Bytes inp) (e : Extent)
    (read : read_said (decode_rule f s inp at rs ps).answer ≡ row_said e) (zero : e.table ≡ 0) (first n : ℕ) (recs pay out : List ℕ) (position : ℕ)
    (records : recs ≡ take (value_record_start e.records) (decode_rule f s inp at rs ps).records) (payload : pay ≡ take e.payload (decode_rule f s inp at rs ps).payload)
    (asked : EncodeAsked f s first n recs pay out position) (fits : position + e.bytes ≤ room out) where
  pub encodes_again : (encode_from f s first n recs pay out position).answer ≡ Ok e
  encodes_again =
      let was = decoded_held f s inp at rs ps bs e read in
      row_again f s inp at e was.left.value was.left.stands was.left.conforms was.records was.payload zero first n recs pay out position (rw (records, payload) was.left.table) asked fits

  pub reads_again : (inp' : List ℕ) (at' : ℕ) (rs' ps' : List ℕ) → Stands inp' at' (part (encode_from f s first n recs pay out position).output position e.bytes) → length inp' ≤ 4294967295 →
      e.records ≤ record_room rs' → e.payload ≤ room ps' → decode_rule f s inp' at' rs' ps' ≡ decoded_as e recs pay rs' ps'
  reads_again =
      let was = decoded_held f s inp at rs ps bs e read in
      table_again f s inp at e was.left.value was.left.stands was.left.conforms was.records was.payload zero first n recs pay out position (rw (records, payload) was.left.table) asked fits

  pub writes_again : (w : Value) (b : List ℕ) (r : TableRow (tables f) (schema_of f) 0 w b) → Stands inp at b →
      ((encode_from f s first n recs pay out position).output ≡ over out position (part inp at e.bytes)) ↔ PlainRow r
  writes_again =
      let was = decoded_held f s inp at rs ps bs e read in
      bytes_again f s inp at e was.left.value was.left.stands was.left.conforms was.records was.payload zero first n recs pay out position (rw (records, payload) was.left.table) asked fits
