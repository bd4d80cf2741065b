-- Demand 3 on the calls: what follows of whatever answer, and whatever later contents of the lent slices, meet the contracts of encode,
-- next_row and skip_row. All else in a statement is from the written rules (crates/rules/specs).
-- Assumes nothing.
use Rattle.rules.specs.declared.refusal.Refusal.{Refusal}
use Rattle.std.proofs.Common.{Result, Option, Ok, Some}
use Prim.Native.Nat.{ℕ, ◌+◌, ◌≤◌, ◌<◌}
use mathlib.Core.Path.{◌≡◌, sym, ap, ◌∙◌}
use mathlib.Core.List.{List}
use mathlib.Core.Logic.{◌↔◌}
use lib.ListN.{length, take}
use contract.Lifetimes.{Lfts}
use borrow.Fn.Kinds.{ended_of}
use denote.Ref.{Bor, MutBor}
use denote.Triple.Clauses.{AtExit}
use Rattle.rules.specs.Bytes.{Bytes, Stands, part, over}
use Rattle.rules.specs.Answers.{Said, row_said, read_said, written_said}
use Rattle.rules.specs.Format.{Format, tables, format_rule}
use Rattle.rules.specs.Value.{Value}
use Rattle.rules.specs.ValueRecord.{value_record_start}
use Rattle.rules.specs.ValueTable.{TableOf}
use Rattle.rules.specs.Grammar.{TableRow}
use Rattle.rules.specs.Reading.{limits, schema_of, Decoded, room, record_room, room_test, untouched, NoRow, LeavesRow}
use Rattle.rules.specs.Writing.{Encoded, encode_from}
use Rattle.rules.specs.RoundTrip.{EncodeAsked, Encodable, encoded_into, EncodeRefuses, SkipAsked, HasRoom, decoded_as, PlainRow}
use Rattle.rules.specs.declared.settings.Settings.{Settings}
use Rattle.rules.specs.declared.answer.Extent.{Extent}
use Rattle.promises.proofs.Promises as rules
use Rattle.row.proofs.skip_row
use Rattle.decode.proofs.next_row
use Rattle.encode.proofs.encode

-- the format that four slices hold
abbrev pub format : Bor (List ℕ) → Bor (List ℕ) → Bor (List ℕ) → Bor (List ℕ) → Format
format table names references registry = record { table = table.now; names = names.now; references = references.now; registry = registry.now }

-- what encode answered, and its output afterwards
abbrev pub encoded : (κs : Lfts 5) → Result Extent Refusal → AtExit (ended_of 5 encode.Kinds.ps encode.Kinds.r) κs → Encoded
encoded κs answer (settings, (table, (names, (first, (count, (records, (payload, (output, (position, _))))))))) =
    record { answer = answer; output = output.now }

-- what next_row answered, and its two slices afterwards
abbrev pub decoded : (κs : Lfts 5) → Result (Option Extent) Refusal → AtExit (ended_of 5 next_row.Kinds.ps next_row.Kinds.r) κs → Decoded
decoded κs answer (settings, (lent, (input, (position, (records, (payload, _)))))) =
    record { answer = answer; records = records.now; payload = payload.now }

-- ---- encode

-- Whatever meets encode's contract
module _ (κs : Lfts 5) (settings : Settings) (table names : Bor (List ℕ)) (first count : ℕ) (records payload : Bor (List ℕ)) (output : MutBor (List ℕ)) (position : ℕ)
    (answer : Result Extent Refusal) (s : AtExit (ended_of 5 encode.Kinds.ps encode.Kinds.r) κs)
    (met : encode.Reads.Post κs (settings, (table, (names, (first, (count, (records, (payload, (output, (position, tt))))))))) answer s) where
  -- leaves the output, where it refuses,
  pub refused_encode_leaves : 0 < (written_said answer).number → (encoded κs answer s).output ≡ output.now
  refused_encode_leaves l =
      rw (ap (λ (d : Encoded). d.output) met) (rules.refused_encode_leaves settings table.now names.now first count records.now payload.now output.now position (rw (ap (λ (d : Encoded). d.answer) met) at l))

  -- and refuses by what comes first in the order 1, schema, 18, row, 21.
  pub encode_refuses_in_order : (x : Said) → 0 < x.number →
      (written_said answer ≡ x) ↔ EncodeRefuses settings table.now names.now first count records.now payload.now output.now position x
  encode_refuses_in_order =
      rw (ap (λ (d : Encoded). d.answer) met) (rules.encode_refuses_in_order settings table.now names.now first count records.now payload.now output.now position)

  -- Of a checked format, settings inside the bounds and a well-formed table of v for table 0:
  module _ (references registry : Bor (List ℕ)) (v : Value)
      (asked : EncodeAsked (format table names references registry) settings first count records.now payload.now output.now position)
      (is : TableOf v records.now payload.now) where
    -- it answers a row exactly when v conforms, each blob is within its type's limit, and the row fits the output,
    pub encoded_exactly_when : ((written_said answer).number ≡ 0) ↔ Encodable (schema_of (format table names references registry) 0) (limits settings) v output.now position
    encoded_exactly_when =
        rw (ap (λ (d : Encoded). d.answer) met) (rules.encoded_exactly_when (format table names references registry) settings first count records.now payload.now output.now position asked v is)

    -- and then the canonical row, which stands in the output at the position, and no other byte changes.
    pub encoded_canonically : (written_said answer).number ≡ 0 → encoded κs answer s ≡ encoded_into (schema_of (format table names references registry) 0) v output.now position
    encoded_canonically h =
        met ∙ rules.encoded_canonically (format table names references registry) settings first count records.now payload.now output.now position asked v is (rw (ap (λ (d : Encoded). d.answer) met) at h)

    -- Those bytes, as they stand in the output, anywhere in a stream of a checked format whose table 0 has that schema:
    module _ (e : Extent) (yes : written_said answer ≡ row_said e) (settings' : Settings) (lent' : Bor Format) (input : Bor (List ℕ)) (position' : ℕ)
        (checked : format_rule lent'.now ≡ Ok tt) (below : 0 < tables lent'.now)
        (same : schema_of lent'.now 0 ≡ schema_of (format table names references registry) 0)
        (ask : SkipAsked settings settings' v (part (encoded κs answer s).output position e.bytes) input.now position') where
      -- whatever meets skip_row's contract there answers that row,
      pub skips_the_row : (κs' : Lfts 3) (read : Result (Option Extent) Refusal) (t : AtExit (ended_of 3 skip_row.Kinds.ps skip_row.Kinds.r) κs') →
          skip_row.Reads.Post κs' (settings', (lent', (input, (position', tt)))) read t → read ≡ Ok (Some e)
      skips_the_row κs' read t p =
          p ∙ rules.skips_the_row (format table names references registry) settings first count records.now payload.now output.now position asked v is e
          (rw (ap (λ (d : Encoded). d.answer) met) at yes) lent'.now checked below same
          settings' input.now position' (rw (ap (λ (d : Encoded). d.output) met) at ask)

      -- and whatever meets next_row's contract there, with room, answers it too, and leaves the very records and payload that were encoded.
      pub decodes_to_the_value : (records' payload' : MutBor (List ℕ)) → HasRoom e records'.now payload'.now →
          (κs' : Lfts 5) (read : Result (Option Extent) Refusal) (t : AtExit (ended_of 5 next_row.Kinds.ps next_row.Kinds.r) κs') →
          next_row.Reads.Post κs' (settings', (lent', (input, (position', (records', (payload', tt)))))) read t →
          decoded κs' read t ≡ decoded_as e records.now payload.now records'.now payload'.now
      decodes_to_the_value records' payload' fit κs' read t p =
          p ∙ rules.decodes_to_the_value (format table names references registry) settings first count records.now payload.now output.now position asked v is e
          (rw (ap (λ (d : Encoded). d.answer) met) at yes) lent'.now checked below same
          settings' input.now position' (rw (ap (λ (d : Encoded). d.output) met) at ask) records'.now payload'.now fit

-- ---- next_row and skip_row

-- Whatever meets next_row's contract:
module _ (κs : Lfts 5) (settings : Settings) (lent : Bor Format) (input : Bor (List ℕ)) (position : ℕ) (records payload : MutBor (List ℕ))
    (answer : Result (Option Extent) Refusal) (s : AtExit (ended_of 5 next_row.Kinds.ps next_row.Kinds.r) κs)
    (met : next_row.Reads.Post κs (settings, (lent, (input, (position, (records, (payload, tt)))))) answer s) where
  -- a row conforms to its table's schema: its table is what is left, and the rest of both slices is as before;
  pub decoded_conforms : Bytes input.now → (e : Extent) → read_said answer ≡ row_said e →
      LeavesRow lent.now input.now (limits settings) position records.now payload.now e (decoded κs answer s)
  decoded_conforms bs e h =
      rw met (rules.decoded_conforms lent.now settings input.now position records.now payload.now bs e (rw (ap (λ (d : Decoded). d.answer) met) at h))

  -- where there is no row, both slices are as before;
  pub decode_leaves_alone : NoRow answer → decoded κs answer s ≡ untouched answer records.now payload.now
  decode_leaves_alone h =
      let a : answer ≡ _ = ap (λ (d : Decoded). d.answer) met in
      met ∙ (rules.decode_leaves_alone lent.now settings input.now position records.now payload.now (rw a at h) ∙ ap (λ x. untouched x records.now payload.now) (sym a))

  -- and whatever meets skip_row's contract on that input gives the same table, length or refusal, but for the two refusals for room.
  pub skip_is_decode : (κs' : Lfts 3) (skip : Result (Option Extent) Refusal) (t : AtExit (ended_of 3 skip_row.Kinds.ps skip_row.Kinds.r) κs') →
      skip_row.Reads.Post κs' (settings, (lent, (input, (position, tt)))) skip t →
      answer ≡ room_test position records.now payload.now skip
  skip_is_decode κs' skip t p =
      ap (λ (d : Decoded). d.answer) met ∙ (rules.skip_is_decode position records.now payload.now lent.now settings input.now ∙ ap (room_test position records.now payload.now) (sym p))

  -- A row of table 0, whose table is encoded again under the same settings and with room:
  module _ (bs : Bytes input.now) (e : Extent) (row : read_said answer ≡ row_said e) (zero : e.table ≡ 0)
      (table' names' : Bor (List ℕ)) (same_table : table'.now ≡ lent.now.table) (same_names : names'.now ≡ lent.now.names) (first count : ℕ) (records' payload' : Bor (List ℕ)) (output : MutBor (List ℕ)) (position' : ℕ)
      (its_records : records'.now ≡ take (value_record_start e.records) (decoded κs answer s).records) (its_payload : payload'.now ≡ take e.payload (decoded κs answer s).payload)
      (asked : EncodeAsked lent.now settings first count records'.now payload'.now output.now position') (fits : position' + e.bytes ≤ room output.now)
      (κs' : Lfts 5) (written : Result Extent Refusal) (t : AtExit (ended_of 5 encode.Kinds.ps encode.Kinds.r) κs')
      (wrote : encode.Reads.Post κs' (settings, (table', (names', (first, (count, (records', (payload', (output, (position', tt))))))))) written t) where
    rule_wrote : encoded κs' written t ≡ encode_from lent.now settings first count records'.now payload'.now output.now position'
    rule_wrote = rw (same_table, same_names) at wrote

    -- whatever meets encode's contract answers that row, with its very counts,
    pub encodes_again : written ≡ Ok e
    encodes_again =
        ap (λ (d : Encoded). d.answer) rule_wrote ∙ rules.encodes_again lent.now settings input.now position records.now payload.now bs e (rw (ap (λ (d : Decoded). d.answer) met) at row) zero
        first count records'.now payload'.now output.now position' (rw (ap (λ (d : Decoded). d.records) met) at its_records) (rw (ap (λ (d : Decoded). d.payload) met) at its_payload) asked fits

    -- leaves in the output the very bytes of the row that stood in the stream, exactly where every boolean byte of it is 0 or 1,
    pub writes_again : (w : Value) (b : List ℕ) (r : TableRow (tables lent.now) (schema_of lent.now) 0 w b) → Stands input.now position b →
        ((encoded κs' written t).output ≡ over output.now position' (part input.now position e.bytes)) ↔ PlainRow r
    writes_again w b r st =
        rw (ap (λ (d : Encoded). d.output) rule_wrote) (rules.writes_again lent.now settings input.now position records.now payload.now bs e (rw (ap (λ (d : Decoded). d.answer) met) at row) zero
        first count records'.now payload'.now output.now position' (rw (ap (λ (d : Decoded). d.records) met) at its_records) (rw (ap (λ (d : Decoded). d.payload) met) at its_payload) asked fits w b r st)

    -- and whatever meets next_row's contract on its bytes, anywhere in a stream, leaves the same table.
    pub reads_again : (lent'' : Bor Format) (input'' : Bor (List ℕ)) (position'' : ℕ) (records'' payload'' : MutBor (List ℕ)) →
        lent''.now ≡ lent.now →
        Stands input''.now position'' (part (encoded κs' written t).output position' e.bytes) → length input''.now ≤ 4294967295 →
        e.records ≤ record_room records''.now → e.payload ≤ room payload''.now →
        (κs'' : Lfts 5) (read : Result (Option Extent) Refusal) (u : AtExit (ended_of 5 next_row.Kinds.ps next_row.Kinds.r) κs'') →
        next_row.Reads.Post κs'' (settings, (lent'', (input'', (position'', (records'', (payload'', tt)))))) read u →
        decoded κs'' read u ≡ decoded_as e records'.now payload'.now records''.now payload''.now
    reads_again lent'' input'' position'' records'' payload'' same stands short nodes enough κs'' read u p =
        p ∙ rw same (rules.reads_again lent.now settings input.now position records.now payload.now bs e (rw (ap (λ (d : Decoded). d.answer) met) at row) zero
        first count records'.now payload'.now output.now position' (rw (ap (λ (d : Decoded). d.records) met) at its_records) (rw (ap (λ (d : Decoded). d.payload) met) at its_payload) asked fits
        input''.now position'' records''.now payload''.now (rw (ap (λ (d : Encoded). d.output) rule_wrote) at stands) short nodes enough)
