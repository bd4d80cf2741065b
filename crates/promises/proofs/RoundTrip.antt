-- Demand 3 on the rules of the whole calls: what is encoded, exactly when, what is refused in which order, and that a row reads back.
-- Assumes nothing.
use Rattle.std.specs.Prelude.{⊤}
use Rattle.std.proofs.Common.{Result, Ok, Err, Some}
use Prim.Native.Nat.{ℕ, ◌+◌, ◌-◌, ◌≤◌, ◌<◌}
use mathlib.Core.Path.{◌≡◌, refl, sym, ap, ◌∙◌}
use mathlib.Core.Bool.{Bool, true, false}
use mathlib.Core.List.{List, ◌++◌}
use mathlib.Core.Logic.{◌↔◌}
use native.Mathlib.Omega.{arith}
use borrow.Author.Tests.{leb-true, leb-false, le-leb, lt-leb}
use lib.Dec.{leb}
use lib.ListN.{length, take, drop}
use lib.Seq.{length-take-le}
use Rattle.rules.specs.Choice.{pick, ◌and◌}
use Rattle.rules.specs.Bytes.{le, part, over}
use Rattle.rules.specs.Refusals.{Setting, NoOutputRoom, line_of}
use Rattle.rules.specs.Schema.{Schema}
use Rattle.rules.specs.Block.{block}
use Rattle.rules.specs.Format.{Format, tables, format_rule, encoder_rules, encoder_rule}
use Rattle.rules.specs.Value.{Value, nothing, boolean, number, wide, blob, variant, repeated, tuple, Items, done, item, Values, none, more, Within, WithinI, WithinV, records_of, payload_of}
use Rattle.rules.specs.ValueTable.{TableOf, Parsed, Whole, Broken, table_value}
use Rattle.rules.specs.Grammar.{Row, table_row, encoded, encoded_row}
use Rattle.rules.specs.Walk.{blob_limit, Pos, after}
use Rattle.rules.specs.Reading.{limits, start, schema_of, Accepts, extent, when_accepted, room, record_room, skip_rule, decode_rule}
use Rattle.rules.specs.Answers.{Said, said, row_said, written_said}
use Rattle.rules.specs.Writing.{Wrote, Put, write_row, Encoded, unwritten, placed, encode_value, encode_ok, encode_rule, encode_from}
use Rattle.rules.specs.RoundTrip.{EncodeAsked, Encodable, encoded_into, EncodeRefuses, by-setting, by_schema, by-table, by_row, by_room, SkipAsked, HasRoom, decoded_as}
use Rattle.rules.specs.declared.settings.Settings.{Settings}
use Rattle.rules.specs.declared.refusal.Refusal.{Refusal}
use Rattle.rules.specs.declared.answer.Extent.{Extent}
use Rattle.rules.proofs.Tests.{and_both}
use Rattle.rules.proofs.Checks.{pick_accepted}
use Rattle.rules.proofs.Answers.{refusal_number_lem, one_row}
use Rattle.rules.proofs.Stands.{stands_seam, stands_part}
use Rattle.rules.proofs.Over.{over-is}
use Rattle.rules.proofs.Limits.{limits_rise}
use Rattle.row_laws.proofs.Conform.{encoded_row_lem}
use Rattle.row_laws.proofs.Door.{MayAsk}
use Rattle.row_laws.proofs.Decoding.{skip_accepts, decode_accepts, decoded_row}
use Rattle.value_laws.proofs.Parse.{is_table}
use Rattle.value_laws.proofs.Flat.{accepted, no_table}
use Rattle.value_laws.proofs.Written.{writes_row}
use Rattle.promises.proofs.Tables.{Stood, stood, table_encodes}

-- ---- refused encodes

module _ (s : Settings) (table names : List ℕ) (first n : ℕ) (recs pay out : List ℕ) (at : ℕ) where
  abbrev encode : Encoded
  encode = encode_rule s table names first n recs pay out at

  abbrev Refuses : Said → Type 0
  Refuses = EncodeRefuses s table names first n recs pay out at

  -- a row that was written
  abbrev wrote : Value → List ℕ → Encoded
  wrote v b = record { answer = Ok (record { table = 0; bytes = length b; records = records_of v; payload = payload_of v }); output = over out at b }

  -- how an encode ends: refused, with the output as it was; or with a row
  data Ends : Encoded → Type 0 where
    refuses : {r : Refusal} → Refuses (said r) → Ends (unwritten out r)
    writes : (v : Value) (b : List ℕ) → Ends (wrote v b)

  records_short : encode_ok s table names recs pay out at ≡ true → length recs ≤ 4294967295
  unfolding encode_ok
  records_short ok = leb-true _ _ (and_both _ _ (and_both _ _ (and_both _ _ ok).0).0).1

  ends : Ends encode
  unfolding encode_rule said line_of
  ends = settings (encode_ok s table names recs pay out at) refl
    where
      row : encode_ok s table names recs pay out at ≡ true → encoder_rules table names first n ≡ Ok tt → (v : Value) → TableOf v recs pay →
          (w : Wrote) → write_row (block table first n) (limits s) v ≡ w → Ends (placed v out at w)
      row ok a v is (Put b) e = unfold placed in fits (leb (at + length b) (room out)) refl
        where
          fits : (t : Bool) → leb (at + length b) (room out) ≡ t → Ends (pick t (wrote v b) (unwritten out (NoOutputRoom (length b) at)))
          fits true q = unfold pick in writes v b
          fits false q = unfold pick in refuses (by_room ok a is e (leb-false _ _ q))
      row ok a v is (Wrote.Refused r) e = unfold placed in refuses (by_row ok a is e)

      value : encode_ok s table names recs pay out at ≡ true → encoder_rules table names first n ≡ Ok tt → (p : Parsed Value) → table_value recs pay ≡ p → Ends (encode_value (block table first n) (limits s) p out at)
      value ok a (Whole v q) e = unfold encode_value in row ok a v (is_table recs pay v q e) (write_row (block table first n) (limits s) v) refl
      value ok a Broken e = unfold encode_value in refuses (by-table ok a ((no_table recs pay (records_short ok)).0 e))

      schema : encode_ok s table names recs pay out at ≡ true → (c : Result ⊤ Refusal) → encoder_rules table names first n ≡ c → Ends (when_accepted (unwritten out) c (encode_value (block table first n) (limits s) (table_value recs pay) out at))
      schema ok (Ok tt) e = unfold when_accepted in value ok e (table_value recs pay) refl
      schema ok (Err r) e = unfold when_accepted in refuses (by_schema ok e)

      settings : (b : Bool) → encode_ok s table names recs pay out at ≡ b → Ends (pick b (when_accepted (unwritten out) (encoder_rules table names first n) (encode_value (block table first n) (limits s) (table_value recs pay) out at)) (unwritten out Setting))
      settings true e = unfold pick in schema e (encoder_rules table names first n) refl
      settings false e = unfold pick in refuses (by-setting e)

  ended : {d : Encoded} → Ends d → 0 < (written_said d.answer).number → (d.output ≡ out) × Refuses (written_said d.answer)
  unfolding written_said row_said
  ended (refuses h) l = (refl, h)
  ended (writes v b) l = absurd (omega arith)

  -- a refused encode leaves the output
  pub refused_leaves : 0 < (written_said encode.answer).number → encode.output ≡ out
  refused_leaves l = (ended ends l).0

  -- it says x just if x is what the order says
  pub refused_in_order : (x : Said) → 0 < x.number → (written_said encode.answer ≡ x) ↔ Refuses x
  unfolding encode_rule pick when_accepted encode_value placed written_said said line_of
  refused_in_order x l = (λ e. rw e at (ended ends (rw e l)).1, by)
    where
      by : {x : Said} → Refuses x → written_said encode.answer ≡ x
      by (by-setting e) = rw e
      by (by_schema ok e) = rw (ok, e)
      by (by-table ok a h) = rw (ok, a, (no_table recs pay (records_short ok)).1 h)
      by (by_row {v = v} ok a is e) = rw (ok, a, accepted recs pay v (records_short ok) is, e)
      by (by_room {v = v} {b = b} ok a is e l) = rw (ok, a, accepted recs pay v (records_short ok) is, e, lt-leb (at + length b) (room out) l)

-- ---- encoding

module _ (f : Format) (s : Settings) (first n : ℕ) (recs pay out : List ℕ) (at : ℕ) (ok : EncodeAsked f s first n recs pay out at) (v : Value) (is : TableOf v recs pay) where
  abbrev encoding : Encoded
  encoding = encode_from f s first n recs pay out at

  here : Stood f 0 first n
  here = stood f ok.format 0 first n ok.block

  rules : encoder_rules f.table f.names first n ≡ Ok tt
  unfolding encoder_rule
  rules = (pick_accepted _ _ _ (table_encodes f ok.format 0 first n ok.block)).1

  -- the call comes to the writing of v
  comes_to : encoding ≡ placed v out at (write_row (block f.table first n) (limits s) v)
  unfolding encode_rule encode_ok pick ◌and◌ when_accepted encode_value
  comes_to =
      let a = le-leb (length f.table) 4294967295 here.good.schema.table_size in
      let b = le-leb (length f.names) 4294967295 here.good.schema.names_size in
      let c = le-leb (length recs) 4294967295 ok.records in
      let d = le-leb (length pay) 4294967295 ok.payload in
      let e = le-leb at (room out) ok.position in
      rw (ok.settings, a, b, c, d, e, rules, accepted recs pay v ok.records is)

  -- a value that can be encoded is, canonically, with table tag 0
  encodes : Encodable (schema_of f 0) (limits s) v out at → encoding ≡ encoded_into (schema_of f 0) v out at
  unfolding placed pick
  encodes e =
      let w = (writes_row (block f.table first n) f.names (limits s) v (schema_of f 0) (encoded_row (schema_of f 0) v) here.denotes is.fits).1 (record { conforms = e.conforms; within = e.within; bytes = refl }) in
      comes_to ∙ rw (w, le-leb (at + length (encoded_row (schema_of f 0) v)) (room out) e.fits)

  -- and only such a value is
  encodes_only : (written_said encoding.answer).number ≡ 0 → Encodable (schema_of f 0) (limits s) v out at
  unfolding placed written_said row_said
  encodes_only h = by (write_row (block f.table first n) (limits s) v) refl (rw comes_to at h)
    where
      room_for : (b : List ℕ) (t : Bool) → leb (at + length b) (room out) ≡ t → write_row (block f.table first n) (limits s) v ≡ Put b →
          (written_said (pick t (wrote s f.table f.names first n recs pay out at v b) (unwritten out (NoOutputRoom (length b) at))).answer).number ≡ 0 → Encodable (schema_of f 0) (limits s) v out at
      room_for b true q e h =
          let w = (writes_row (block f.table first n) f.names (limits s) v (schema_of f 0) b here.denotes is.fits).0 e in
          record { conforms = w.conforms; within = w.within; fits = rw w.bytes at (leb-true (at + length b) (room out) q) }
      room_for b false q e h = unfold pick in absurd (refusal_number_lem (NoOutputRoom (length b) at) h)

      by : (w : Wrote) → write_row (block f.table first n) (limits s) v ≡ w → (written_said (placed v out at w).answer).number ≡ 0 → Encodable (schema_of f 0) (limits s) v out at
      by (Put b) e h = room_for b (leb (at + length b) (room out)) refl e h
      by (Wrote.Refused r) e h = absurd (refusal_number_lem r h)

  -- it is encoded exactly when it can be
  pub encoded_when : ((written_said encoding.answer).number ≡ 0) ↔ Encodable (schema_of f 0) (limits s) v out at
  unfolding written_said row_said
  encoded_when = (encodes_only, λ e. rw (encodes e))

  -- and then canonically
  pub encoded_as : (written_said encoding.answer).number ≡ 0 → encoding ≡ encoded_into (schema_of f 0) v out at
  encoded_as h = encodes (encodes_only h)

-- ---- reading back

-- raising the limits keeps each blob within its own
mutual
  unfolding Within

  pub within_higher : (low high : ℕ → ℕ) → ((k : ℕ) → low k ≤ high k) → (v : Value) → Within low v → Within high v
  within_higher low high h nothing w = tt
  within_higher low high h (boolean x) w = tt
  within_higher low high h (number k x) w = tt
  within_higher low high h (wide k x) w = tt
  within_higher low high h (blob k x) w = omega (arith, h k)
  within_higher low high h (variant t v) w = within_higher low high h v w
  within_higher low high h (repeated is) w = within_higher_i low high h is w
  within_higher low high h (tuple vs) w = within_higher_v low high h vs w

  within_higher_i : (low high : ℕ → ℕ) → ((k : ℕ) → low k ≤ high k) → (is : Items) → WithinI low is → WithinI high is
  within_higher_i low high h done w = tt
  within_higher_i low high h (item t v is) w = (within_higher low high h v w.0, within_higher_i low high h is w.1)

  within_higher_v : (low high : ℕ → ℕ) → ((k : ℕ) → low k ≤ high k) → (vs : Values) → WithinV low vs → WithinV high vs
  within_higher_v low high h none w = tt
  within_higher_v low high h (more v vs) w = (within_higher low high h v w.0, within_higher_v low high h vs w.1)

-- the bytes that were written over a list stand in it
pub over-part : (xs s : List ℕ) (at : ℕ) → at + length xs ≤ length s → part (over s at xs) at (length xs) ≡ xs
over-part xs s at h =
    let l : length (take at s) ≡ at = length-take-le at s (omega arith) in
    let o = over-is xs s at h in
    let z = stands_seam (take at s) xs (drop (at + length xs) s) in
    stands_part (over s at xs) at xs (rw (← o, l) at z)

module _ (f : Format) (s : Settings) (first n : ℕ) (recs pay out : List ℕ) (at : ℕ) (ok : EncodeAsked f s first n recs pay out at) (v : Value) (is : TableOf v recs pay)
    (e : Extent) (yes : written_said (encode_from f s first n recs pay out at).answer ≡ row_said e) where
  abbrev sch : Schema
  sch = schema_of f 0

  said_row : (written_said (encode_from f s first n recs pay out at).answer).number ≡ 0
  unfolding row_said
  said_row = rw yes

  can : Encodable sch (limits s) v out at
  can = (encoded_when f s first n recs pay out at ok v is).0 said_row

  is_so : encode_from f s first n recs pay out at ≡ encoded_into sch v out at
  is_so = encoded_as f s first n recs pay out at ok v is said_row

  extent_is : record { table = 0; bytes = length (encoded_row sch v); records = records_of v; payload = payload_of v } ≡ e
  extent_is = unfold written_said in let z = ap (λ (d : Encoded). written_said d.answer) is_so in one_row _ e (sym z ∙ yes)

  -- the row that was put out, anywhere in a stream of a checked format whose table 0 has that schema
  module _ (f' : Format) (checked : format_rule f' ≡ Ok tt) (below : 0 < tables f') (same : schema_of f' 0 ≡ schema_of f 0) (s' : Settings) (inp : List ℕ) (position : ℕ)
      (r : SkipAsked s s' v (part (encode_from f s first n recs pay out at).output at e.bytes) inp position) where
    abbrev b : List ℕ
    b = encoded_row sch v

    row_is : part (encode_from f s first n recs pay out at).output at e.bytes ≡ b
    row_is = unfold room in
        let p : length b ≡ e.bytes = ap (λ (x : Extent). x.bytes) extent_is in
        rw (is_so, ← p) (over-part b out at (omega (arith, can.fits)))

    at_home : Stood f 0 first n
    at_home = stood f ok.format 0 first n ok.block

    asked : MayAsk f' s' inp
    asked = unfold format_rule in
        let p = pick_accepted _ _ _ checked in
        record { settings = r.settings; sizes = p.0; short = r.short; format = p.1 }

    abbrev q : Pos
    q = after (limits s') v (length b) (start (limits s') position)

    a_row : Row (schema_of f' 0) v (encoded sch v)
    a_row = rw same (encoded_row_lem can.conforms is.fits at_home.valid)

    there : Accepts f' inp (limits s') position 0 v q
    there = unfold encoded_row in record {
      bytes = le 2 0 ++ encoded sch v;
      is = table_row {t = 0} (omega arith) below a_row refl;
      stands = rw row_is at r.stands;
      within = within_higher (blob_limit (limits s)) (blob_limit (limits s')) (limits_rise (limits s) (limits s') (unfold limits in r.string32) (unfold limits in r.yson32)) v can.within;
      afford = r.charge;
      ends = refl;
    }

    extent_there : extent position 0 q ≡ e
    extent_there = unfold extent after start in
        let x : (position + length b) - position ≡ length b = omega arith in
        let y : 0 + records_of v ≡ records_of v = omega arith in
        let z : 0 + payload_of v ≡ payload_of v = omega arith in
        rw (x, y, z) extent_is

    -- is skipped whole
    pub skips_back : skip_rule f' s' inp position ≡ Ok (Some e)
    skips_back = skip_accepts f' s' inp asked position there ∙ ap (λ x. Ok (Some x)) extent_there

    -- and decodes to the very records and payload, and no further byte is taken
    pub reads_back : (rs ps : List ℕ) → HasRoom e rs ps → decode_rule f' s' inp position rs ps ≡ decoded_as e recs pay rs ps
    reads_back rs ps h = decode_accepts f' s' inp asked position there rs ps records_fit payload_fits ∙ tidy
      where
        records_fit : records_of v ≤ record_room rs
        records_fit = let p = ap (λ (x : Extent). x.records) extent_is in rw p h.nodes

        payload_fits : payload_of v ≤ room ps
        payload_fits = let p = ap (λ (x : Extent). x.payload) extent_is in rw p h.payload

        tidy : decoded_row position rs ps 0 v q ≡ decoded_as e recs pay rs ps
        tidy = unfold extent after start in
            let x : (position + length b) - position ≡ length b = omega arith in
            let y : 0 + records_of v ≡ records_of v = omega arith in
            let z : 0 + payload_of v ≡ payload_of v = omega arith in
            rw (x, y, z, is.rows, is.payload, ← extent_is)
