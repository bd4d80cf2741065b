-- A piece, by what decode answers and leaves.
-- Assumes nothing.
use Rattle.std.proofs.Common.{Result, Option, Ok, Err, Some, None}
use Prim.Native.Nat.{ℕ, ◌+◌, ◌≤◌, ◌<◌}
use mathlib.Core.Path.{◌≡◌, refl, sym, ap, ◌∙◌}
use mathlib.Core.Bool.{Bool, true, false}
use mathlib.Core.List.{List, []}
use native.Mathlib.Omega.{arith}
use native.Mathlib.Nat.{zero-add}
use borrow.Author.Tests.{le-leb, lt-leb}
use lib.ListN.{length, take, drop, take-append-drop, length-replicate}
use Rattle.rules.specs.Choice.{pick}
use Rattle.rules.specs.Bytes.{Bytes, Stands}
use Rattle.rules.specs.Block.{records}
use Rattle.rules.specs.Format.{Format}
use Rattle.rules.specs.Rows.{one_table, blank}
use Rattle.rules.specs.Value.{Value, nothing, records_of, payload_of}
use Rattle.rules.specs.ValueRecord.{value_record_start}
use Rattle.rules.specs.ValueTable.{flat, heads, payload_bytes, Whole}
use Rattle.rules.specs.Lines.{end_line}
use Rattle.rules.specs.Walk.{Answer, Got, Refused, Pos, after}
use Rattle.rules.specs.Reading.{defaults, limits, start, door, through, row_at, skipped, skip_rule, room, room_test, Decoded, decode_rule}
use Rattle.rules.specs.Answers.{read_said}
use Rattle.rules.specs.Refusals.{Setting}
use Rattle.rules.specs.Listing.{row_lines, refusal_line, Piece, row_piece, last_piece, piece_of, row_piece_of, piece_at, files_ok, files_piece}
use Rattle.rules.specs.declared.settings.Settings.{Settings}
use Rattle.rules.specs.declared.refusal.Refusal.{Refusal}
use Rattle.rules.specs.declared.answer.Door.{Door}
use Rattle.rules.specs.declared.answer.Extent.{Extent}
use Rattle.rules.proofs.Stands.{stands_seam}
use Rattle.row_laws.proofs.TableRows.{row_accepts}
use Rattle.row_laws.proofs.Decoding.{decode_tested, accepts_inside}
use Rattle.value_laws.proofs.Records.{stand_shows}
use Rattle.value_laws.proofs.Flat.{parses}
use Rattle.value_laws.proofs.Sizes.{length-heads, length_pays}
use Rattle.promises.proofs.Tables.{written_first, Held, decoded_held}
use Rattle.schema.specs.Slices.{slices}
use Rattle.judge.specs.Table.{IsWhole, whole_value}
use Rattle.judge.proofs.Standing.{spot}
use Rattle.lines.specs.Puts.{TextPut}
use Rattle.listing_lines.specs.Rows.{root_value, RowListable}
use Rattle.listing_lines.specs.Pieces.{PieceShown, show_piece, piece_shown}
use Rattle.listing_lines.specs.declared.pieces.Shown.TheVariants as shown-is

-- the value of a row that was read
unfoldable value_got : Answer (ℕ × Value) → Value
value_got (Got (t, v) q) = v
value_got (Refused r) = nothing

module _ (f : Format) (inp : List ℕ) (n at : ℕ) (rs ps : List ℕ) (lr : length rs ≡ 65536) (lp : length ps ≡ 65536) where
  rooms : (room rs ≡ 65536) × (room ps ≡ 65536)
  unfolding room
  rooms = (omega (arith, lr), omega (arith, lp))

  -- the piece is told by decode's answer in slices of this room
  piece_by : piece_at f inp n at ≡ piece_of n at (value_got (row_at f inp (limits defaults) at)) (decode_rule f defaults inp at rs ps).answer
  unfolding piece_at skip_rule
  piece_by = by (door f defaults inp at) ∙ ap (piece_of n at (value_got (row_at f inp (limits defaults) at))) (sym (decode_tested at rs ps f defaults inp))
    where
      read : (a : Answer (ℕ × Value)) → row_piece_of n at a ≡ piece_of n at (value_got a) (room_test at rs ps (skipped at a))
      read (Got (t, v) q) = unfold row_piece_of value_got skipped room_test in rw (rooms.0, rooms.1)
      read (Refused r) = unfold row_piece_of value_got skipped room_test piece_of in refl

      by : (d : Result Door Refusal) → through d (λ r. last_piece (refusal_line r)) (last_piece (end_line n at)) (row_piece_of n at (row_at f inp (limits defaults) at)) ≡ piece_of n at (value_got (row_at f inp (limits defaults) at)) (room_test at rs ps (through d Err (Ok None) (skipped at (row_at f inp (limits defaults) at))))
      by (Ok Door.Open) = unfold through in read (row_at f inp (limits defaults) at)
      by (Ok Door.End) = unfold through room_test piece_of in refl
      by (Err r) = unfold through room_test piece_of in refl

  pub piece_end : (decode_rule f defaults inp at rs ps).answer ≡ Ok None → piece_at f inp n at ≡ last_piece (end_line n at)
  unfolding piece_of
  piece_end e = rw e at piece_by

  pub piece_refused : (r : Refusal) → (decode_rule f defaults inp at rs ps).answer ≡ Err r → piece_at f inp n at ≡ last_piece (refusal_line r)
  unfolding piece_of
  piece_refused r e = rw e at piece_by

  module _ (bs : Bytes inp) (e : Extent) (is : (decode_rule f defaults inp at rs ps).answer ≡ Ok (Some e)) where
    pub held : Held f inp (limits defaults) at rs ps e (decode_rule f defaults inp at rs ps)
    unfolding read_said
    held = decoded_held f defaults inp at rs ps bs e (rw is)

    abbrev pub value : Value
    value = held.left.value

    pub piece_row : piece_at f inp n at ≡ row_piece (row_lines n value) e.bytes
    unfolding piece_of value_got
    piece_row = rw (is, row_accepts f inp (limits defaults) at held.left.stands) at piece_by

    stands_first : (s xs : List ℕ) (k : ℕ) → take k s ≡ xs → Stands s 0 xs
    stands_first s xs k t = rw (← (take-append-drop k s), t) (stands_seam [] xs (drop k s))

    pub row_root : (recs pay : List ℕ) → recs ≡ (decode_rule f defaults inp at rs ps).records → pay ≡ (decode_rule f defaults inp at rs ps).payload → length recs ≡ 65536 → root_value recs pay ≡ Whole value (spot (records_of value) (payload_of value))
    unfolding flat
    row_root recs pay a b l =
        let t = held.left.table in
        parses recs pay (omega (arith, l)) 64 value 0 (spot 0 0) (spot (records_of value) (payload_of value)) (record {
          span = record {
            rows_stand = rw a (stand_shows _ 0 (heads value 0 0) (stands_first (decode_rule f defaults inp at rs ps).records (flat value 0 0) (value_record_start e.records) t.rows));
            payload_stands = rw b (stands_first (decode_rule f defaults inp at rs ps).payload (payload_bytes value) e.payload t.payload);
            at_end = rw (length-heads value 0 0) (omega arith);
            from_end = rw (length_pays value) (omega arith);
          };
          fits = t.fits;
          depth = t.depth;
        })

  -- a row's bytes are at least two, and lie in the stream
  pub piece_goes : Bytes inp → (lines : List ℕ) (bytes : ℕ) → piece_at f inp n at ≡ row_piece lines bytes → (2 ≤ bytes) × (at + bytes ≤ length inp)
  unfolding piece_of after start
  piece_goes bs lines bytes h = by (decode_rule f defaults inp at rs ps).answer refl (sym piece_by ∙ h)
    where
      by : (a : Result (Option Extent) Refusal) → (decode_rule f defaults inp at rs ps).answer ≡ a → piece_of n at (value_got (row_at f inp (limits defaults) at)) a ≡ row_piece lines bytes → (2 ≤ bytes) × (at + bytes ≤ length inp)
      by (Ok (Some e)) is q =
          let z : e.bytes ≡ bytes = cc in
          let a = (held bs e is).left.stands in
          let i = accepts_inside f inp (limits defaults) at a in
          let m : at + e.bytes ≡ at + length a.bytes = ap (λ (x : Pos). x.at) a.ends in
          (omega (arith, z, m, i.0), omega (arith, z, m, i.1))
      by (Ok None) is q = absurd (let z : ◌≡◌ {A = ℕ} 0 1 = cc in omega arith)
      by (Err r) is q = absurd (let z : ◌≡◌ {A = ℕ} 0 1 = cc in omega arith)

length-blank : (k : ℕ) → length (blank k) ≡ k
unfolding blank
length-blank k = length-replicate k 0xEE

pub files_piece_goes : (schema names inp : List ℕ) (n at : ℕ) → Bytes inp → (lines : List ℕ) (bytes : ℕ) → files_piece schema names inp n at ≡ row_piece lines bytes → (2 ≤ bytes) × (at + bytes ≤ length inp)
unfolding files_piece
files_piece_goes schema names inp n at bs lines bytes h = by (files_ok schema names inp) h
  where
    by : (b : Bool) → pick b (piece_at (one_table (records schema) schema names) inp n at) (last_piece (refusal_line Setting)) ≡ row_piece lines bytes → (2 ≤ bytes) × (at + bytes ≤ length inp)
    by true q = piece_goes (one_table (records schema) schema names) inp n at (blank 65536) (blank 65536) (length-blank 65536) (length-blank 65536) bs lines bytes (unfold pick in q)
    by false q = absurd (let z : ◌≡◌ {A = ℕ} 0 1 = unfold pick in cc in omega arith)

-- ---- a piece in the buffer

module _ (text text' : List ℕ) (end : ℕ) (p : Piece) where
  pub shown_row : (lines : List ℕ) (bytes : ℕ) → p ≡ row_piece lines bytes → TextPut text 0 lines text' end → record { shown = shown-is.Row end bytes; text = text' } ≡ show_piece p text
  unfolding show_piece
  shown_row lines bytes e u = let z : end ≡ length lines = u.ends ∙ zero-add (length lines) in rw (e, u.holds, z)

  pub shown_last : (line : List ℕ) → p ≡ last_piece line → TextPut text 0 line text' end → record { shown = shown-is.Last end; text = text' } ≡ show_piece p text
  unfolding show_piece
  shown_last line e u = let z : end ≡ length line = u.ends ∙ zero-add (length line) in rw (e, u.holds, z)

-- ---- the call of put_read: decode's answer under the one table

module _ (schema names inp : List ℕ) (n at : ℕ) (rs ps : List ℕ) (lr : length rs ≡ 65536) (lp : length ps ≡ 65536) (s : Settings) (def : s ≡ defaults)
    (reference : List ℕ) (inline : reference ≡ (one_table (records schema) [] []).references) (d : Decoded) (is : d ≡ decode_rule (slices schema names reference []) s inp at rs ps) where
  abbrev pub one : Format
  one = one_table (records schema) schema names

  decoded : d ≡ decode_rule one defaults inp at rs ps
  unfolding one_table
  decoded = is ∙ rw (def, inline)

  module _ (text text' : List ℕ) (end : ℕ) where
    pub read_end : d.answer ≡ Ok None → TextPut text 0 (end_line n at) text' end → record { shown = shown-is.Last end; text = text' } ≡ show_piece (piece_at one inp n at) text
    read_end a u = shown_last text text' end _ _ (piece_end one inp n at rs ps lr lp (sym (ap (λ (x : Decoded). x.answer) decoded) ∙ a)) u

    pub read_refused : (r : Refusal) → d.answer ≡ Err r → TextPut text 0 (refusal_line r) text' end → record { shown = shown-is.Last end; text = text' } ≡ show_piece (piece_at one inp n at) text
    read_refused r a u = shown_last text text' end _ _ (piece_refused one inp n at rs ps lr lp r (sym (ap (λ (x : Decoded). x.answer) decoded) ∙ a)) u

  module _ (bs : Bytes inp) (e : Extent) (a : d.answer ≡ Ok (Some e)) where
    as_answered : (decode_rule one defaults inp at rs ps).answer ≡ Ok (Some e)
    as_answered = sym (ap (λ (x : Decoded). x.answer) decoded) ∙ a

    abbrev told : Value
    told = value one inp n at rs ps lr lp bs e as_answered

    root_is : length d.records ≡ 65536 → root_value d.records d.payload ≡ Whole told (spot (records_of told) (payload_of told))
    root_is l = row_root one inp n at rs ps lr lp bs e as_answered d.records d.payload (ap (λ (x : Decoded). x.records) decoded) (ap (λ (x : Decoded). x.payload) decoded) l

    pub row_listable : (room : ℕ) → length d.records ≡ length rs → length d.payload ≡ length ps → 655360 ≤ room → RowListable d.records d.payload room
    unfolding IsWhole
    row_listable room l m h = record { whole = rw (root_is (l ∙ lr)) tt; few = omega (arith, l, lr); small = omega (arith, m, lp); roomy = h }

    pub read_row : (text text' : List ℕ) (end : ℕ) → length d.records ≡ length rs → TextPut text 0 (row_lines n (whole_value (root_value d.records d.payload))) text' end → record { shown = shown-is.Row end e.bytes; text = text' } ≡ show_piece (piece_at one inp n at) text
    unfolding whole_value
    read_row text text' end l u = shown_row text text' end _ _ _ (piece_row one inp n at rs ps lr lp bs e as_answered) (rw (root_is (l ∙ lr)) at u)

-- ---- the public call

module _ (schema names inp : List ℕ) (n at : ℕ) (text : List ℕ) where
  pub no_room : length text < 655360 → record { shown = shown-is.NoRoom; text = text } ≡ piece_shown schema names inp n at text
  unfolding piece_shown pick
  no_room h = rw (lt-leb 655360 (length text) h)

  pub too_long : 655360 ≤ length text → files_ok schema names inp ≡ false → (text' : List ℕ) (end : ℕ) → TextPut text 0 (refusal_line Setting) text' end → record { shown = shown-is.Last end; text = text' } ≡ piece_shown schema names inp n at text
  unfolding piece_shown pick
  too_long h f text' end u = rw (le-leb 655360 (length text) h) (shown_last text text' end (files_piece schema names inp n at) (refusal_line Setting) (unfold files_piece pick in rw f) u)

  pub in_room : 655360 ≤ length text → files_ok schema names inp ≡ true → (x : PieceShown) → x ≡ show_piece (piece_at (one_table (records schema) schema names) inp n at) text → x ≡ piece_shown schema names inp n at text
  unfolding piece_shown pick files_piece
  in_room h f x e = rw (le-leb 655360 (length text) h, f) e

-- ---- what a caller knows of the buffer

module _ (schema names inp : List ℕ) (n at : ℕ) (text : List ℕ) (roomy : 655360 ≤ length text) (x : PieceShown) (is : x ≡ piece_shown schema names inp n at text) where
  shows : x ≡ show_piece (files_piece schema names inp n at) text
  unfolding piece_shown pick
  shows = is ∙ rw (le-leb 655360 (length text) roomy)

  pub row_shown : (end bytes : ℕ) → x.shown ≡ shown-is.Row end bytes → end ≤ 655360 → files_piece schema names inp n at ≡ row_piece (take end x.text) bytes
  unfolding show_piece
  row_shown end bytes e h = by (files_piece schema names inp n at) shows
    where
      by : (p : Piece) → x ≡ show_piece p text → p ≡ row_piece (take end x.text) bytes
      by (row_piece l b) s =
          let m : shown-is.Row (length l) b ≡ shown-is.Row end bytes = sym (ap (λ (y : PieceShown). y.shown) s) ∙ e in
          let a : length l ≡ end = cc in
          let c : b ≡ bytes = cc in
          let t : take end x.text ≡ l = rw (ap (λ (y : PieceShown). y.text) s) (written_first l text end (sym a) (omega (arith, a, h, roomy))).0 in
          rw (t, c)
      by (last_piece l) s = absurd (let m : shown-is.Last (length l) ≡ shown-is.Row end bytes = sym (ap (λ (y : PieceShown). y.shown) s) ∙ e in let z : ◌≡◌ {A = ℕ} 0 1 = cc in omega arith)

  pub last_shown : (end : ℕ) → x.shown ≡ shown-is.Last end → end ≤ 655360 → files_piece schema names inp n at ≡ last_piece (take end x.text)
  unfolding show_piece
  last_shown end e h = by (files_piece schema names inp n at) shows
    where
      by : (p : Piece) → x ≡ show_piece p text → p ≡ last_piece (take end x.text)
      by (row_piece l b) s = absurd (let m : shown-is.Row (length l) b ≡ shown-is.Last end = sym (ap (λ (y : PieceShown). y.shown) s) ∙ e in let z : ◌≡◌ {A = ℕ} 0 1 = cc in omega arith)
      by (last_piece l) s =
          let m : shown-is.Last (length l) ≡ shown-is.Last end = sym (ap (λ (y : PieceShown). y.shown) s) ∙ e in
          let a : length l ≡ end = cc in
          let t : take end x.text ≡ l = rw (ap (λ (y : PieceShown). y.text) s) (written_first l text end (sym a) (omega (arith, a, h, roomy))).0 in
          rw t

  pub some_shown : x.shown ≡ shown-is.NoRoom → ⊥
  unfolding show_piece
  some_shown e = by (files_piece schema names inp n at) shows
    where
      by : (p : Piece) → x ≡ show_piece p text → ⊥
      by (row_piece l b) s = absurd (let m : shown-is.Row (length l) b ≡ shown-is.NoRoom = sym (ap (λ (y : PieceShown). y.shown) s) ∙ e in let z : ◌≡◌ {A = ℕ} 0 1 = cc in omega arith)
      by (last_piece l) s = absurd (let m : shown-is.Last (length l) ≡ shown-is.NoRoom = sym (ap (λ (y : PieceShown). y.shown) s) ∙ e in let z : ◌≡◌ {A = ℕ} 0 1 = cc in omega arith)
