-- A row by its record: as decode has it there, or another one; and row n, test by test.
-- Assumes nothing.
use Rattle.std.proofs.Common.{Result, Option, Ok, Err, Some, None}
use Rattle.std.specs.Prelude.{⊤}
use Prim.Native.Nat.{ℕ, ◌+◌, ◌≤◌, ◌<◌, min}
use mathlib.Core.Path.{◌≡◌, refl, sym, ◌∙◌, ap}
use mathlib.Core.Bool.{Bool, true, false, not}
use mathlib.Core.List.{List}
use native.Mathlib.Omega.{arith}
use borrow.Author.Tests.{le-leb, lt-leb, lt-ltb, le-ltb, not-true, not-false}
use lib.ListN.{length}
use Rattle.rules.specs.Choice.{pick}
use Rattle.rules.specs.Bytes.{Bytes, over}
use Rattle.rules.specs.Block.{block}
use Rattle.rules.specs.ValueTable.{flat, payload_bytes}
use Rattle.rules.specs.Format.{Format}
use Rattle.rules.specs.Walk.{Limits}
use Rattle.rules.specs.Refusals.{Setting, IndexMismatch, NoSuchRow}
use Rattle.rules.specs.Reading.{limits, door, through, row_at, skipped, room_for, Decoded, untouched, filled}
use Rattle.rules.specs.Index.{index_records_in, indexed_at, is_that_row, row_of_record, row_of_index, indexed_row_rule}
use Rattle.rules.specs.declared.settings.Settings.{Settings}
use Rattle.rules.specs.declared.refusal.Refusal.{Refusal}
use Rattle.rules.specs.declared.answer.Door.{Door}
use Rattle.rules.specs.declared.answer.Extent.{Extent}
use Rattle.rules.specs.declared.answer.RowSpan.{RowSpan}
use Rattle.row_laws.proofs.Door.{behind_open}
use Rattle.row.specs.declared.steps.RowBlock.{RowBlock}
use Rattle.row.specs.Steps.{a_row, row_block_at, row_in, ThroughDoor}
use Rattle.row.proofs.Laws.{row_told, refused_told, found_told}
use Rattle.fill.specs.Filling.{row_value}
use Rattle.decode.specs.Steps.{given_room}
use Rattle.decode.proofs.Laws.{found_other, found_no_room, found_filled}
use Rattle.index_laws.proofs.Ended.{at_end}

-- ---- the row of a record

module _ (f : Format) (inp : List ℕ) (lim : Limits) (rs ps : List ℕ) (row : RowSpan) (read : Result (Option Extent) Refusal) (is : read ≡ skipped row.offset (row_at f inp lim row.offset)) where
  -- what decode leaves there
  that_row : is_that_row row read ≡ true → row_of_record f inp lim rs ps row ≡ filled row.offset (row_at f inp lim row.offset) rs ps
  unfolding row_of_record pick
  that_row e = rw (← is, e)

  -- no row at all is not another one
  no_row : ((e : Extent) → read ≡ Ok (Some e) → ⊥) → (d : Decoded) → d ≡ filled row.offset (row_at f inp lim row.offset) rs ps → d ≡ row_of_record f inp lim rs ps row
  no_row none d q = q ∙ sym (that_row (by read none))
    where
      by : (x : Result (Option Extent) Refusal) → ((e : Extent) → x ≡ Ok (Some e) → ⊥) → is_that_row row x ≡ true
      by (Ok (Some e)) none = absurd (none e refl)
      by (Ok None) none = unfold is_that_row in refl
      by (Err r) none = unfold is_that_row in refl

  pub refused_row : (r : Refusal) → read ≡ Err r → (d : Decoded) → d ≡ filled row.offset (row_at f inp lim row.offset) rs ps → d ≡ row_of_record f inp lim rs ps row
  refused_row r k = no_row (λ e x. let z : ◌≡◌ {A = ℕ} 0 1 = cc in omega arith)

  module _ (e : Extent) (k : read ≡ Ok (Some e)) (t : Bool) (told : t ≡ is_that_row row (Ok (Some e))) where
    another_row : not t ≡ true → untouched (Err IndexMismatch) rs ps ≡ row_of_record f inp lim rs ps row
    unfolding row_of_record pick
    another_row n = let z : is_that_row row read ≡ false = rw k (sym told ∙ not-true t n) in rw (← is, z)

    its_row : not t ≡ false → (d : Decoded) → d ≡ filled row.offset (row_at f inp lim row.offset) rs ps → d ≡ row_of_record f inp lim rs ps row
    its_row n d q = q ∙ sym (that_row (rw k (sym told ∙ not-false t n)))

-- ---- and so of the row whose block was found: v is the format as the code reads it

module _ (f : Format) (inp : List ℕ) (lim : Limits) (row : RowSpan) (x : Result RowBlock Refusal) (found : x ≡ row_block_at f inp row.offset) (b : RowBlock) (y : x ≡ Ok b) (v : Format) (own : v ≡ f)
    (bs : Bytes inp) (rs ps : List ℕ) (read : Result Extent Refusal) (is : a_row read ≡ row_in v.table inp lim row.offset b.tag b.first b.count) where
  told_lem : a_row read ≡ skipped row.offset (row_at f inp lim row.offset)
  told_lem = found_told f inp row.offset x found b y v own lim (a_row read) is

  pub none_there : (r : Refusal) → read ≡ Err r → untouched (Err r) rs ps ≡ row_of_record f inp lim rs ps row
  none_there r h = no_row f inp lim rs ps row (a_row read) told_lem (refused_told read r h) _ (found_other f inp lim row.offset x found b y v own bs rs ps read is r h)

  module _ (e : Extent) (h : read ≡ Ok e) (t : Bool) (same : t ≡ is_that_row row (Ok (Some e))) where
    pub another_there : t ≡ false → untouched (Err IndexMismatch) rs ps ≡ row_of_record f inp lim rs ps row
    another_there n = another_row f inp lim rs ps row (a_row read) told_lem e (row_told read e h) t same (ap not n)

    module _ (n : t ≡ true) (fits : Result ⊤ Refusal) (so : given_room e fits ≡ room_for row.offset (min (length rs) 4294967295) (min (length ps) 4294967295) e) where
      its : (d : Decoded) → d ≡ filled row.offset (row_at f inp lim row.offset) rs ps → d ≡ row_of_record f inp lim rs ps row
      its = its_row f inp lim rs ps row (a_row read) told_lem e (row_told read e h) t same (ap not n)

      pub no_room_there : (r : Refusal) → fits ≡ Err r → untouched (Err r) rs ps ≡ row_of_record f inp lim rs ps row
      no_room_there r z = its _ (found_no_room f inp lim row.offset x found b y v own bs rs ps read is e h fits so r z)

      pub filled_there : fits ≡ Ok tt → (rs' ps' : List ℕ) →
          rs' ≡ over rs 0 (flat (row_value (block v.table b.first b.count) inp (row.offset + 2)) 0 0) →
          ps' ≡ over ps 0 (payload_bytes (row_value (block v.table b.first b.count) inp (row.offset + 2))) →
          untouched (Ok (Some e)) rs' ps' ≡ row_of_record f inp lim rs ps row
      filled_there z rs' ps' k m = its _ (found_filled f inp lim row.offset x found b y v own bs rs ps read is e h fits so z rs' ps' k m)

-- what is accepted is not refused
pub accepted_not : (x : Result Door Refusal) (d : Door) → x ≡ Ok d → (r : Refusal) → x ≡ Err r → ⊥
accepted_not x d h r k = let z : ◌≡◌ {A = ℕ} 0 1 = cc in omega arith

-- ---- row n

module _ (f : Format) (s : Settings) (inp index : List ℕ) (n : ℕ) (rs ps : List ℕ) where
  abbrev Answer : Decoded → Type 0
  Answer d = d ≡ indexed_row_rule f s inp index n rs ps

  pub long_index : 4294967295 < length index → Answer (untouched (Err Setting) rs ps)
  unfolding indexed_row_rule pick
  long_index h = rw (lt-leb (length index) 4294967295 h)

  module _ (h : length index ≤ 4294967295) (d : Result Door Refusal) (is : d ≡ door f s inp 0) where
    abbrev found : Decoded
    found = row_of_index f inp (limits s) rs ps index n

    tested : indexed_row_rule f s inp index n rs ps ≡ through d (λ r. untouched (Err r) rs ps) found found
    unfolding indexed_row_rule pick
    tested = rw (le-leb (length index) 4294967295 h, ← is)

    pub door_refused : (r : Refusal) → d ≡ Err r → Answer (untouched (Err r) rs ps)
    unfolding through
    door_refused r e = sym (tested ∙ rw e)

    module _ (not-refused : (r : Refusal) → d ≡ Err r → ⊥) where
      looked : indexed_row_rule f s inp index n rs ps ≡ found
      looked = tested ∙ by d not-refused
        where
          by : (x : Result Door Refusal) → ((r : Refusal) → x ≡ Err r → ⊥) → through x (λ r. untouched (Err r) rs ps) found found ≡ found
          by (Ok Door.Open) none = unfold through in refl
          by (Ok Door.End) none = unfold through in refl
          by (Err r) none = absurd (none r refl)

      module _ (count : ℕ) (many : count ≡ index_records_in (length index)) where
        pub no_such_row : count ≤ n → Answer (untouched (Err NoSuchRow) rs ps)
        unfolding row_of_index pick
        no_such_row k = sym (looked ∙ rw (le-ltb n (index_records_in (length index)) (rw many at k)))

        module _ (k : n < count) (row : RowSpan) (at_n : row ≡ indexed_at index n) where
          pub past_the_end : length inp ≤ row.offset → Answer (untouched (Err IndexMismatch) rs ps)
          unfolding row_of_index pick
          past_the_end l = sym (looked ∙ rw (lt-ltb n (index_records_in (length index)) (rw many at k), le-ltb (indexed_at index n).offset (length inp) (rw at_n at l)))

          module _ (l : row.offset < length inp) where
            pub row_asked : ThroughDoor f inp s × (row.offset ≤ length inp)
            row_asked = by d is not-refused
              where
                by : (x : Result Door Refusal) → x ≡ door f s inp 0 → ((r : Refusal) → x ≡ Err r → ⊥) → ThroughDoor f inp s × (row.offset ≤ length inp)
                by (Ok Door.Open) e none =
                    let o = behind_open f s inp 0 (sym e) in
                    (record { accepted = o.0.format; settings = o.0.settings; short = omega (arith, o.0.short) }, omega arith)
                by (Ok Door.End) e none = absurd (let z = at_end f s inp (sym e) in omega (arith, z))
                by (Err r) e none = absurd (none r refl)

            pub row_found_there : (x : Decoded) → x ≡ row_of_record f inp (limits s) rs ps row → Answer x
            unfolding row_of_index pick
            row_found_there x q = q ∙ sym (looked ∙ rw (lt-ltb n (index_records_in (length index)) (rw many at k), lt-ltb (indexed_at index n).offset (length inp) (rw at_n at l), ← at_n))
