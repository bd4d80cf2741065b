-- With an index that check accepts, row n is the run's row n.
-- Assumes nothing.
use Rattle.std.proofs.Common.{Ok, Err, Some}
use Prim.Native.Nat.{ℕ, ◌+◌, ◌≤◌, ◌<◌}
use mathlib.Core.Path.{◌≡◌, refl, sym, ap, ◌∙◌}
use mathlib.Core.Bool.{Bool, true, false}
use mathlib.Core.Logic.{◌⊎◌, inl, inr}
use mathlib.Core.List.{List, ◌∷◌, ◌++◌}
use native.Mathlib.Omega.{arith}
use borrow.Author.Tests.{le-leb, lt-ltb, le-ltb, eq-eqb, ne_eqb}
use lib.Dec.{eqb}
use lib.ListN.{length, take, drop, length-drop, take-append-drop}
use lib.Seq.{length-take-le}
use Rattle.rules.specs.Choice.{pick}
use Rattle.rules.specs.Bytes.{Bytes, Stands}
use Rattle.rules.specs.Format.{Format}
use Rattle.rules.specs.Refusals.{NoSuchRow}
use Rattle.rules.specs.Reading.{limits, through, row_at, skipped, skip_from, row_count, byte_count, untouched, filled, decode_rule}
use Rattle.rules.specs.Index.{IndexOf, index_record_start, index_records_in, index_record, indexed_at, index_of, is_that_row, row_of_record, row_of_index, check_index_rule, indexed_row_rule}
use Rattle.rules.specs.declared.settings.Settings.{Settings}
use Rattle.rules.specs.declared.answer.Extent.{Extent}
use Rattle.rules.specs.declared.answer.RowSpan.{RowSpan}
use Rattle.rules.proofs.Stands.{stands_self, stands_left, stands_right}
use Rattle.rules.proofs.Tests.{and_true}
use Rattle.row_laws.proofs.Door.{MayAsk, through_end, door_asked}
use Rattle.row_laws.proofs.Running.{Iterates, ended, accepted}
use Rattle.index_laws.proofs.Records.{length-index, index_append, stands_read}
use Rattle.index_laws.proofs.Rows.{row_fits}
use Rattle.index_laws.proofs.Ended.{rows, Opened, Empty, opened, Passing, passing_left, passing_inside, passing_opened}
use Rattle.index_laws.proofs.Next.{span, some_left}
use Rattle.index_laws.proofs.Holds.{check_exactly, checked_short}

module _ (f : Format) (s : Settings) (inp index : List ℕ) (bs : Bytes inp) (good : (check_index_rule f s inp index).stop ≡ Ok tt) (n : ℕ) (rs ps : List ℕ) where
  is : IndexOf f s inp index
  is = (check_exactly f s inp index (checked_short f s inp index good)).0 good

  many : index_records_in (length index) ≡ row_count (rows f s inp)
  many = let z = ap (λ (x : List ℕ). length x) is.is ∙ length-index (rows f s inp) in omega (arith, z)

  -- behind the door, at its end or not
  asked : MayAsk f s inp → indexed_row_rule f s inp index n rs ps ≡ row_of_index f inp (limits s) rs ps index n
  unfolding indexed_row_rule pick
  asked may = rw (le-leb (length index) 4294967295 (checked_short f s inp index good), door_asked f s inp may 0 (omega arith)) (through_end (eqb 0 (length inp)) _ _ _ ∙ both (eqb 0 (length inp)))
    where
      both : (b : Bool) → pick b (row_of_index f inp (limits s) rs ps index n) (row_of_index f inp (limits s) rs ps index n) ≡ row_of_index f inp (limits s) rs ps index n
      both true = refl
      both false = refl

  module _ (h : n < row_count (rows f s inp)) where
    abbrev at : ℕ
    at = byte_count (take n (rows f s inp))

    here : Passing f s inp at n
    here = record { few = omega arith; begins = refl }

    o : Opened f s inp
    o = passing_opened f s inp bs at n here is.ended (inr h)

    before : at < length inp
    unfolding row_count
    before = some_left f inp (limits s) bs at (drop n (rows f s inp)) (passing_left f s inp bs at n here o) (passing_inside f s inp bs at n here o) (omega (arith, length-drop n (rows f s inp)))

    -- the run's row n
    record Nth : Type 0 where
      e : Extent
      after : List RowSpan
      reads : skip_from f inp (limits s) at ≡ Ok (Some e)
      first : drop n (rows f s inp) ≡ span at e ∷ after

    nth : Nth
    unfolding row_count
    nth = by (passing_left f s inp bs at n here o) refl
      where
        by : {rest : List RowSpan} → Iterates f inp (limits s) at rest (Ok tt) → drop n (rows f s inp) ≡ rest → Nth
        by (ended x) w = absurd (let z : length (drop n (rows f s inp)) ≡ 0 = ap (λ (l : List RowSpan). length l) w in omega (arith, z, length-drop n (rows f s inp)))
        by (accepted {e = e} {rows = after} x i) w = record { e = e; after = after; reads = x; first = w }

    judged : skipped at (row_at f inp (limits s) at) ≡ Ok (Some nth.e)
    unfolding skip_from pick
    judged = rw (ne_eqb at (length inp) (λ z. omega (arith, before))) at nth.reads

    -- record n is its record
    record_n : indexed_at index n ≡ span at nth.e
    unfolding index_of row_count
    record_n =
        let w : index ≡ index_of (take n (rows f s inp)) ++ (index_record (span at nth.e) ++ index_of nth.after) =
        is.is ∙ (ap (λ (x : List RowSpan). index_of x) (sym (take-append-drop n (rows f s inp))) ∙ (index_append (take n (rows f s inp)) (drop n (rows f s inp)) ∙ rw nth.first)) in
        let st : Stands index 0 (index_of (take n (rows f s inp)) ++ (index_record (span at nth.e) ++ index_of nth.after)) = rw (← w) (stands_self index) in
        let r = stands_right index 0 (index_of (take n (rows f s inp))) (index_record (span at nth.e) ++ index_of nth.after) st in
        let l : length (index_of (take n (rows f s inp))) ≡ index_record_start n = length-index (take n (rows f s inp)) ∙ ap (λ (m : ℕ). index_record_start m) (length-take-le n (rows f s inp) (omega arith)) in
        let z : 0 + length (index_of (take n (rows f s inp))) ≡ index_record_start n = omega (arith, l) in
        let u = stands_left index (index_record_start n) (index_record (span at nth.e)) (index_of nth.after) (rw z at r) in
        stands_read index n (span at nth.e) (row_fits f inp (limits s) bs o.may.short at nth.e (omega (arith, before)) nth.reads) u

    the_row : row_of_index f inp (limits s) rs ps index n ≡ filled at (row_at f inp (limits s) at) rs ps
    unfolding row_of_index row_of_record is_that_row pick
    the_row =
        let k : is_that_row (span at nth.e) (Ok (Some nth.e)) ≡ true = and_true _ _ (eq-eqb nth.e.table nth.e.table refl) (eq-eqb nth.e.bytes nth.e.bytes refl) in
        rw (lt-ltb n (index_records_in (length index)) (omega (arith, many)), record_n, lt-ltb at (length inp) before, judged, k)

    decoded : decode_rule f s inp at rs ps ≡ filled at (row_at f inp (limits s) at) rs ps
    unfolding decode_rule through pick
    decoded = rw (door_asked f s inp o.may at (omega (arith, before)), ne_eqb at (length inp) (λ z. omega (arith, before)))

    -- row n is decoded where the run's row n begins
    pub numbered : indexed_row_rule f s inp index n rs ps ≡ decode_rule f s inp (byte_count (take n (rows f s inp))) rs ps
    numbered = asked o.may ∙ (the_row ∙ sym decoded)

  -- and from the count on there is none
  pub none_numbered : row_count (rows f s inp) ≤ n → indexed_row_rule f s inp index n rs ps ≡ untouched (Err NoSuchRow) rs ps
  none_numbered h = by (opened f s inp bs is.ended) ∙ none
    where
      by : Opened f s inp ⊎ Empty f s inp → indexed_row_rule f s inp index n rs ps ≡ row_of_index f inp (limits s) rs ps index n
      by (inl o) = asked o.may
      by (inr x) = unfold indexed_row_rule pick through in rw (le-leb (length index) 4294967295 (checked_short f s inp index good), x.shut)

      none : row_of_index f inp (limits s) rs ps index n ≡ untouched (Err NoSuchRow) rs ps
      none = unfold row_of_index pick in rw (le-ltb n (index_records_in (length index)) (omega (arith, many)))
