-- The three calls, by what the run answered and what the second pass found.
-- Assumes nothing.
use Rattle.std.specs.Prelude.{⊤}
use Rattle.std.proofs.Common.{Result, Option, Ok, Err, Some, None}
use Prim.Native.Nat.{ℕ, ◌≤◌, ◌<◌, min}
use mathlib.Core.Path.{◌≡◌, refl, sym, ap, ◌∙◌}
use mathlib.Core.Bool.{Bool, true, false, not}
use mathlib.Core.List.{List}
use native.Mathlib.Omega.{arith}
use borrow.Author.Tests.{le-leb, lt-leb, eqb-true, eqb-false, not-true, not-false}
use lib.Dec.{eqb, leb}
use lib.ListN.{length, take, drop, length-take}
use lib.Seq.{take_all}
use Rattle.rules.specs.Choice.{pick}
use Rattle.rules.specs.Bytes.{part, over}
use Rattle.rules.specs.Format.{Format}
use Rattle.rules.specs.Refusals.{Setting, NoIndexRoom, IndexMismatch}
use Rattle.rules.specs.Reading.{run_rule, row_count, byte_count, ran_of, refused_run, room}
use Rattle.rules.specs.Index.{Indexed, index_record_start, index_records_in, index_of, is_index_of, where_ended, refused_after, extended, build_rule, check_index_rule, extend_rule}
use Rattle.rules.specs.declared.settings.Settings.{Settings}
use Rattle.rules.specs.declared.refusal.Refusal.{Refusal}
use Rattle.rules.specs.declared.answer.RowSpan.{RowSpan}
use Rattle.rules.specs.declared.answer.Ran.{Ran}
use Rattle.rules.proofs.Orders.{is_equal_lem, order_equal}
use Rattle.rules.proofs.Stands.{length_part, part-whole}
use Rattle.index_laws.proofs.Records.{length-index}
use Rattle.index_laws.proofs.Ended.{rows}
use Rattle.index.specs.Passes.{compared_with, Comparable, Writable}

-- where the run is refused
by_refusal : {A : Type 0} (stop : Result ⊤ Refusal) (a b : A) → (stop ≡ Ok tt → ⊥) → where_ended stop a b ≡ b
unfolding where_ended
by_refusal (Ok tt) a b n = absurd (n refl)
by_refusal (Err r) a b n = refl

pub not_end : (stop : Result ⊤ Refusal) (r : Refusal) → stop ≡ Err r → stop ≡ Ok tt → ⊥
not_end stop r e q = let z : ◌≡◌ {A = ℕ} 0 1 = cc in omega arith

pub not_other : (x : Option ℕ) → x ≡ None → (at : ℕ) → x ≡ Some at → ⊥
not_other x e at q = let z : ◌≡◌ {A = ℕ} 0 1 = cc in omega arith

-- bytes of another length are not the index of these rows
other_length : (rows : List RowSpan) (bytes : List ℕ) → (length bytes ≡ index_record_start (row_count rows) → ⊥) → is_index_of rows bytes ≡ false
other_length rows bytes n = by (is_index_of rows bytes) refl
  where
    by : (b : Bool) → is_index_of rows bytes ≡ b → b ≡ false
    by false q = refl
    by true q = unfold is_index_of in absurd (n (ap (λ (x : List ℕ). length x) (order_equal _ _ (is_equal_lem _ q)) ∙ length-index rows))

-- what the second pass says of the records
module _ (rows : List RowSpan) (count : ℕ) (index : List ℕ) (x : Option ℕ) (is : x ≡ compared_with rows count index) where
  abbrev Told : Bool → Option ℕ
  Told b = pick b (Some (byte_count (take count rows))) None

  pub told_other : ((at : ℕ) → x ≡ Some at → ⊥) → is_index_of (take count rows) (part index 0 (index_record_start count)) ≡ false
  unfolding compared_with pick
  told_other n = by (is_index_of (take count rows) (part index 0 (index_record_start count))) refl is
    where
      by : (b : Bool) → is_index_of (take count rows) (part index 0 (index_record_start count)) ≡ b → x ≡ Told b → b ≡ false
      by true q e = absurd (n _ e)
      by false q e = refl

  pub told_same_at : (at : ℕ) → x ≡ Some at → (is_index_of (take count rows) (part index 0 (index_record_start count)) ≡ true) × (at ≡ byte_count (take count rows))
  unfolding compared_with pick
  told_same_at at k = by (is_index_of (take count rows) (part index 0 (index_record_start count))) refl is
    where
      by : (b : Bool) → is_index_of (take count rows) (part index 0 (index_record_start count)) ≡ b → x ≡ Told b → (b ≡ true) × (at ≡ byte_count (take count rows))
      by true q e = (refl, cc)
      by false q e = absurd (let z : ◌≡◌ {A = ℕ} 0 1 = cc in omega arith)

module _ (f : Format) (s : Settings) (inp : List ℕ) (ran : Ran) (is : ran ≡ ran_of (run_rule f s inp)) where
  stop_is : (run_rule f s inp).stop ≡ ran.stop
  unfolding ran_of
  stop_is = sym (ap (λ (r : Ran). r.stop) is)

  rows_are : row_count (rows f s inp) ≡ ran.rows
  unfolding ran_of
  rows_are = sym (ap (λ (r : Ran). r.rows) is)

  bytes_are : byte_count (rows f s inp) ≡ ran.bytes
  unfolding ran_of
  bytes_are = sym (ap (λ (r : Ran). r.bytes) is)

  -- the run's counts, and a refusal after it
  after_run : (r : Refusal) → record { rows = ran.rows; bytes = ran.bytes; stop = Err r } ≡ refused_after (run_rule f s inp) r
  unfolding refused_after
  after_run r = rw (← is)

  module _ (refused : ran.stop ≡ Ok tt → ⊥) where
    other_stop : (run_rule f s inp).stop ≡ Ok tt → ⊥
    other_stop e = refused (sym stop_is ∙ e)

    pub build_refused : (index : List ℕ) → record { answer = ran; index = index } ≡ build_rule f s inp index
    unfolding build_rule
    build_refused index = rw (by_refusal (run_rule f s inp).stop (extended (run_rule f s inp) 0 index) (record { answer = ran_of (run_rule f s inp); index = index }) other_stop, is)

    pub check_refused : (index : List ℕ) → length index ≤ 4294967295 → ran ≡ check_index_rule f s inp index
    unfolding check_index_rule pick
    check_refused index h =
        rw (le-leb (length index) 4294967295 h) (is ∙ sym (by_refusal (run_rule f s inp).stop (pick (is_index_of (rows f s inp) index) (ran_of (run_rule f s inp)) (refused_after (run_rule f s inp) IndexMismatch)) (ran_of (run_rule f s inp)) other_stop))

  module _ (end : ran.stop ≡ Ok tt) where
    ends : (run_rule f s inp).stop ≡ Ok tt
    ends = stop_is ∙ end

    -- ---- room, and the records from `old` on
    module _ (index : List ℕ) (old r n : ℕ) (r-is : r ≡ min (length index) 4294967295) (n-is : n ≡ index_records_in r) where
      no_room : n < ran.rows → record { answer = record { rows = ran.rows; bytes = ran.bytes; stop = Err NoIndexRoom }; index = index } ≡ extended (run_rule f s inp) old index
      unfolding extended room pick
      no_room h = rw (after_run NoIndexRoom, lt-leb (row_count (rows f s inp)) (index_records_in (min (length index) 4294967295)) (rw (n-is, r-is, ← rows_are) at h))

      put : ran.rows ≤ n → (index' : List ℕ) → index' ≡ over index (index_record_start old) (index_of (drop old (rows f s inp))) → record { answer = ran; index = index' } ≡ extended (run_rule f s inp) old index
      unfolding extended room pick
      put h index' e = rw (is, e, le-leb (row_count (rows f s inp)) (index_records_in (min (length index) 4294967295)) (rw (n-is, r-is, ← rows_are) at h))

      pub writable : (start : ℕ) → old ≤ ran.rows → start ≡ byte_count (take old (rows f s inp)) → ran.rows ≤ n → Writable f s inp old start (length index)
      writable start h e k = record { ended = ends; few = rw rows_are h; starts = e; within = let z : index_record_start (row_count (rows f s inp)) ≡ index_record_start ran.rows = rw rows_are in omega (arith, z, k, n-is, r-is) }

    -- ---- build
    module _ (index : List ℕ) (r n : ℕ) (r-is : r ≡ min (length index) 4294967295) (n-is : n ≡ index_records_in r) where
      built : build_rule f s inp index ≡ extended (run_rule f s inp) 0 index
      unfolding build_rule where_ended
      built = rw ends

      pub build_no_room : n < ran.rows → record { answer = record { rows = ran.rows; bytes = ran.bytes; stop = Err NoIndexRoom }; index = index } ≡ build_rule f s inp index
      build_no_room h = no_room index 0 r n r-is n-is h ∙ sym built

      pub build_put : ran.rows ≤ n → (index' : List ℕ) → index' ≡ over index (index_record_start 0) (index_of (drop 0 (rows f s inp))) → record { answer = ran; index = index' } ≡ build_rule f s inp index
      build_put h index' e = put index 0 r n r-is n-is h index' e ∙ sym built

    -- ---- check
    module _ (index : List ℕ) (h : length index ≤ 4294967295) where
      checked : check_index_rule f s inp index ≡ pick (is_index_of (rows f s inp) index) (ran_of (run_rule f s inp)) (refused_after (run_rule f s inp) IndexMismatch)
      unfolding check_index_rule where_ended pick
      checked = rw (le-leb (length index) 4294967295 h, ends)

      mismatch : is_index_of (rows f s inp) index ≡ false → record { rows = ran.rows; bytes = ran.bytes; stop = Err IndexMismatch } ≡ check_index_rule f s inp index
      unfolding pick
      mismatch e = after_run IndexMismatch ∙ sym (checked ∙ rw e)

      pub check_other_size : (b : Bool) → b ≡ eqb (length index) (index_record_start ran.rows) → not b ≡ true → record { rows = ran.rows; bytes = ran.bytes; stop = Err IndexMismatch } ≡ check_index_rule f s inp index
      check_other_size b q e =
          let z : eqb (length index) (index_record_start ran.rows) ≡ false = sym q ∙ not-true b e in
          mismatch (other_length (rows f s inp) index (rw rows_are (eqb-false (length index) (index_record_start ran.rows) z)))

      module _ (b : Bool) (q : b ≡ eqb (length index) (index_record_start ran.rows)) (e : not b ≡ false) where
        size : length index ≡ index_record_start ran.rows
        size = eqb-true (length index) (index_record_start ran.rows) (sym q ∙ not-false b e)

        pub comparable : Comparable f s inp ran.rows (length index)
        comparable = record { ended = ends; few = omega (arith, rows_are); within = omega (arith, size) }

        whole_index : is_index_of (take ran.rows (rows f s inp)) (part index 0 (index_record_start ran.rows)) ≡ is_index_of (rows f s inp) index
        unfolding row_count
        whole_index = rw (take_all ran.rows (rows f s inp) (omega (arith, rows_are)), ← size, part-whole index)

        module _ (x : Option ℕ) (so : x ≡ compared_with (rows f s inp) ran.rows index) where
          pub check_other : ((at : ℕ) → x ≡ Some at → ⊥) → record { rows = ran.rows; bytes = ran.bytes; stop = Err IndexMismatch } ≡ check_index_rule f s inp index
          check_other k = mismatch (sym whole_index ∙ told_other (rows f s inp) ran.rows index x so k)

          pub check_same : (at : ℕ) → x ≡ Some at → ran ≡ check_index_rule f s inp index
          unfolding pick
          check_same at k = is ∙ sym (checked ∙ rw (sym whole_index ∙ (told_same_at (rows f s inp) ran.rows index x so at k).0))

pub check_long : (f : Format) (s : Settings) (inp index : List ℕ) → 4294967295 < length index → record { rows = 0; bytes = 0; stop = Err Setting } ≡ check_index_rule f s inp index
unfolding check_index_rule pick ran_of refused_run row_count byte_count
check_long f s inp index h = rw (lt-leb (length index) 4294967295 h)

-- ---- extend
module _ (f : Format) (s : Settings) (inp : List ℕ) (old : ℕ) (index : List ℕ) (r n : ℕ) (r-is : r ≡ min (length index) 4294967295) (n-is : n ≡ index_records_in r) where
  pub extend_beyond : n < old → record { answer = record { rows = 0; bytes = 0; stop = Err Setting }; index = index } ≡ extend_rule f s inp old index
  unfolding extend_rule pick room ran_of refused_run row_count byte_count
  extend_beyond h = rw (lt-leb old (index_records_in (min (length index) 4294967295)) (rw (n-is, r-is) at h))

  module _ (h : old ≤ n) (ran : Ran) (is : ran ≡ ran_of (run_rule f s inp)) where
    inside : leb old (index_records_in (room index)) ≡ true
    unfolding room
    inside = le-leb old (index_records_in (min (length index) 4294967295)) (rw (n-is, r-is) at h)

    pub extend_refused : (ran.stop ≡ Ok tt → ⊥) → record { answer = ran; index = index } ≡ extend_rule f s inp old index
    unfolding extend_rule pick
    extend_refused refused =
        rw (inside, by_refusal {A = Indexed} (run_rule f s inp).stop _ (record { answer = ran_of (run_rule f s inp); index = index }) (other_stop f s inp ran is refused), is)

    module _ (end : ran.stop ≡ Ok tt) where
      abbrev matches : Bool
      matches = is_index_of (take old (rows f s inp)) (part index 0 (index_record_start old))

      extends : extend_rule f s inp old index ≡ pick matches (extended (run_rule f s inp) old index) (record { answer = refused_after (run_rule f s inp) IndexMismatch; index = index })
      unfolding extend_rule where_ended pick
      extends = rw (inside, ends f s inp ran is end)

      mismatched : matches ≡ false → record { answer = record { rows = ran.rows; bytes = ran.bytes; stop = Err IndexMismatch }; index = index } ≡ extend_rule f s inp old index
      unfolding pick
      mismatched e = rw (after_run f s inp ran is IndexMismatch) (sym (extends ∙ rw e))

      -- more old records than rows
      pub extend_few : ran.rows < old → record { answer = record { rows = ran.rows; bytes = ran.bytes; stop = Err IndexMismatch }; index = index } ≡ extend_rule f s inp old index
      unfolding row_count
      extend_few k =
          mismatched (other_length (take old (rows f s inp)) (part index 0 (index_record_start old)) (λ z.
          let a = length_part index 0 (index_record_start old) in
          let b = length-take old (rows f s inp) in
          let c = rows_are f s inp ran is in
          omega (arith, z, a, b, c)))

      module _ (k : old ≤ ran.rows) where
        pub extend_comparable : Comparable f s inp old (length index)
        extend_comparable = record { ended = ends f s inp ran is end; few = rw (rows_are f s inp ran is) k; within = omega (arith, h, n-is, r-is) }

        module _ (x : Option ℕ) (so : x ≡ compared_with (rows f s inp) old index) where
          pub extend_other : ((at : ℕ) → x ≡ Some at → ⊥) → record { answer = record { rows = ran.rows; bytes = ran.bytes; stop = Err IndexMismatch }; index = index } ≡ extend_rule f s inp old index
          extend_other m = mismatched (told_other (rows f s inp) old index x so m)

          module _ (at : ℕ) (m : x ≡ Some at) where
            stands_so : extend_rule f s inp old index ≡ extended (run_rule f s inp) old index
            unfolding pick
            stands_so = extends ∙ rw (told_same_at (rows f s inp) old index x so at m).0

            pub extend_no_room : n < ran.rows → record { answer = record { rows = ran.rows; bytes = ran.bytes; stop = Err NoIndexRoom }; index = index } ≡ extend_rule f s inp old index
            extend_no_room l = no_room f s inp ran is end index old r n r-is n-is l ∙ sym stands_so

            pub extend_writable : ran.rows ≤ n → Writable f s inp old at (length index)
            extend_writable l = writable f s inp ran is end index old r n r-is n-is at k (told_same_at (rows f s inp) old index x so at m).1 l

            pub extend_put : ran.rows ≤ n → (index' : List ℕ) → index' ≡ over index (index_record_start old) (index_of (drop old (rows f s inp))) → record { answer = ran; index = index' } ≡ extend_rule f s inp old index
            extend_put l index' e = put f s inp ran is end index old r n r-is n-is l index' e ∙ sym stands_so
