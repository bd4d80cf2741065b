-- A longer stream begins with the rows of its first part; so extending that part's index is building the whole.
-- Assumes nothing.
use Rattle.rules.specs.declared.refusal.Refusal.{Refusal}
use Rattle.std.specs.Prelude.{⊤}
use Rattle.std.proofs.Common.{Result, Ok, Err}
use Prim.Native.Nat.{ℕ, ◌+◌, ◌≤◌}
use mathlib.Core.Path.{◌≡◌, refl, sym, ap, ◌∙◌}
use mathlib.Core.Bool.{true}
use mathlib.Core.Logic.{◌⊎◌, inl, inr}
use mathlib.Core.List.{List, [], ◌∷◌, ◌++◌, map}
use native.Mathlib.Omega.{arith}
use borrow.Author.Tests.{le-leb}
use lib.Dec.{leb}
use lib.ListN.{length, take, drop, set, take-append-drop}
use lib.Seq.{take-append_seam, set-get_or}
use Rattle.rules.specs.Choice.{pick}
use Rattle.rules.specs.Bytes.{Bytes, Stands, part, over}
use Rattle.rules.specs.Format.{Format}
use Rattle.rules.specs.Refusals.{IndexMismatch}
use Rattle.rules.specs.Reading.{Run, run_rule, row_count, byte_count, ran_of, room}
use Rattle.rules.specs.Windows.{goes_on, moved_row, continued}
use Rattle.rules.specs.Index.{Indexed, IndexOf, index_record_start, index_records_in, index_of, is_index_of, where_ended, refused_after, extended, build_rule, extend_rule}
use Rattle.rules.specs.declared.settings.Settings.{Settings}
use Rattle.rules.specs.declared.answer.RowSpan.{RowSpan}
use Rattle.rules.proofs.Over.{over-more}
use Rattle.rules.proofs.Stands.{stands_part}
use Rattle.row_laws.proofs.Windows.{run_in_windows}
use Rattle.index_laws.proofs.Records.{length-index, index_append}
use Rattle.index_laws.proofs.Ended.{rows, Opened, Empty, opened}
use Rattle.index_laws.proofs.Holds.{index_is}

-- what stands there already is written over without a change
over-same : (xs s : List ℕ) (at : ℕ) → Stands s at xs → over s at xs ≡ s
unfolding over Stands
over-same [] s at st = refl
over-same (x ∷ xs) s at st = let z : set s at x ≡ s = rw (sym st.0.1) (set-get_or s at 0) in rw z (over-same xs s (at + 1) st.1)

-- the rows of a stream's first part come first, however the run over all ends
pub rows_begin : (f : Format) (s : Settings) (inp more : List ℕ) → Bytes (inp ++ more) → length (inp ++ more) ≤ 4294967295 → (run_rule f s inp).stop ≡ Ok tt →
    take (row_count (run_rule f s inp).rows) (run_rule f s (inp ++ more)).rows ≡ (run_rule f s inp).rows
unfolding row_count goes_on continued
rows_begin f s inp more bs short end =
    let w = run_in_windows f s inp more bs short (rw end) in
    let n = byte_count (rows f s inp) in
    let q : rows f s (inp ++ more) ≡ rows f s inp ++ map (moved_row n) (run_rule f s (drop n (inp ++ more))).rows = ap (λ (r : Run). r.rows) w in
    ap (λ (x : List RowSpan). take (length (rows f s inp)) x) q ∙ take-append_seam (rows f s inp) (map (moved_row n) (run_rule f s (drop n (inp ++ more))).rows)

module _ (f : Format) (s : Settings) (inp more : List ℕ) (bs : Bytes (inp ++ more)) (index : List ℕ) (good : IndexOf f s inp index) (slice : List ℕ) (st : Stands slice 0 index) (counted : length index ≤ room slice) where
  abbrev old : ℕ
  old = row_count (rows f s inp)

  abbrev all : Run
  all = run_rule f s (inp ++ more)

  size : length index ≡ index_record_start old
  size = ap (λ (x : List ℕ). length x) good.is ∙ length-index (rows f s inp)

  inside : leb old (index_records_in (room slice)) ≡ true
  inside = le-leb old (index_records_in (room slice)) (omega (arith, size, counted))

  module _ (end : all.stop ≡ Ok tt) where
    -- a run that ended had no more bytes than a slice may have
    short : length (inp ++ more) ≤ 4294967295
    short = by (opened f s (inp ++ more) bs end)
      where
        by : Opened f s (inp ++ more) ⊎ Empty f s (inp ++ more) → length (inp ++ more) ≤ 4294967295
        by (inl o) = o.may.short
        by (inr n) = omega (arith, n.no_bytes)

    first_rows : take old all.rows ≡ rows f s inp
    first_rows = rows_begin f s inp more bs short good.ended

    matches : is_index_of (take old all.rows) (part slice 0 (index_record_start old)) ≡ true
    matches =
        let p : part slice 0 (index_record_start old) ≡ index = rw (← size) (stands_part slice 0 index st) in
        (index_is (take old all.rows) (part slice 0 (index_record_start old))).1 (p ∙ (good.is ∙ sym (ap (λ (x : List RowSpan). index_of x) first_rows)))

    same_bytes : over slice (index_record_start old) (index_of (drop old all.rows)) ≡ over slice (index_record_start 0) (index_of (drop 0 all.rows))
    same_bytes =
        let w : index_of all.rows ≡ index ++ index_of (drop old all.rows) =
        ap (λ (x : List RowSpan). index_of x) (sym (take-append-drop old all.rows))
        ∙ (index_append (take old all.rows) (drop old all.rows)
        ∙ ap (λ (x : List ℕ). x ++ index_of (drop old all.rows)) (ap (λ (x : List RowSpan). index_of x) first_rows ∙ sym good.is)) in
        let m : over (over slice 0 index) (0 + length index) (index_of (drop old all.rows)) ≡ over slice 0 (index ++ index_of (drop old all.rows)) = over-more index (index_of (drop old all.rows)) slice 0 in
        let z : 0 + length index ≡ index_record_start old = omega (arith, size) in
        let m' : over slice (index_record_start old) (index_of (drop old all.rows)) ≡ over slice 0 (index ++ index_of (drop old all.rows)) = rw (over-same index slice 0 st, z) at m in
        m' ∙ ap (λ (x : List ℕ). over slice 0 x) (sym w)

    same_extended : extended all old slice ≡ extended all 0 slice
    unfolding extended
    same_extended = rw same_bytes

  -- whatever the run over all answers, extending says what building says, and leaves the same bytes
  pub extend_builds : extend_rule f s (inp ++ more) old slice ≡ build_rule f s (inp ++ more) slice
  unfolding extend_rule build_rule pick
  extend_builds = rw inside (by all.stop refl)
    where
      tried : Indexed
      tried = pick (is_index_of (take old all.rows) (part slice 0 (index_record_start old))) (extended all old slice) (record { answer = refused_after all IndexMismatch; index = slice })

      by : (t : Result ⊤ Refusal) → all.stop ≡ t → where_ended {A = Indexed} t tried (record { answer = ran_of all; index = slice }) ≡ where_ended {A = Indexed} t (extended all 0 slice) (record { answer = ran_of all; index = slice })
      by (Ok tt) e = unfold where_ended in rw (matches e) (same_extended e)
      by (Err r) e = unfold where_ended in refl
