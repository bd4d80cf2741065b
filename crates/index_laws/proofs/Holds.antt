-- What build leaves, and what check accepts.
-- Assumes nothing.
use Rattle.std.specs.Prelude.{⊤}
use Rattle.std.proofs.Common.{Result, Ok, Err}
use Prim.Native.Nat.{ℕ, ◌+◌, ◌≤◌}
use mathlib.Core.Path.{◌≡◌, refl, sym, ap, ◌∙◌}
use mathlib.Core.Bool.{Bool, true, false}
use mathlib.Core.Logic.{◌⊎◌, inl, inr, ◌↔◌}
use mathlib.Core.List.{List, [], ◌++◌}
use native.Mathlib.Omega.{arith}
use borrow.Author.Tests.{le-leb, leb-true}
use lib.Dec.{leb}
use lib.ListN.{length, take, drop}
use lib.Seq.{take_at, drop_at}
use Rattle.rules.specs.Choice.{pick}
use Rattle.rules.specs.Bytes.{Bytes, Stands, over, is_equal}
use Rattle.rules.specs.Format.{Format}
use Rattle.rules.specs.Refusals.{Setting, NoIndexRoom, IndexMismatch}
use Rattle.rules.specs.Reading.{limits, Run, run_rule, row_count, ran_of, refused_run, room}
use Rattle.rules.specs.Index.{Indexed, IndexOf, HoldsRows, index_record_start, index_records_in, index_of, is_index_of, where_ended, refused_after, extended, build_rule, check_index_rule, extend_rule}
use Rattle.rules.specs.declared.settings.Settings.{Settings}
use Rattle.rules.specs.declared.refusal.Refusal.{Refusal}
use Rattle.rules.specs.declared.answer.RowSpan.{RowSpan}
use Rattle.rules.proofs.Orders.{is_equal_lem, order_same, order_equal}
use Rattle.rules.proofs.Over.{over-is}
use Rattle.rules.proofs.Stands.{stands_seam}
use Rattle.index_laws.proofs.Records.{AllFit, length-index, index_reads}
use Rattle.index_laws.proofs.Rows.{rows_fit}
use Rattle.index_laws.proofs.Ended.{rows, Opened, Empty, opened}

never_ends : (r : Refusal) → ◌≡◌ {A = Result ⊤ Refusal} (Err r) (Ok tt) → ⊥
never_ends r e = let z : ◌≡◌ {A = ℕ} 0 1 = cc in omega arith

-- bytes are the index of rows just if they are its records
pub index_is : (rs : List RowSpan) (bytes : List ℕ) → (is_index_of rs bytes ≡ true) ↔ (bytes ≡ index_of rs)
unfolding is_index_of is_equal
index_is rs bytes = (λ e. order_equal bytes (index_of rs) (is_equal_lem _ e), λ e. rw (e, order_same (index_of rs)))

-- each row of a run that ended can be held
pub ended_fit : (f : Format) (s : Settings) (inp : List ℕ) → Bytes inp → (run_rule f s inp).stop ≡ Ok tt → AllFit (rows f s inp)
ended_fit f s inp bs end = by (opened f s inp bs end)
  where
    by : Opened f s inp ⊎ Empty f s inp → AllFit (rows f s inp)
    by (inl o) = rows_fit f inp (limits s) bs o.may.short (omega arith) o.goes
    by (inr n) = rw n.no_rows (unfold AllFit in tt)

-- an answer that is accepted comes after a run that ended
module _ (f : Format) (s : Settings) (inp slice : List ℕ) where
  abbrev ran : Run
  ran = run_rule f s inp

  -- what is written where there is room
  extended_ends : (old : ℕ) → (extended ran old slice).answer.stop ≡ Ok tt → row_count (rows f s inp) ≤ index_records_in (room slice)
  unfolding extended pick refused_after
  extended_ends old e = by (leb (row_count (rows f s inp)) (index_records_in (room slice))) refl e
    where
      by : (b : Bool) → leb (row_count (rows f s inp)) (index_records_in (room slice)) ≡ b →
          (pick {A = Indexed} b (record { answer = ran_of ran; index = over slice (index_record_start old) (index_of (drop old (rows f s inp))) }) (record { answer = refused_after ran NoIndexRoom; index = slice })).answer.stop ≡ Ok tt → row_count (rows f s inp) ≤ index_records_in (room slice)
      by true q e = leb-true _ _ q
      by false q e = absurd (never_ends NoIndexRoom e)

  build_ends : (build_rule f s inp slice).answer.stop ≡ Ok tt → (ran.stop ≡ Ok tt) × (row_count (rows f s inp) ≤ index_records_in (room slice))
  unfolding build_rule where_ended ran_of
  build_ends e = by ran.stop refl e
    where
      by : (t : Result ⊤ Refusal) → ran.stop ≡ t → (where_ended {A = Indexed} t (extended ran 0 slice) (record { answer = ran_of ran; index = slice })).answer.stop ≡ Ok tt → (ran.stop ≡ Ok tt) × (row_count (rows f s inp) ≤ index_records_in (room slice))
      by (Ok tt) q e = (q, extended_ends 0 e)
      by (Err r) q e = absurd (never_ends r (sym q ∙ e))

  pub build_holds : Bytes inp → (build_rule f s inp slice).answer.stop ≡ Ok tt → HoldsRows f s inp slice (build_rule f s inp slice)
  build_holds bs e =
      let h = build_ends e in
      let b = built h.0 h.1 in
      let n = length-index (rows f s inp) in
      let l : 0 + length (index_of (rows f s inp)) ≤ length slice = fits h.1 in
      let w : over slice 0 (index_of (rows f s inp)) ≡ index_of (rows f s inp) ++ drop (0 + length (index_of (rows f s inp))) slice = over-is (index_of (rows f s inp)) slice 0 l in
      let z : 0 + length (index_of (rows f s inp)) ≡ index_record_start (row_count (rows f s inp)) = omega (arith, n) in
      let w' : over slice 0 (index_of (rows f s inp)) ≡ index_of (rows f s inp) ++ drop (index_record_start (row_count (rows f s inp))) slice = rw z at w in
      let st : Stands (over slice 0 (index_of (rows f s inp))) 0 (index_of (rows f s inp)) = rw w' (stands_seam [] (index_of (rows f s inp)) (drop (index_record_start (row_count (rows f s inp))) slice)) in
      rw b (record {
        answer = refl;
        records = rw w' (take_at (index_of (rows f s inp)) (drop (index_record_start (row_count (rows f s inp))) slice) (index_record_start (row_count (rows f s inp))) n);
        rest = rw w' (drop_at (index_of (rows f s inp)) (drop (index_record_start (row_count (rows f s inp))) slice) (index_record_start (row_count (rows f s inp))) n);
        rows = index_reads (over slice 0 (index_of (rows f s inp))) (rows f s inp) 0 (ended_fit f s inp bs h.0) st;
      })
    where
      built : ran.stop ≡ Ok tt → row_count (rows f s inp) ≤ index_records_in (room slice) → build_rule f s inp slice ≡ record { answer = ran_of ran; index = over slice 0 (index_of (rows f s inp)) }
      built e h = unfold build_rule where_ended extended pick in rw (e, le-leb (row_count (rows f s inp)) (index_records_in (room slice)) h)

      fits : row_count (rows f s inp) ≤ index_records_in (room slice) → 0 + length (index_of (rows f s inp)) ≤ length slice
      fits h = unfold room in let n = length-index (rows f s inp) in omega (arith, n, h)

  -- a refused build leaves the slice
  pub build_leaves : (r : Refusal) → (build_rule f s inp slice).answer.stop ≡ Err r → (build_rule f s inp slice).index ≡ slice
  unfolding build_rule where_ended extended pick ran_of
  build_leaves r e = by ran.stop refl (leb (row_count (rows f s inp)) (index_records_in (room slice))) e
    where
      tried : Bool → Indexed
      tried b = pick b (record { answer = ran_of ran; index = over slice (index_record_start 0) (index_of (drop 0 (rows f s inp))) }) (record { answer = refused_after ran NoIndexRoom; index = slice })

      by : (t : Result ⊤ Refusal) → ran.stop ≡ t → (b : Bool) → (where_ended {A = Indexed} t (tried b) (record { answer = ran_of ran; index = slice })).answer.stop ≡ Err r → (where_ended {A = Indexed} t (tried b) (record { answer = ran_of ran; index = slice })).index ≡ slice
      by (Ok tt) q true e = absurd (never_ends r (sym e ∙ q))
      by (Ok tt) q false e = refl
      by (Err x) q b e = refl

-- ---- check
module _ (f : Format) (s : Settings) (inp index : List ℕ) where
  -- it accepts the index of the stream, and nothing else
  pub check_exactly : length index ≤ 4294967295 → ((check_index_rule f s inp index).stop ≡ Ok tt) ↔ IndexOf f s inp index
  unfolding check_index_rule where_ended pick ran_of refused_after
  check_exactly short = (λ e. by (run_rule f s inp).stop refl (is_index_of (rows f s inp) index) refl (rw (le-leb (length index) 4294967295 short) at e), accepts)
    where
      by : (t : Result ⊤ Refusal) → (run_rule f s inp).stop ≡ t → (b : Bool) → is_index_of (rows f s inp) index ≡ b →
          (where_ended t (pick b (ran_of (run_rule f s inp)) (refused_after (run_rule f s inp) IndexMismatch)) (ran_of (run_rule f s inp))).stop ≡ Ok tt → IndexOf f s inp index
      by (Ok tt) q true k e = record { ended = q; is = (index_is (rows f s inp) index).0 k }
      by (Ok tt) q false k e = absurd (never_ends IndexMismatch e)
      by (Err r) q b k e = absurd (never_ends r (sym q ∙ e))

      accepts : IndexOf f s inp index → (check_index_rule f s inp index).stop ≡ Ok tt
      accepts x = rw (le-leb (length index) 4294967295 short, x.ended, (index_is (rows f s inp) index).1 x.is)

  -- what it accepts is no longer than a slice that is read may be
  pub checked_short : (check_index_rule f s inp index).stop ≡ Ok tt → length index ≤ 4294967295
  unfolding check_index_rule pick ran_of refused_run
  checked_short e = by (leb (length index) 4294967295) refl e
    where
      by : (b : Bool) → leb (length index) 4294967295 ≡ b →
          (pick b (where_ended (run_rule f s inp).stop (pick (is_index_of (rows f s inp) index) (ran_of (run_rule f s inp)) (refused_after (run_rule f s inp) IndexMismatch)) (ran_of (run_rule f s inp))) (ran_of (refused_run Setting))).stop ≡ Ok tt → length index ≤ 4294967295
      by true q e = leb-true _ _ q
      by false q e = absurd (never_ends Setting e)

-- ---- build and check
module _ (f : Format) (s : Settings) (inp : List ℕ) where
  -- what build writes is accepted
  pub build_then_check : (slice : List ℕ) → Bytes inp → (build_rule f s inp slice).answer.stop ≡ Ok tt →
      (check_index_rule f s inp (take (index_record_start (row_count (rows f s inp))) (build_rule f s inp slice).index)).stop ≡ Ok tt
  build_then_check slice bs e =
      let h = build_ends f s inp slice e in
      let k = (build_holds f s inp slice bs e).records in
      let l : length (index_of (rows f s inp)) ≤ 4294967295 = few h.1 in
      (check_exactly f s inp (take (index_record_start (row_count (rows f s inp))) (build_rule f s inp slice).index) (rw k l)).1 (record { ended = h.0; is = k })
    where
      few : row_count (rows f s inp) ≤ index_records_in (room slice) → length (index_of (rows f s inp)) ≤ 4294967295
      few h = unfold room in let n = length-index (rows f s inp) in omega (arith, n, h)

  -- and what is accepted is what build writes, over any slice that has room for it
  pub check_then_build : (index slice : List ℕ) → Bytes inp → (check_index_rule f s inp index).stop ≡ Ok tt → length index ≤ room slice →
      ((build_rule f s inp slice).answer.stop ≡ Ok tt) × (take (length index) (build_rule f s inp slice).index ≡ index)
  check_then_build index slice bs e r =
      let x = (check_exactly f s inp index (checked_short f s inp index e)).0 e in
      let n : length index ≡ index_record_start (row_count (rows f s inp)) = ap (λ (l : List ℕ). length l) x.is ∙ length-index (rows f s inp) in
      let b = builds x.ended (omega (arith, n, r)) in
      (b, rw n ((build_holds f s inp slice bs b).records ∙ sym x.is))
    where
      builds : (run_rule f s inp).stop ≡ Ok tt → row_count (rows f s inp) ≤ index_records_in (room slice) → (build_rule f s inp slice).answer.stop ≡ Ok tt
      builds e h = unfold build_rule where_ended extended pick ran_of in rw (e, le-leb (row_count (rows f s inp)) (index_records_in (room slice)) h)

  -- where the run is refused, so are build, check and extend, by its refusal, and nothing is written
  module _ (r : Refusal) (refused : (run_rule f s inp).stop ≡ Err r) where
    pub build_refused_so : (slice : List ℕ) → build_rule f s inp slice ≡ record { answer = ran_of (run_rule f s inp); index = slice }
    unfolding build_rule where_ended
    build_refused_so slice = rw refused

    pub check_refused_so : (index : List ℕ) → length index ≤ 4294967295 → check_index_rule f s inp index ≡ ran_of (run_rule f s inp)
    unfolding check_index_rule where_ended pick
    check_refused_so index h = rw (le-leb (length index) 4294967295 h, refused)

    pub extend_refused_so : (old : ℕ) (slice : List ℕ) → old ≤ index_records_in (room slice) → extend_rule f s inp old slice ≡ record { answer = ran_of (run_rule f s inp); index = slice }
    unfolding extend_rule where_ended pick
    extend_refused_so old slice h = rw (le-leb old (index_records_in (room slice)) h, refused)
