-- A stream that is read in windows: the run over its first bytes, and what more bytes make of it.
-- Assumes nothing.
use Rattle.rules.specs.declared.answer.Extent.{Extent}
use Rattle.std.specs.Prelude.{⊤}
use Rattle.std.proofs.Common.{Result, Option, Ok, Err, Some, None}
use Prim.Native.Nat.{ℕ, zero, suc, ◌+◌, ◌-◌, ◌≤◌, ◌<◌}
use mathlib.Core.Path.{◌≡◌, refl, sym, ap, ◌∙◌}
use mathlib.Core.Bool.{Bool, true, false}
use mathlib.Core.Logic.{◌⊎◌, inl, inr}
use mathlib.Core.List.{List, [], ◌∷◌, ◌++◌, map}
use native.Mathlib.Omega.{arith}
use native.Mathlib.Nat.{add-zero}
use borrow.Author.Tests.{eqb-true, eqb-false, eq-eqb, ne_eqb, le-leb, leb-true, ltb-true, ltb-false}
use lib.Dec.{leb, ltb, eqb}
use lib.ListN.{length, get_or, drop, get_or-append, get_or-eq_default, length-append, length-drop}
use lib.Seq.{get_or-drop}
use Rattle.rules.specs.Choice.{pick, ◌and◌}
use Rattle.rules.specs.Bytes.{Bytes}
use Rattle.rules.specs.Refusals.{line_of, refusal_number, Setting}
use Rattle.rules.specs.Format.{Format, sizes_ok, format_rules, format_rule}
use Rattle.rules.specs.Value.{Value}
use Rattle.rules.specs.Walk.{Limits, Answer, Got}
use Rattle.rules.specs.Reading.{settings_ok, limits, when_accepted, door, through, row_at, extent, skipped, refused_run, ended_run, run_rule, ran_of, skip_from, Run, go_on, run_from, row_count, byte_count}
use Rattle.rules.specs.Windows.{moved, PlaceInside, moved_answer, WasCut, moved_stop, moved_row, goes_on, continued, added, run_after}
use Rattle.rules.specs.declared.settings.Settings.{Settings}
use Rattle.rules.specs.declared.refusal.Refusal.{Refusal}
use Rattle.rules.specs.declared.answer.Door.{Door}
use Rattle.rules.specs.declared.answer.RowSpan.{RowSpan}
use Rattle.rules.specs.declared.answer.Ran.{Ran}
use Rattle.rules.proofs.Tests.{and_false}
use Rattle.block_laws.proofs.FormatReasons.{format_stays}
use Rattle.row_laws.proofs.Door.{refused_at_door}
use Rattle.row_laws.proofs.Running.{Iterates, ended, refused, accepted, skip_goes, run_iterates}
use Rattle.row_laws.proofs.Parts.{moved_none, row_stays, row_moves, row_inside}

-- ---- skip

-- bytes to come can't change the answer
unfoldable Settled : Result (Option Extent) Refusal → Type 0
Settled (Ok (Some e)) = Unit
Settled (Ok None) = ⊥
Settled (Err r) = refusal_number r ≡ 12 → ⊥

skip_stays : (f : Format) (inp more : List ℕ) (lim : Limits) (at : ℕ) → at ≤ length inp → Settled (skip_from f inp lim at) → skip_from f (inp ++ more) lim at ≡ skip_from f inp lim at
unfolding skip_from skipped pick Settled WasCut
skip_stays f inp more lim at h s = by (eqb at (length inp)) refl s
  where
    uncut : (a : Answer (ℕ × Value)) → Settled (skipped at a) → WasCut a → ⊥
    uncut (Got (t, v) q) s = λ w. w
    uncut (Answer.Refused r) s = s

    by : (b : Bool) → eqb at (length inp) ≡ b → Settled (pick b (Ok None) (skipped at (row_at f inp lim at))) → skip_from f (inp ++ more) lim at ≡ pick b (Ok None) (skipped at (row_at f inp lim at))
    by true e s = absurd s
    by false e s =
        rw (ne_eqb at (length (inp ++ more)) (λ z. eqb-false at (length inp) e (omega (arith, length-append inp more))), row_stays f inp more lim at h (uncut (row_at f inp lim at) s))

unfoldable moved_read : ℕ → Result (Option Extent) Refusal → Result (Option Extent) Refusal
moved_read n (Ok (Some e)) = Ok (Some e)
moved_read n (Ok None) = Ok None
moved_read n (Err r) = Err (moved n r)

skip_moves : (f : Format) (inp : List ℕ) (lim : Limits) (n at : ℕ) → n ≤ length inp → at ≤ length (drop n inp) → skip_from f inp lim (at + n) ≡ moved_read n (skip_from f (drop n inp) lim at)
unfolding skip_from skipped pick moved_read
skip_moves f inp lim n at h l = by (eqb at (length (drop n inp))) refl
  where
    row : (a : Answer (ℕ × Value)) → skipped (at + n) (moved_answer n a) ≡ moved_read n (skipped at a)
    row (Got (t, v) q) = unfold moved_answer extent in let e : (q.at + n) - (at + n) ≡ q.at - at = omega arith in rw e
    row (Answer.Refused r) = unfold moved_answer in refl

    by : (b : Bool) → eqb at (length (drop n inp)) ≡ b → skip_from f inp lim (at + n) ≡ moved_read n (pick b (Ok None) (skipped at (row_at f (drop n inp) lim at)))
    by true e = rw (eq-eqb (at + n) (length inp) (omega (arith, length-drop n inp, eqb-true at (length (drop n inp)) e)))
    by false e =
        rw (ne_eqb (at + n) (length inp) (λ z. eqb-false at (length (drop n inp)) e (omega (arith, length-drop n inp))), row_moves f inp lim n at h l) (row (row_at f (drop n inp) lim at))

-- ---- rows one after another

module _ (f : Format) (lim : Limits) where
  -- the run is what skip iterates to
  run_is : (inp : List ℕ) → Bytes inp → (enough at : ℕ) {rows : List RowSpan} {stop : Result ⊤ Refusal} → at ≤ length inp → length inp - at < enough → Iterates f inp lim at rows stop → run_from f inp lim enough at ≡ record { rows = rows; stop = stop }
  unfolding run_from go_on
  run_is inp bs zero at h l i = absurd (omega arith)
  run_is inp bs (suc enough) at h l (ended e) = rw e
  run_is inp bs (suc enough) at h l (refused e) = rw e
  run_is inp bs (suc enough) at h l (accepted {e = x} e i) =
      let g = skip_goes f inp lim bs at x h e in
      rw (e, run_is inp bs enough (at + x.bytes) g.1 (omega (arith, g)) i)

  -- each row has at least two bytes, and all lie in the input
  rows_inside : (inp : List ℕ) → Bytes inp → {at : ℕ} {rows : List RowSpan} {stop : Result ⊤ Refusal} → at ≤ length inp → Iterates f inp lim at rows stop → (row_count rows ≤ byte_count rows) × (at + byte_count rows ≤ length inp)
  unfolding row_count byte_count
  rows_inside inp bs h (ended e) = (omega arith, omega arith)
  rows_inside inp bs h (refused e) = (omega arith, omega arith)
  rows_inside inp bs {at = at} h (accepted {e = x} {rows = rows} e i) =
      let g = skip_goes f inp lim bs at x h e in
      let r = rows_inside inp bs g.1 i in
      (omega (arith, g, r), omega (arith, g, r))

  module _ (inp more : List ℕ) (bs : Bytes inp) where
    -- rows that are accepted stay so where more bytes come after, and the run goes on from their end
    goes_on_lem : {at : ℕ} {rows rest : List RowSpan} {stop last : Result ⊤ Refusal} → at ≤ length inp → goes_on stop ≡ true → Iterates f inp lim at rows stop → Iterates f (inp ++ more) lim (at + byte_count rows) rest last → Iterates f (inp ++ more) lim at (rows ++ rest) last
    unfolding byte_count Settled
    goes_on_lem {at = at} h g (ended e) i = rw (add-zero at) at i
    goes_on_lem {at = at} h g (refused e) i = rw (add-zero at) at i
    goes_on_lem {at = at} h g (accepted {e = x} {rows = rows} e i) j =
        let b = skip_goes f inp lim bs at x h e in
        let z : at + (x.bytes + byte_count rows) ≡ (at + x.bytes) + byte_count rows = omega arith in
        accepted (skip_stays f inp more lim at h (rw e tt) ∙ e) (goes_on_lem b.1 g i (rw z at j))

    -- a run that is refused by another number than 12 stays as it is
    stays : {at : ℕ} {rows : List RowSpan} {stop : Result ⊤ Refusal} → at ≤ length inp → goes_on stop ≡ false → Iterates f inp lim at rows stop → Iterates f (inp ++ more) lim at rows stop
    unfolding goes_on Settled
    stays h g (ended e) = let z : ◌≡◌ {A = ℕ} 0 1 = cc in absurd (omega arith)
    stays {at = at} h g (refused e) = refused (skip_stays f inp more lim at h (rw e (eqb-false _ _ g)) ∙ e)
    stays {at = at} h g (accepted {e = x} e i) = accepted (skip_stays f inp more lim at h (rw e tt) ∙ e) (stays (skip_goes f inp lim bs at x h e).1 g i)

  -- the rows of a stream without its first n bytes are those of the stream from there on
  moves : (inp : List ℕ) (n : ℕ) → Bytes (drop n inp) → n ≤ length inp → {at : ℕ} {rows : List RowSpan} {stop : Result ⊤ Refusal} → at ≤ length (drop n inp) → Iterates f (drop n inp) lim at rows stop → Iterates f inp lim (at + n) (map (moved_row n) rows) (moved_stop n stop)
  unfolding moved_read moved_stop
  moves inp n bs m {at = at} h (ended e) = ended (skip_moves f inp lim n at m h ∙ rw e)
  moves inp n bs m {at = at} h (refused {r = r} e) = refused {r = moved n r} (skip_moves f inp lim n at m h ∙ rw e)
  moves inp n bs m {at = at} h (accepted {e = x} {rows = rows} e i) =
      let z : (at + x.bytes) + n ≡ (at + n) + x.bytes = omega arith in
      accepted {e = x} (skip_moves f inp lim n at m h ∙ rw e) (rw z at (moves inp n bs m (skip_goes f (drop n inp) lim bs at x h e).1 i))

-- ---- runs

abbrev run_over : Format → Limits → List ℕ → Run
run_over f lim inp = run_from f inp lim (suc (length inp)) 0

-- the first of some bytes are bytes
pub bytes_front : (s more : List ℕ) → Bytes (s ++ more) → Bytes s
bytes_front s more bs i = by (ltb i (length s)) refl
  where
    by : (b : Bool) → ltb i (length s) ≡ b → get_or s i 0 < 256
    by true e = rw (get_or-append s more 0 i (ltb-true _ _ e)) at (bs i)
    by false e = rw (get_or-eq_default s 0 {n = i} (ltb-false _ _ e)) (omega arith)

module _ (f : Format) (lim : Limits) (inp more : List ℕ) (bs : Bytes (inp ++ more)) where
  front : Bytes inp
  front = bytes_front inp more bs

  rows_first : Iterates f inp lim 0 (run_over f lim inp).rows (run_over f lim inp).stop
  rows_first = run_iterates f inp lim front (suc (length inp)) 0 (omega arith) (omega arith)

  -- where the run over the first bytes ended or was cut (12), the run over all is its rows and then the run over what is left
  pub run_continued : goes_on (run_over f lim inp).stop ≡ true → run_over f lim (inp ++ more) ≡ continued (run_over f lim inp) (run_over f lim (drop (byte_count (run_over f lim inp).rows) (inp ++ more)))
  unfolding continued
  run_continued g =
      let n = byte_count (run_over f lim inp).rows in
      let m = (rows_inside f lim inp front (omega arith) rows_first).1 in
      let back : Bytes (drop n (inp ++ more)) = λ i. rw (get_or-drop n (inp ++ more) i 0) (bs (n + i)) in
      let rest = run_iterates f (drop n (inp ++ more)) lim back (suc (length (drop n (inp ++ more)))) 0 (omega arith) (omega arith) in
      run_is f lim (inp ++ more) bs (suc (length (inp ++ more))) 0 (omega arith) (omega arith)
      (goes_on_lem f lim inp more front (omega arith) g rows_first (moves f lim (inp ++ more) n back (omega (arith, m, length-append inp more)) (omega arith) rest))

  -- and where it was refused by another number, that is the run over all
  pub run_stays : goes_on (run_over f lim inp).stop ≡ false → run_over f lim (inp ++ more) ≡ run_over f lim inp
  run_stays g = run_is f lim (inp ++ more) bs (suc (length (inp ++ more))) 0 (omega arith) (omega arith) (stays f lim inp more front (omega arith) g rows_first)

-- ---- the calls

-- a format that is refused, or a setting, and else the run
abbrev begun : Bool → Result ⊤ Refusal → Run → Run
begun b c r = pick b (when_accepted refused_run c r) (refused_run Setting)

module _ (f : Format) (s : Settings) where
  and_short : (b : Bool) → b and true ≡ b
  unfolding ◌and◌
  and_short true = refl
  and_short false = refl

  run_begun : (inp : List ℕ) → length inp ≤ 4294967295 → run_rule f s inp ≡ begun (settings_ok s and sizes_ok f) (format_rules f) (run_over f (limits s) inp)
  unfolding run_rule
  run_begun inp h =
      unfold door in
      rw (le-leb (length inp) 4294967295 h, le-leb 0 (length inp) (omega arith), and_short (settings_ok s and sizes_ok f), and_short (settings_ok s and sizes_ok f))
      (by (settings_ok s and sizes_ok f) (format_rules f) (eqb 0 (length inp)) refl)
    where
      by : (b : Bool) (c : Result ⊤ Refusal) (last : Bool) → eqb 0 (length inp) ≡ last →
          through (pick b (when_accepted Err c (pick last (Ok Door.End) (Ok Door.Open))) (Err Setting)) refused_run ended_run (run_over f (limits s) inp) ≡ begun b c (run_over f (limits s) inp)
      by true (Ok tt) true e = unfold pick when_accepted through ended_run run_from go_on skip_from in rw e
      by true (Ok tt) false e = unfold pick when_accepted through in refl
      by true (Err r) last e = unfold pick when_accepted through in refl
      by false c last e = unfold pick through in refl

  module _ (inp more : List ℕ) (bs : Bytes (inp ++ more)) (short : length (inp ++ more) ≤ 4294967295) where
    first : run_rule f s inp ≡ begun (settings_ok s and sizes_ok f) (format_rules f) (run_over f (limits s) inp)
    first = run_begun inp (omega (arith, length-append inp more))

    -- where the run over the first bytes ended or was cut (12), the run over all is its rows and then the run over what is left
    pub run_in_windows : goes_on (run_rule f s inp).stop ≡ true → run_rule f s (inp ++ more) ≡ continued (run_rule f s inp) (run_rule f s (drop (byte_count (run_rule f s inp).rows) (inp ++ more)))
    unfolding pick when_accepted
    run_in_windows g =
        let n = byte_count (run_rule f s inp).rows in
        rw (run_begun (drop n (inp ++ more)) (omega (arith, length-drop n (inp ++ more))), first, run_begun (inp ++ more) short)
        (by (settings_ok s and sizes_ok f) (format_rules f) (rw first at g))
      where
        twice : (r : Refusal) → refused_run r ≡ continued (refused_run r) (refused_run r)
        twice r = unfold refused_run continued moved_stop byte_count in rw (moved_none r)

        by : (b : Bool) (c : Result ⊤ Refusal) → goes_on (begun b c (run_over f (limits s) inp)).stop ≡ true → begun b c (run_over f (limits s) (inp ++ more)) ≡ continued (begun b c (run_over f (limits s) inp)) (begun b c (run_over f (limits s) (drop (byte_count (begun b c (run_over f (limits s) inp)).rows) (inp ++ more))))
        by true (Ok tt) g = run_continued f (limits s) inp more bs g
        by true (Err r) g = twice r
        by false c g = twice Setting

    -- and where it was refused by another number, that is the run over all
    pub refused_in_windows : goes_on (run_rule f s inp).stop ≡ false → run_rule f s (inp ++ more) ≡ run_rule f s inp
    unfolding pick when_accepted
    refused_in_windows g = rw (first, run_begun (inp ++ more) short) (by (settings_ok s and sizes_ok f) (format_rules f) (rw first at g))
      where
        by : (b : Bool) (c : Result ⊤ Refusal) → goes_on (begun b c (run_over f (limits s) inp)).stop ≡ false → begun b c (run_over f (limits s) (inp ++ more)) ≡ begun b c (run_over f (limits s) inp)
        by true (Ok tt) g = run_stays f (limits s) inp more bs g
        by true (Err r) g = refl
        by false c g = refl

-- ---- in counts

counts : (rows rest : List RowSpan) (n : ℕ) → (row_count (rows ++ map (moved_row n) rest) ≡ row_count rows + row_count rest) × (byte_count (rows ++ map (moved_row n) rest) ≡ byte_count rows + byte_count rest)
unfolding row_count byte_count
counts [] [] n = (omega arith, omega arith)
counts [] (x ∷ rest) n = let i = counts [] rest n in (omega (arith, i.0), omega (arith, i.1))
counts (x ∷ rows) rest n = let i = counts rows rest n in (omega (arith, i.0), omega (arith, i.1))

pub ran_continued : (r rest : Run) → ran_of (continued r rest) ≡ added (ran_of r) (ran_of rest)
unfolding ran_of continued added
ran_continued r rest = let c = counts r.rows rest.rows (byte_count r.rows) in rw (c.0, c.1)

module _ (f : Format) (s : Settings) (inp more : List ℕ) (bs : Bytes (inp ++ more)) (short : length (inp ++ more) ≤ 4294967295) where
  -- what was counted up to a window, and what is counted in the window
  pub ran_in_windows : goes_on (ran_of (run_rule f s inp)).stop ≡ true → ran_of (run_rule f s (inp ++ more)) ≡ added (ran_of (run_rule f s inp)) (ran_of (run_rule f s (drop (ran_of (run_rule f s inp)).bytes (inp ++ more))))
  unfolding ran_of
  ran_in_windows g = ap ran_of (run_in_windows f s inp more bs short g) ∙ ran_continued _ _

-- ---- bounds

-- what a run over n bytes can answer
pub record RanInside (n : ℕ) (r : Ran) : Type 0 where
  pub few : r.rows ≤ r.bytes
  pub within : r.bytes ≤ n
  pub placed : (why : Refusal) → r.stop ≡ Err why → PlaceInside n why

module _ (f : Format) (s : Settings) (inp : List ℕ) (bs : Bytes inp) where
  skip_inside : {at : ℕ} → at ≤ length inp → (why : Refusal) → skip_from f inp (limits s) at ≡ Err why → PlaceInside (length inp) why
  unfolding skip_from skipped pick
  skip_inside {at = at} h why e = by (eqb at (length inp)) e
    where
      got : (a : Answer (ℕ × Value)) → row_at f inp (limits s) at ≡ a → skipped at a ≡ Err why → PlaceInside (length inp) why
      got (Got (t, v) q) k e = let z : ◌≡◌ {A = ℕ} 0 1 = cc in absurd (omega arith)
      got (Answer.Refused r) k e = let z : r ≡ why = cc in row_inside f inp (limits s) at h why (rw z at k)

      by : (b : Bool) → pick b (Ok None) (skipped at (row_at f inp (limits s) at)) ≡ Err why → PlaceInside (length inp) why
      by true e = let z : ◌≡◌ {A = ℕ} 0 1 = cc in absurd (omega arith)
      by false e = got (row_at f inp (limits s) at) refl e

  stop_inside : {at : ℕ} {rows : List RowSpan} {stop : Result ⊤ Refusal} → at ≤ length inp → Iterates f inp (limits s) at rows stop → (why : Refusal) → stop ≡ Err why → PlaceInside (length inp) why
  stop_inside h (ended e) why k = let z : ◌≡◌ {A = ℕ} 0 1 = cc in absurd (omega arith)
  stop_inside h (refused {r = r} e) why k = let z : r ≡ why = cc in skip_inside h why (rw z at e)
  stop_inside {at = at} h (accepted {e = x} e i) why k = stop_inside (skip_goes f inp (limits s) bs at x h e).1 i why k

  -- a run's rows and its place lie in the stream
  pub ran_inside : RanInside (length inp) (ran_of (run_rule f s inp))
  unfolding run_rule ran_of row_count byte_count through ended_run refused_run
  ran_inside = by (door f s inp 0) refl
    where
      none : (why : Refusal) → (why ≡ Setting) ⊎ (format_rule f ≡ Err why) → PlaceInside (length inp) why
      none why (inl e) = unfold line_of in rw e (λ l. omega arith)
      none why (inr e) = λ l. let w : false ≡ true = sym (format_stays f why e) ∙ l in let n : ◌≡◌ {A = ℕ} 0 1 = cc in absurd (omega arith)

      by : (d : Result Door Refusal) → door f s inp 0 ≡ d → RanInside (length inp) (ran_of (through d refused_run ended_run (run_over f (limits s) inp)))
      by (Ok Door.Open) e =
          let i = run_iterates f inp (limits s) bs (suc (length inp)) 0 (omega arith) (omega arith) in
          let r = rows_inside f (limits s) inp bs (omega arith) i in
          record { few = r.0; within = omega (arith, r.1); placed = stop_inside (omega arith) i }
      by (Ok Door.End) e = record { few = omega arith; within = omega arith; placed = λ why k. let z : ◌≡◌ {A = ℕ} 0 1 = cc in absurd (omega arith) }
      by (Err r) e = record { few = omega arith; within = omega arith; placed = λ why k. let z : r ≡ why = cc in rw (← z) (none r (refused_at_door f s inp 0 r e)) }

-- ---- the run after some rows

module _ (f : Format) (s : Settings) (inp more : List ℕ) (bs : Bytes (inp ++ more)) where
  abbrev so_far : Ran
  so_far = ran_of (run_rule f s inp)

  abbrev left : List ℕ
  left = drop so_far.bytes (inp ++ more)

  -- Where the run over the first bytes ended or was cut (12), its counts and what is left after its rows give the run over all.
  pub run_after_lem : goes_on so_far.stop ≡ true → run_after f s so_far.rows so_far.bytes left ≡ ran_of (run_rule f s (inp ++ more))
  unfolding run_after ◌and◌ pick
  run_after_lem g = rw (le-leb so_far.rows so_far.bytes inside.few, whole) (by (leb (length (inp ++ more)) 4294967295) refl)
    where
      inside : RanInside (length inp) so_far
      inside = ran_inside f s inp (bytes_front inp more bs)

      whole : so_far.bytes + length left ≡ length (inp ++ more)
      whole = omega (arith, inside.within, length-append inp more, length-drop so_far.bytes (inp ++ more))

      by : (b : Bool) → leb (length (inp ++ more)) 4294967295 ≡ b → pick b (added (record { rows = so_far.rows; bytes = so_far.bytes; stop = Ok tt }) (ran_of (run_rule f s left))) (ran_of (refused_run Setting)) ≡ ran_of (run_rule f s (inp ++ more))
      by true e = unfold added in sym (ran_in_windows f s inp more bs (leb-true _ _ e) g)
      by false e = unfold run_rule door through in rw (e, and_false (settings_ok s and sizes_ok f))
