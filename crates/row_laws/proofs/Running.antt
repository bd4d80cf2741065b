-- The run is skip iterated: its rows are those that skip accepts one after another, and it stops where skip does.
-- Assumes nothing.
use Rattle.std.specs.Prelude.{⊤}
use Rattle.std.proofs.Common.{Result, Option, Ok, Err, Some, None}
use Prim.Native.Nat.{ℕ, zero, suc, ◌+◌, ◌-◌, ◌≤◌, ◌<◌}
use mathlib.Core.Path.{◌≡◌, refl, ap, ◌∙◌}
use mathlib.Core.Bool.{Bool, true, false}
use mathlib.Core.List.{List, [], ◌∷◌}
use native.Mathlib.Omega.{arith}
use lib.Dec.{eqb}
use lib.ListN.{length}
use Rattle.rules.specs.Choice.{pick}
use Rattle.rules.specs.Bytes.{Bytes}
use Rattle.rules.specs.Format.{Format}
use Rattle.rules.specs.Value.{Value}
use Rattle.rules.specs.Walk.{Limits, Pos, Answer, Got, after}
use Rattle.rules.specs.Reading.{limits, door, through, start, row_at, extent, skipped, skip_from, skip_rule, Run, go_on, run_from, byte_count, Iterated, at_end, at_refusal, one_row, refused_run, ended_run, run_rule}
use Rattle.rules.specs.Answers.{read_said, stop_said}
use Rattle.rules.specs.declared.settings.Settings.{Settings}
use Rattle.rules.specs.declared.refusal.Refusal.{Refusal}
use Rattle.rules.specs.declared.answer.Door.{Door}
use Rattle.rules.specs.declared.answer.Extent.{Extent}
use Rattle.rules.specs.declared.answer.RowSpan.{RowSpan}
use Rattle.row_laws.proofs.TableRows.{row_agrees}
use Rattle.row_laws.proofs.Door.{MayAsk, through_end, door_asked, behind_open}
use Rattle.row_laws.proofs.Decoding.{accepts_inside}

-- from a position on, skip accepts just these rows one after another, and then stops so
pub data Iterates (f : Format) (inp : List ℕ) (lim : Limits) : ℕ → List RowSpan → Result ⊤ Refusal → Type 0 where
  ended : {at : ℕ} →
      skip_from f inp lim at ≡ Ok None →
      Iterates f inp lim at [] (Ok tt)
  refused : {at : ℕ} {r : Refusal} →
      skip_from f inp lim at ≡ Err r →
      Iterates f inp lim at [] (Err r)
  accepted : {at : ℕ} {e : Extent} {rows : List RowSpan} {stop : Result ⊤ Refusal} →
      skip_from f inp lim at ≡ Ok (Some e) → Iterates f inp lim (at + e.bytes) rows stop →
      Iterates f inp lim at (record { offset = at; size = e.bytes; table = e.table } ∷ rows) stop

module _ (f : Format) (inp : List ℕ) (lim : Limits) (bs : Bytes inp) where
  -- an accepted row has at least two bytes and lies in the input
  pub skip_goes : (at : ℕ) (e : Extent) → at ≤ length inp → skip_from f inp lim at ≡ Ok (Some e) → (2 ≤ e.bytes) × (at + e.bytes ≤ length inp)
  unfolding skip_from skipped pick after start extent
  skip_goes at e h q = by (eqb at (length inp)) q
    where
      got : (a : Answer (ℕ × Value)) → row_at f inp lim at ≡ a → skipped at a ≡ Ok (Some e) → (2 ≤ e.bytes) × (at + e.bytes ≤ length inp)
      got (Got (t, v) p) w k =
          let a = (row_agrees f inp lim at bs h t v p).0 w in
          let i = accepts_inside f inp lim at a in
          let z : extent at t p ≡ e = cc in
          let y : p.at ≡ at + length a.bytes = ap (λ (x : Pos). x.at) a.ends in
          let x : p.at - at ≡ e.bytes = ap (λ (g : Extent). g.bytes) z in
          (omega (arith, i), omega (arith, i))
      got (Answer.Refused r) w k = absurd (omega (arith, differ k))
        where
          differ : ◌≡◌ {A = Result (Option Extent) Refusal} (Err r) (Ok (Some e)) → ◌≡◌ {A = ℕ} 0 1
          differ k = cc

      by : (b : Bool) → pick b (Ok None) (skipped at (row_at f inp lim at)) ≡ Ok (Some e) → (2 ≤ e.bytes) × (at + e.bytes ≤ length inp)
      by true q = absurd (omega (arith, differ q))
        where
          differ : ◌≡◌ {A = Result (Option Extent) Refusal} (Ok None) (Ok (Some e)) → ◌≡◌ {A = ℕ} 0 1
          differ k = cc
      by false q = got (row_at f inp lim at) refl q

  -- the run from a position on, with enough turns, is skip iterated
  pub run_iterates : (enough at : ℕ) → at ≤ length inp → length inp - at < enough → Iterates f inp lim at (run_from f inp lim enough at).rows (run_from f inp lim enough at).stop
  unfolding run_from go_on
  run_iterates zero at h l = absurd (omega arith)
  run_iterates (suc enough) at h l = by (skip_from f inp lim at) refl (λ n. run_iterates enough n)
    where
      by : (a : Result (Option Extent) Refusal) → skip_from f inp lim at ≡ a → ((n : ℕ) → n ≤ length inp → length inp - n < enough → Iterates f inp lim n (run_from f inp lim enough n).rows (run_from f inp lim enough n).stop) → Iterates f inp lim at (go_on (run_from f inp lim enough) at a).rows (go_on (run_from f inp lim enough) at a).stop
      by (Ok (Some e)) q rest = let i = skip_goes at e h q in accepted q (rest (at + e.bytes) i.1 (omega (arith, i)))
      by (Ok None) q rest = ended q
      by (Err r) q rest = refused q

-- ---- the whole call

module _ (f : Format) (s : Settings) (inp : List ℕ) where
  module _ (ok : MayAsk f s inp) where
    skip_is : (at : ℕ) → at ≤ length inp → skip_rule f s inp at ≡ skip_from f inp (limits s) at
    unfolding skip_rule skip_from
    skip_is at h = rw (door_asked f s inp ok at h) (through_end _ _ _ _)

    iterated : Bytes inp → {at : ℕ} {rows : List RowSpan} {stop : Result ⊤ Refusal} → at ≤ length inp → Iterates f inp (limits s) at rows stop → Iterated f s inp at rows stop
    iterated bs {at} h (ended q) = at_end (skip_is at h ∙ q)
    iterated bs {at} h (refused q) = at_refusal (skip_is at h ∙ q)
    iterated bs {at} h (accepted {e = e} q rest) = one_row (skip_is at h ∙ q) (iterated bs (skip_goes f inp (limits s) bs at e h q).1 rest)

  abbrev behind : Result Door Refusal → Run
  behind d = through d refused_run ended_run (run_from f inp (limits s) (suc (length inp)) 0)

  -- the run is skip iterated from the start on, whatever is asked
  pub run_iterated : Bytes inp → Iterated f s inp 0 (run_rule f s inp).rows (run_rule f s inp).stop
  unfolding run_rule
  run_iterated bs = by (door f s inp 0) refl
    where
      by : (d : Result Door Refusal) → door f s inp 0 ≡ d → Iterated f s inp 0 (behind d).rows (behind d).stop
      by (Ok Door.Open) e = unfold through in iterated (behind_open f s inp 0 e).0 bs (omega arith) (run_iterates f inp (limits s) bs (suc (length inp)) 0 (omega arith) (omega arith))
      by (Ok Door.End) e = unfold through ended_run in at_end {at = 0} (unfold skip_rule in rw e)
      by (Err r) e = unfold through refused_run in at_refusal {at = 0} {r = r} (unfold skip_rule in rw e)

  -- where it stops it says what skip says after its rows
  pub run_stops : Bytes inp → stop_said (run_rule f s inp).stop ≡ read_said (skip_rule f s inp (byte_count (run_rule f s inp).rows))
  unfolding stop_said read_said byte_count
  run_stops bs = let z : 0 + byte_count (run_rule f s inp).rows ≡ byte_count (run_rule f s inp).rows = omega arith in rw z at (by (run_iterated bs))
    where
      by : {at : ℕ} {rows : List RowSpan} {stop : Result ⊤ Refusal} → Iterated f s inp at rows stop → stop_said stop ≡ read_said (skip_rule f s inp (at + byte_count rows))
      by {at} (at_end e) = let z : at + 0 ≡ at = omega arith in rw (z, e)
      by {at} (at_refusal e) = let z : at + 0 ≡ at = omega arith in rw (z, e)
      by {at} (one_row {e = e} {rows = rows} h rest) = let z : at + (e.bytes + byte_count rows) ≡ (at + e.bytes) + byte_count rows = omega arith in rw z (by rest)
