-- A stream whose run came to its end.
-- Assumes nothing.
use Rattle.std.specs.Prelude.{⊤}
use Rattle.std.proofs.Common.{Result, Ok, Err}
use Prim.Native.Nat.{ℕ, suc, ◌+◌, ◌≤◌, ◌<◌}
use mathlib.Core.Path.{◌≡◌, refl, sym, ap}
use mathlib.Core.Bool.{Bool, true, false}
use mathlib.Core.Logic.{◌⊎◌, inl, inr}
use mathlib.Core.List.{List, []}
use native.Mathlib.Omega.{arith}
use borrow.Author.Tests.{eqb-true}
use lib.Dec.{eqb, leb}
use lib.ListN.{length, take, drop}
use Rattle.rules.specs.Choice.{pick, ◌and◌}
use Rattle.rules.specs.Bytes.{Bytes}
use Rattle.rules.specs.Format.{Format, format_rules}
use Rattle.rules.specs.Reading.{Run, limits, when_accepted, bounds_ok, door, through, run_from, run_rule, refused_run, ended_run, row_count, byte_count}
use Rattle.rules.specs.Refusals.{Setting}
use Rattle.rules.specs.declared.settings.Settings.{Settings}
use Rattle.rules.specs.declared.refusal.Refusal.{Refusal}
use Rattle.rules.specs.declared.answer.Door.{Door}
use Rattle.rules.specs.declared.answer.RowSpan.{RowSpan}
use Rattle.row_laws.proofs.Door.{MayAsk, behind_open}
use Rattle.row_laws.proofs.Running.{Iterates, run_iterates}
use Rattle.index_laws.proofs.Rows.{iterates_from, begins_inside}

module _ (f : Format) (s : Settings) (inp : List ℕ) where
  abbrev pub rows : List RowSpan
  rows = (run_rule f s inp).rows

  -- it went through the door, and skip accepts its rows one after another up to the end
  pub record Opened : Type 0 where
    pub may : MayAsk f s inp
    pub goes : Iterates f inp (limits s) 0 rows (Ok tt)

  -- or there was nothing to read
  pub record Empty : Type 0 where
    pub shut : door f s inp 0 ≡ Ok Door.End
    pub no_rows : rows ≡ []
    pub no_bytes : length inp ≡ 0

  pub at_end : door f s inp 0 ≡ Ok Door.End → length inp ≡ 0
  unfolding door pick when_accepted
  at_end e = by (bounds_ok s f inp and leb 0 (length inp)) (format_rules f) (eqb 0 (length inp)) refl e
    where
      by : (b : Bool) (c : Result ⊤ Refusal) (last : Bool) → eqb 0 (length inp) ≡ last → pick b (when_accepted Err c (pick last (Ok Door.End) (Ok Door.Open))) (Err Setting) ≡ Ok Door.End → length inp ≡ 0
      by true (Ok tt) true k e = sym (eqb-true 0 (length inp) k)
      by true (Ok tt) false k e = absurd (let z : ◌≡◌ {A = ℕ} 0 1 = cc in omega arith)
      by true (Err r) last k e = absurd (let z : ◌≡◌ {A = ℕ} 0 1 = cc in omega arith)
      by false c last k e = absurd (let z : ◌≡◌ {A = ℕ} 0 1 = cc in omega arith)

  abbrev behind : Result Door Refusal → Run
  behind d = through d refused_run ended_run (run_from f inp (limits s) (suc (length inp)) 0)

  ran_by : (d : Result Door Refusal) → door f s inp 0 ≡ d → run_rule f s inp ≡ behind d
  unfolding run_rule
  ran_by d e = rw e

  pub opened : Bytes inp → (run_rule f s inp).stop ≡ Ok tt → Opened ⊎ Empty
  unfolding through
  opened bs end = by (door f s inp 0) refl
    where
      by : (d : Result Door Refusal) → door f s inp 0 ≡ d → Opened ⊎ Empty
      by (Ok Door.Open) e =
          let o = behind_open f s inp 0 e in
          let r = ran_by (Ok Door.Open) e in
          let q : rows ≡ (run_from f inp (limits s) (suc (length inp)) 0).rows = ap (λ (x : Run). x.rows) r in
          let z : (run_from f inp (limits s) (suc (length inp)) 0).stop ≡ Ok tt = rw r at end in
          inl (record { may = o.0; goes = rw (q, ← z) (run_iterates f inp (limits s) bs (suc (length inp)) 0 (omega arith) (omega arith)) })
      by (Ok Door.End) e = let r = ran_by (Ok Door.End) e in inr (record { shut = e; no_rows = unfold ended_run in ap (λ (x : Run). x.rows) r; no_bytes = at_end e })
      by (Err x) e = absurd (never x (rw (ran_by (Err x) e) at end))
        where
          never : (x : Refusal) → (refused_run x).stop ≡ Ok tt → ⊥
          never x z = unfold refused_run in let y : ◌≡◌ {A = ℕ} 0 1 = cc in omega arith

  -- ---- row i, and where it begins
  pub record Passing (at i : ℕ) : Type 0 where
    pub few : i ≤ row_count rows
    pub begins : at ≡ byte_count (take i rows)

  pub passing_first : Passing 0 0
  unfolding byte_count
  passing_first = record { few = omega arith; begins = refl }

  module _ (bs : Bytes inp) (at i : ℕ) (p : Passing at i) where
    -- the rows from there on
    pub passing_left : Opened → Iterates f inp (limits s) at (drop i rows) (Ok tt)
    passing_left o = let z : 0 + byte_count (take i rows) ≡ at = omega (arith, p.begins) in rw z at (iterates_from f inp (limits s) i p.few o.goes)

    pub passing_inside : Opened → at ≤ length inp
    passing_inside o = let r = begins_inside f inp (limits s) bs i p.few o.goes (omega arith) in omega (arith, r, p.begins)

    -- where a byte or a row is left, the run went through the door
    pub passing_opened : (run_rule f s inp).stop ≡ Ok tt → (at < length inp) ⊎ (i < row_count rows) → Opened
    unfolding row_count
    passing_opened end h = by (opened bs end) h
      where
        by : Opened ⊎ Empty → (at < length inp) ⊎ (i < row_count rows) → Opened
        by (inl o) h = o
        by (inr n) (inl h) = absurd (omega (arith, n.no_bytes))
        by (inr n) (inr h) = absurd (let z : length rows ≡ 0 = rw n.no_rows in omega (arith, z))
