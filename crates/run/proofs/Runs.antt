-- The run's loop: what is left, upon what was counted, comes to the whole run.
-- Assumes nothing.
use Rattle.std.proofs.Common.{Result, Option, Ok, Err, Some, None}
use Prim.Native.Nat.{ℕ, suc, ◌+◌, ◌-◌, ◌≤◌, ◌<◌}
use mathlib.Core.Path.{◌≡◌, sym, ◌∙◌}
use mathlib.Core.List.{List}
use native.Mathlib.Omega.{arith}
use borrow.Author.Tests.{ne_eqb, eq-eqb}
use lib.ListN.{length}
use Rattle.rules.specs.Choice.{pick}
use Rattle.rules.specs.Bytes.{Bytes}
use Rattle.rules.specs.Format.{Format}
use Rattle.rules.specs.Walk.{Limits}
use Rattle.rules.specs.Reading.{row_at, skipped, skip_from, Run, go_on, run_from, row_count, byte_count, ran_of}
use Rattle.rules.specs.declared.refusal.Refusal.{Refusal}
use Rattle.rules.specs.declared.answer.Extent.{Extent}
use Rattle.rules.specs.declared.answer.Ran.{Ran}
use Rattle.row_laws.proofs.Running.{skip_goes}

-- so many rows and bytes, and then a run
unfoldable pub upon : ℕ → ℕ → Run → Ran
upon rows at r = record { rows = rows + row_count r.rows; bytes = at + byte_count r.rows; stop = r.stop }

module _ (f : Format) (inp : List ℕ) (lim : Limits) where
  -- enough turns for what is left, and the whole run
  pub record Going (rows at : ℕ) : Type 0 where
    pub within : at ≤ length inp
    pub few : rows ≤ at
    pub enough : ℕ
    pub left : length inp - at < enough
    pub whole : upon rows at (run_from f inp lim enough at) ≡ ran_of (run_from f inp lim (suc (length inp)) 0)

  pub going_first : Going 0 0
  unfolding upon ran_of
  going_first = record { within = omega arith; few = omega arith; enough = suc (length inp); left = omega arith; whole = none }
    where
      none : upon 0 0 (run_from f inp lim (suc (length inp)) 0) ≡ ran_of (run_from f inp lim (suc (length inp)) 0)
      none =
          let r = run_from f inp lim (suc (length inp)) 0 in
          let a : 0 + row_count r.rows ≡ row_count r.rows = omega arith in
          let b : 0 + byte_count r.rows ≡ byte_count r.rows = omega arith in
          rw (a, b)

  module _ (rows at : ℕ) (g : Going rows at) where
    -- one turn
    turn : (read : Result (Option Extent) Refusal) → skip_from f inp lim at ≡ read → upon rows at (go_on (run_from f inp lim (g.enough - 1)) at read) ≡ ran_of (run_from f inp lim (suc (length inp)) 0)
    unfolding run_from
    turn read e =
        let z : g.enough ≡ suc (g.enough - 1) = omega (arith, g.left) in
        rw (← e) (rw z at g.whole)

    module _ (read : Result (Option Extent) Refusal) (is : read ≡ skipped at (row_at f inp lim at)) (l : at < length inp) where
      reads : skip_from f inp lim at ≡ read
      unfolding skip_from pick
      reads = rw (ne_eqb at (length inp) (λ z. omega arith)) (sym is)

      pub row_inside : Bytes inp → (e : Extent) → read ≡ Ok (Some e) → (2 ≤ e.bytes) × (at + e.bytes ≤ length inp)
      row_inside bs e q = skip_goes f inp lim bs at e g.within (reads ∙ q)

      pub going_on : Bytes inp → (e : Extent) → read ≡ Ok (Some e) → Going (rows + 1) (at + e.bytes)
      unfolding upon go_on row_count byte_count
      going_on bs e q =
          let i = row_inside bs e q in
          let w = turn read reads in
          let r = run_from f inp lim (g.enough - 1) (at + e.bytes) in
          let a : (rows + 1) + row_count r.rows ≡ rows + suc (row_count r.rows) = omega arith in
          let b : (at + e.bytes) + byte_count r.rows ≡ at + (e.bytes + byte_count r.rows) = omega arith in
          record {
            within = i.1;
            few = omega (arith, g.few, i.0);
            enough = g.enough - 1;
            left = omega (arith, g.left, i.0);
            whole = rw (a, b) (rw q at w);
          }

      pub ends_refused : (r : Refusal) → read ≡ Err r → record { rows = rows; bytes = at; stop = Err r } ≡ ran_of (run_from f inp lim (suc (length inp)) 0)
      unfolding upon go_on row_count byte_count
      ends_refused r q =
          let w = turn read reads in
          let a : rows + 0 ≡ rows = omega arith in
          let b : at + 0 ≡ at = omega arith in
          rw (q, a, b) at w

      pub ends_end : read ≡ Ok None → record { rows = rows; bytes = at; stop = Ok tt } ≡ ran_of (run_from f inp lim (suc (length inp)) 0)
      unfolding upon go_on row_count byte_count
      ends_end q =
          let w = turn read reads in
          let a : rows + 0 ≡ rows = omega arith in
          let b : at + 0 ≡ at = omega arith in
          rw (q, a, b) at w

    -- nothing is left
    pub ends_last : length inp ≤ at → record { rows = rows; bytes = at; stop = Ok tt } ≡ ran_of (run_from f inp lim (suc (length inp)) 0)
    unfolding upon go_on row_count byte_count skip_from pick
    ends_last h =
        let e : at ≡ length inp = omega (arith, g.within) in
        let w = turn (Ok None) (rw (eq-eqb at (length inp) e)) in
        let a : rows + 0 ≡ rows = omega arith in
        let b : at + 0 ≡ at = omega arith in
        rw (a, b) at w
