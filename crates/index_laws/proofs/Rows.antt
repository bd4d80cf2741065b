-- The rows that skip accepts one after another: from any of them on, and each can be held by an index record.
-- Assumes nothing.
use Rattle.rules.specs.declared.refusal.Refusal.{Refusal}
use Rattle.std.specs.Prelude.{⊤}
use Rattle.std.proofs.Common.{Result, Ok, Some, None}
use Prim.Native.Nat.{ℕ, zero, suc, ◌+◌, ◌^◌, ◌≤◌, ◌<◌}
use mathlib.Core.Path.{◌≡◌, refl, ap}
use mathlib.Core.Bool.{Bool, true, false}
use mathlib.Core.List.{List}
use native.Mathlib.Omega.{arith}
use lib.Dec.{eqb}
use lib.ListN.{length, take, drop}
use Rattle.rules.specs.Choice.{pick}
use Rattle.rules.specs.Bytes.{Bytes}
use Rattle.rules.specs.Schema.{Schema}
use Rattle.rules.specs.Format.{Format}
use Rattle.rules.specs.Value.{Value}
use Rattle.rules.specs.Grammar.{TableRow, table_row}
use Rattle.rules.specs.Walk.{Limits, Answer, Got}
use Rattle.rules.specs.Reading.{row_at, extent, skipped, skip_from, row_count, byte_count}
use Rattle.rules.specs.declared.answer.Extent.{Extent}
use Rattle.rules.specs.declared.answer.RowSpan.{RowSpan}
use Rattle.row_laws.proofs.TableRows.{row_agrees}
use Rattle.row_laws.proofs.Running.{Iterates, ended, refused, accepted, skip_goes}
use Rattle.index_laws.proofs.Records.{Fits, AllFit}

-- a row's table tag has two bytes
tag_fits : {n : ℕ} {schema : ℕ → Schema} {t : ℕ} {v : Value} {b : List ℕ} → TableRow n schema t v b → t < 256 ^ 2
tag_fits (table_row h l r e) = h

module _ (f : Format) (inp : List ℕ) (lim : Limits) where
  module _ (bs : Bytes inp) where
    skip_table : (at : ℕ) (e : Extent) → at ≤ length inp → skip_from f inp lim at ≡ Ok (Some e) → e.table < 256 ^ 2
    unfolding skip_from skipped pick extent
    skip_table at e h q = by (eqb at (length inp)) q
      where
        got : (a : Answer (ℕ × Value)) → row_at f inp lim at ≡ a → skipped at a ≡ Ok (Some e) → e.table < 256 ^ 2
        got (Got (t, v) p) w k =
            let a = (row_agrees f inp lim at bs h t v p).0 w in
            let z : extent at t p ≡ e = cc in
            let x : t ≡ e.table = ap (λ (g : Extent). g.table) z in
            rw x at (tag_fits a.is)
        got (Answer.Refused r) w k = absurd (let z : ◌≡◌ {A = ℕ} 0 1 = cc in omega arith)

        by : (b : Bool) → pick b (Ok None) (skipped at (row_at f inp lim at)) ≡ Ok (Some e) → e.table < 256 ^ 2
        by true q = absurd (let z : ◌≡◌ {A = ℕ} 0 1 = cc in omega arith)
        by false q = got (row_at f inp lim at) refl q

    -- an accepted row can be held by a record
    pub row_fits : length inp ≤ 4294967295 → (at : ℕ) (e : Extent) → at ≤ length inp → skip_from f inp lim at ≡ Ok (Some e) → Fits (record { offset = at; size = e.bytes; table = e.table })
    row_fits short at e h q =
        let g = skip_goes f inp lim bs at e h q in
        let t = skip_table at e h q in
        record { offset = omega (arith, g); size = omega (arith, g); table = omega (arith, t) }

    pub rows_fit : length inp ≤ 4294967295 → {at : ℕ} {rows : List RowSpan} {stop : Result ⊤ Refusal} → at ≤ length inp → Iterates f inp lim at rows stop → AllFit rows
    unfolding AllFit
    rows_fit short h (ended e) = tt
    rows_fit short h (refused e) = tt
    rows_fit short {at = at} h (accepted {e = x} e i) = (row_fits short at x h e, rows_fit short (skip_goes f inp lim bs at x h e).1 i)

  -- from row i on
  pub iterates_from : (i : ℕ) {at : ℕ} {rows : List RowSpan} {stop : Result ⊤ Refusal} → i ≤ row_count rows → Iterates f inp lim at rows stop → Iterates f inp lim (at + byte_count (take i rows)) (drop i rows) stop
  unfolding byte_count row_count
  iterates_from zero {at = at} h x = let z : at + 0 ≡ at = omega arith in rw z x
  iterates_from (suc i) h (ended e) = absurd (omega arith)
  iterates_from (suc i) h (refused e) = absurd (omega arith)
  iterates_from (suc i) {at = at} h (accepted {e = x} {rows = rows} e rest) =
      let z : (at + x.bytes) + byte_count (take i rows) ≡ at + (x.bytes + byte_count (take i rows)) = omega arith in
      rw z at (iterates_from i (omega arith) rest)

  -- row i begins inside the stream
  pub begins_inside : Bytes inp → (i : ℕ) {at : ℕ} {rows : List RowSpan} {stop : Result ⊤ Refusal} → i ≤ row_count rows → Iterates f inp lim at rows stop → at ≤ length inp → at + byte_count (take i rows) ≤ length inp
  unfolding byte_count row_count
  begins_inside bs zero h x l = omega arith
  begins_inside bs (suc i) h (ended e) l = absurd (omega arith)
  begins_inside bs (suc i) h (refused e) l = absurd (omega arith)
  begins_inside bs (suc i) {at = at} h (accepted {e = x} {rows = rows} e rest) l =
      let g = skip_goes f inp lim bs at x l e in
      let r = begins_inside bs i (omega arith) rest g.1 in
      omega (arith, r)
