-- The next row of a stream whose run came to its end, and the rows after it.
-- Assumes nothing.
use Rattle.rules.specs.declared.refusal.Refusal.{Refusal}
use Rattle.std.proofs.Common.{Result, Option, Ok, Some, None}
use Prim.Native.Nat.{ℕ, ◌+◌, ◌≤◌, ◌<◌}
use mathlib.Core.Path.{◌≡◌, refl, sym, ◌∙◌}
use mathlib.Core.List.{List, [], ◌∷◌, ◌++◌}
use native.Mathlib.Omega.{arith}
use borrow.Author.Tests.{ne_eqb}
use lib.ListN.{length, take, drop}
use lib.Seq.{take-add, drop-drop}
use Rattle.rules.specs.Choice.{pick}
use Rattle.rules.specs.Bytes.{Bytes}
use Rattle.rules.specs.Format.{Format}
use Rattle.rules.specs.Value.{Value}
use Rattle.rules.specs.Walk.{Limits, Answer, Got}
use Rattle.rules.specs.Reading.{row_at, skipped, skip_from, row_count, byte_count}
use Rattle.rules.specs.declared.answer.Extent.{Extent}
use Rattle.rules.specs.declared.answer.RowSpan.{RowSpan}
use Rattle.row_laws.proofs.Running.{Iterates, ended, accepted, skip_goes}
use Rattle.index_laws.proofs.Records.{Fits}
use Rattle.index_laws.proofs.Rows.{row_fits}

-- the row of an extent at a position
abbrev pub span : ℕ → Extent → RowSpan
span at e = record { offset = at; size = e.bytes; table = e.table }

-- ---- lists of rows

pub one_taken : (rows : List RowSpan) (i : ℕ) (row : RowSpan) (rest : List RowSpan) → drop i rows ≡ row ∷ rest → take (i + 1) rows ≡ take i rows ++ (row ∷ [])
one_taken rows i row rest e = take-add i 1 rows ∙ rw e

pub one_dropped : (rows : List RowSpan) (i : ℕ) (row : RowSpan) (rest : List RowSpan) → drop i rows ≡ row ∷ rest → drop (i + 1) rows ≡ rest
one_dropped rows i row rest e = sym (drop-drop 1 i rows) ∙ rw e

pub bytes_append : (a b : List RowSpan) → byte_count (a ++ b) ≡ byte_count a + byte_count b
unfolding byte_count
bytes_append [] b = omega arith
bytes_append (x ∷ a) b = rw (bytes_append a b) (omega arith)

-- ---- at a position from which on these rows are accepted, up to the end

module _ (f : Format) (inp : List ℕ) (lim : Limits) (bs : Bytes inp) (at : ℕ) (rest : List RowSpan) (goes : Iterates f inp lim at rest (Ok tt)) (h : at ≤ length inp) where
  -- where no byte is left there is no row
  pub none_left : length inp ≤ at → rest ≡ []
  none_left l = by goes
    where
      by : {rest : List RowSpan} → Iterates f inp lim at rest (Ok tt) → rest ≡ []
      by (ended e) = refl
      by (accepted {e = x} e i) = absurd (let g = skip_goes f inp lim bs at x h e in omega (arith, g))

  -- and where a row is, a byte is left
  pub some_left : 0 < row_count rest → at < length inp
  unfolding row_count
  some_left l = by goes l
    where
      by : {rest : List RowSpan} → Iterates f inp lim at rest (Ok tt) → 0 < row_count rest → at < length inp
      by (ended e) l = absurd (omega arith)
      by (accepted {e = x} e i) l = let g = skip_goes f inp lim bs at x h e in omega (arith, g)

  module _ (l : at < length inp) (read : Result (Option Extent) Refusal) (is : read ≡ skipped at (row_at f inp lim at)) where
    reads : skip_from f inp lim at ≡ read
    unfolding skip_from pick
    reads = rw (ne_eqb at (length inp) (λ z. omega arith)) (sym is)

    no_end : (a : Answer (ℕ × Value)) → skipped at a ≡ Ok None → ⊥
    unfolding skipped
    no_end (Got (t, v) q) e = let z : ◌≡◌ {A = ℕ} 0 1 = cc in omega arith
    no_end (Answer.Refused r) e = let z : ◌≡◌ {A = ℕ} 0 1 = cc in omega arith

    -- what is read there is a row
    pub never_other : ((e : Extent) → read ≡ Ok (Some e) → ⊥) → ⊥
    never_other none = by goes
      where
        by : {rest : List RowSpan} → Iterates f inp lim at rest (Ok tt) → ⊥
        by (ended e) = no_end (row_at f inp lim at) (sym is ∙ (sym reads ∙ e))
        by (accepted {e = x} e i) = none x (sym reads ∙ e)

    -- the first of them, and the rows after it
    pub record Next (e : Extent) : Type 0 where
      pub after : List RowSpan
      pub first : rest ≡ span at e ∷ after
      pub then : Iterates f inp lim (at + e.bytes) after (Ok tt)
      pub some : 2 ≤ e.bytes
      pub inside : at + e.bytes ≤ length inp
      pub fits : length inp ≤ 4294967295 → Fits (span at e)

    pub next : (e : Extent) → read ≡ Ok (Some e) → Next e
    next e q = by goes refl
      where
        by : {rest' : List RowSpan} → Iterates f inp lim at rest' (Ok tt) → rest ≡ rest' → Next e
        by (ended x) w = absurd (let z : ◌≡◌ {A = Result (Option Extent) Refusal} (Ok None) (Ok (Some e)) = sym x ∙ (reads ∙ q) in let y : ◌≡◌ {A = ℕ} 0 1 = cc in omega arith)
        by (accepted {e = e'} {rows = after} x i) w =
            let y : ◌≡◌ {A = Result (Option Extent) Refusal} (Ok (Some e')) (Ok (Some e)) = sym x ∙ (reads ∙ q) in
            let z : e' ≡ e = cc in
            let k : skip_from f inp lim at ≡ Ok (Some e) = reads ∙ q in
            let g = skip_goes f inp lim bs at e h k in
            record { after = after; first = rw z at w; then = rw z at i; some = g.0; inside = g.1; fits = λ short. row_fits f inp lim bs short at e h k }
