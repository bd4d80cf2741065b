-- Why a row is refused, under a format that is accepted: just for the reason that is there, and there is no second one.
-- Assumes nothing.
use Rattle.std.proofs.Common.{Ok}
use Prim.Native.Nat.{ℕ, ◌+◌, ◌≤◌}
use mathlib.Core.Path.{◌≡◌, refl, sym, ◌∙◌}
use mathlib.Core.Bool.{Bool, true, false}
use mathlib.Core.List.{List}
use mathlib.Core.Logic.{◌↔◌}
use native.Mathlib.Omega.{arith}
use borrow.Author.Tests.{ltb-true, ltb-false, le-ltb}
use lib.Dec.{ltb}
use lib.ListN.{length}
use Rattle.rules.specs.Choice.{pick}
use Rattle.rules.specs.Bytes.{Bytes}
use Rattle.rules.specs.Block.{block, tree_at}
use Rattle.rules.specs.Good.{TableSchema}
use Rattle.rules.specs.Format.{Format, tables, table_schema, format_rules}
use Rattle.rules.specs.Value.{Value}
use Rattle.rules.specs.Walk.{Limits, Pos, Answer, Got, Refused, ◌>>=◌, onward}
use Rattle.rules.specs.Reading.{start, root_from, row_at, schema_in, schema_of}
use Rattle.rules.specs.Reasons.{Number, RowReason, cut-table-tag, missing_table, in_root, RowJudged, is_accepted, is_refused}
use Rattle.rules.specs.declared.table_record.Located.TheVariants.{NoTable}
use Rattle.rules.specs.declared.refusal.Refusal.{Refusal}
use Rattle.rules.proofs.Stands.{length-le}
use Rattle.block_laws.proofs.Tables.{table_schema_lem}
use Rattle.row_laws.proofs.Span.{in_end}
use Rattle.row_laws.proofs.Sound.{AnswerSays, gets, refuses, if_refused, as_why, then, Spent, number_says, walk_says}
use Rattle.row_laws.proofs.TableRows.{row_accepts, row_agrees}
use Rattle.row_laws.proofs.Refused.{number_cut, number_there, number_ends, walk_refused}

same_refusal : {A : Type 0} {r r' : Refusal} → ◌≡◌ {A = Answer A} (Refused r) (Refused r') → r ≡ r'
same_refusal e = cc

not_both : {A : Type 0} {a : A} {q : Pos} {r : Refusal} → Got a q ≡ Refused r → ⊥
not_both {a = a} {q = q} {r = r} e = omega (arith, differ e)
  where
    differ : Got a q ≡ Refused r → ◌≡◌ {A = ℕ} 0 1
    differ e = cc

module _ (f : Format) (inp : List ℕ) (lim : Limits) (at : ℕ) (ok : format_rules f ≡ Ok tt) where
  -- the schema of a table that is there
  root_tree : {t : ℕ} (s : TableSchema f t) → schema_of f t ≡ tree_at (block f.table s.first s.count) f.names 64 0
  unfolding schema_of schema_in
  root_tree s = rw s.stands

  missing : (t : ℕ) → tables f ≤ t → table_schema f t ≡ NoTable
  unfolding table_schema pick
  missing t h = rw (le-ltb t (tables f) h)

  module _ (bs : Bytes inp) where
    root_says : (t : ℕ) (q : Pos) → Number inp at 2 t → q.at ≡ at + 2 → q.at ≤ length inp → Spent lim q 0 → (b : Bool) → ltb t (tables f) ≡ b → AnswerSays (λ z q. Unit) (RowReason f inp lim at) (root_from f inp lim at t (table_schema f t) q)
    unfolding root_from
    root_says t q num g h m true e =
        let l = ltb-true t (tables f) e in
        let s = table_schema_lem f ok t l in
        let tree = root_tree s in
        rw s.stands
        (then (as_why (walk_says inp lim bs (block f.table s.first s.count) f.names 64 0 q h) (λ r x. in_root num l (rw (tree, ← g) (x (rw tree at s.valid) 0 m)))) (λ z p. gets tt))
    root_says t q num g h m false e =
        let l = ltb-false t (tables f) e in
        rw (missing t l) (refuses (missing_table num l))

    row_says : at ≤ length inp → AnswerSays (λ z q. Unit) (RowReason f inp lim at) (row_at f inp lim at)
    unfolding row_at start
    row_says h =
        then (number_says inp lim bs 2 17 (start lim at) h (λ c. cut-table-tag c)) (λ (t, q) a.
        root_says t q (record { fits = a.0; stands = a.1.stands }) (omega (arith, a.1.at, length-le 2 t)) (in_end inp lim a.1) (omega (arith, a.1.left)) (ltb t (tables f)) refl)

  row_refused : at ≤ length inp → (r : Refusal) → RowReason f inp lim at r → row_at f inp lim at ≡ Refused r
  unfolding row_at root_from start ◌>>=◌
  row_refused h r (cut-table-tag c) = rw (number_cut inp lim 2 17 (start lim at) h c)
  row_refused h r (missing_table {t = t} num l) = rw (number_there inp lim 2 t 17 (start lim at) num, missing t l)
  row_refused h r (in_root {t = t} num l x) =
      let s = table_schema_lem f ok t l in
      let tree = root_tree s in
      rw (number_there inp lim 2 t 17 (start lim at) num, s.stands, walk_refused inp lim (block f.table s.first s.count) f.names 64 0 (onward 2 (start lim at)) 0 r (rw tree at s.valid) (number_ends inp lim num) (omega arith) (rw tree at x))

  -- a row is refused just for the reason that is there
  pub row_reasons : Bytes inp → at ≤ length inp → (r : Refusal) → (row_at f inp lim at ≡ Refused r) ↔ RowReason f inp lim at r
  row_reasons bs h r = (λ e. if_refused (rw e at (row_says bs h)), row_refused h r)

  -- there is no second reason
  pub one_reason : at ≤ length inp → (r r' : Refusal) → RowReason f inp lim at r → RowReason f inp lim at r' → r ≡ r'
  one_reason h r r' x y = same_refusal (sym (row_refused h r x) ∙ row_refused h r' y)

  -- a row is accepted or has a reason, and never both
  pub row_judged : Bytes inp → at ≤ length inp → RowJudged f inp lim at
  row_judged bs h = by (row_at f inp lim at) refl
    where
      by : (a : Answer (ℕ × Value)) → row_at f inp lim at ≡ a → RowJudged f inp lim at
      by (Got (t, v) q) e = is_accepted t v q ((row_agrees f inp lim at bs h t v q).0 e) (λ r x. not_both (sym e ∙ row_refused h r x))
      by (Refused r) e = is_refused r ((row_reasons bs h r).0 e) (λ t v q a. not_both (sym (row_accepts f inp lim at a) ∙ e))
