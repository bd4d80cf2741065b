-- A row at a position of a stream is read just if it stands there, within the limits.
-- Assumes nothing.
use Prim.Native.Nat.{ℕ, ◌^◌, ◌≤◌, ◌<◌}
use mathlib.Core.Path.{◌≡◌, refl}
use mathlib.Core.Bool.{Bool, true, false}
use mathlib.Core.Logic.{◌↔◌}
use mathlib.Core.List.{List, ◌++◌}
use native.Mathlib.Omega.{arith}
use borrow.Author.Tests.{ltb-true}
use lib.Dec.{ltb}
use lib.ListN.{length}
use Rattle.rules.specs.Choice.{pick}
use Rattle.rules.specs.Bytes.{le, Bytes}
use Rattle.rules.specs.Wire.{form, written_if, type_of, type_in, wire_types}
use Rattle.rules.specs.Schema.{no_schema}
use Rattle.rules.specs.Block.{block}
use Rattle.rules.specs.Format.{Format, tables, table_schema, resolved, reference_at}
use Rattle.rules.specs.Value.{Value, costs, records_of, payload_of}
use Rattle.rules.specs.Grammar.{Row, row, TableRow, table_row}
use Rattle.rules.specs.Walk.{Limits, Pos, Got, ◌>>=◌, after}
use Rattle.rules.specs.Reading.{start, root_from, row_at, schema_in, schema_of, Accepts}
use Rattle.rules.specs.declared.table_record.Located.{Located}
use Rattle.rules.specs.declared.table_record.Located.TheVariants.{Block, NoTable, NoEntry}
use Rattle.row_laws.proofs.Span.{free, toll_v, excess_within, within_excess, Span, in_end, join, split, pos_eq}
use Rattle.row_laws.proofs.Sound.{AnswerSays, gets, refuses, if_got, as_why, then, Passed, number_says, walk_says}
use Rattle.row_laws.proofs.Complete.{Known, known, le_got, walk_got}

-- a node without a wire type has no rows
no_row : {v : Value} {b : List ℕ} → Row no_schema v b → ⊥
unfolding form written_if type_of type_in wire_types Known
no_row (row h) = known h

-- a table that has a schema is there
pub located : (f : Format) (t : ℕ) (first n : ℕ) → table_schema f t ≡ Block first n → t < tables f
unfolding table_schema
located f t first n e = by (ltb t (tables f)) refl e
  where
    by : (b : Bool) → ltb t (tables f) ≡ b → pick b (resolved f.names f.registry (reference_at f.references t)) NoTable ≡ Block first n → t < tables f
    by true q e = ltb-true _ _ q
    by false q e = unfold pick in absurd (omega (arith, differ e))
      where
        differ : NoTable ≡ Block first n → ◌≡◌ {A = ℕ} 0 1
        differ e = cc

module _ (f : Format) (inp : List ℕ) (lim : Limits) (at : ℕ) where
  module _ (bs : Bytes inp) where
    abbrev Reads : ℕ × Value → Pos → Type 0
    Reads z q = Passed inp lim bs (start lim at) q (TableRow (tables f) (schema_of f) z.0 z.1) (toll_v lim z.1)

    root_says : (t : ℕ) (l : Located) → table_schema f t ≡ l → (q : Pos) → t < 256 ^ 2 → Span inp lim (start lim at) q (le 2 t) free → AnswerSays Reads (λ r. Unit) (root_from f inp lim at t l q)
    unfolding root_from
    root_says t (Block first n) e q h s =
        then (as_why (walk_says inp lim bs (block f.table first n) f.names 64 0 q (in_end inp lim s)) (λ r x. tt)) (λ (v, r) b.
        let x : Row (schema_of f t) v b.bytes = unfold schema_of schema_in in rw e b.is in
        gets (record {
          bytes = le 2 t ++ b.bytes;
          is = table_row h (located f t first n e) x refl;
          span = join inp lim (toll_v lim v) s b.span (omega arith);
        }))
    root_says t NoTable e q h s = refuses tt
    root_says t NoEntry e q h s = refuses tt

    row_says : at ≤ length inp → AnswerSays Reads (λ r. Unit) (row_at f inp lim at)
    unfolding row_at start
    row_says h = then (number_says inp lim bs 2 17 (start lim at) h (λ c. tt)) (λ (t, q) a. root_says t (table_schema f t) refl q a.0 a.1)

  root_got : (t : ℕ) (l : Located) (v : Value) (x : List ℕ) (p q : Pos) → Row (schema_in f l) v x → Span inp lim p q x (toll_v lim v) → root_from f inp lim at t l p ≡ Got (t, v) q
  unfolding root_from schema_in ◌>>=◌
  root_got t (Block first n) v x p q r s = rw (walk_got inp lim (block f.table first n) f.names 64 0 v x p q r s)
  root_got t NoTable v x p q r s = absurd (no_row r)
  root_got t NoEntry v x p q r s = absurd (no_row r)

  row_got : (t : ℕ) (v : Value) (b : List ℕ) (q : Pos) → TableRow (tables f) (schema_of f) t v b → Span inp lim (start lim at) q b (toll_v lim v) → row_at f inp lim at ≡ Got (t, v) q
  unfolding row_at schema_of ◌>>=◌
  row_got t v b q (table_row {x = x} h l r e) s =
      let z = split inp lim (le 2 t) x free (toll_v lim v) s e (omega arith) in
      rw (le_got inp lim 2 t 17 h refl z.head) (root_got t (table_schema f t) v x z.mid q r z.tail)

  -- a row that stands there within the limits is read, whatever else the input holds
  pub row_accepts : {t : ℕ} {v : Value} {q : Pos} → Accepts f inp lim at t v q → row_at f inp lim at ≡ Got (t, v) q
  unfolding after costs records_of payload_of start
  row_accepts {t = t} {v = v} {q = q} a = row_got t v a.bytes q a.is (rw a.ends (record {
    stands = a.stands;
    at = refl;
    left = omega (arith, a.afford);
    records = refl;
    payload = refl;
    within = within_excess lim v a.within;
  }))

  -- a row is read as v of table t up to q, just if such a row stands there within the limits
  pub row_agrees : Bytes inp → at ≤ length inp → (t : ℕ) (v : Value) (q : Pos) → (row_at f inp lim at ≡ Got (t, v) q) ↔ Accepts f inp lim at t v q
  unfolding after costs records_of payload_of start
  row_agrees bs h t v q = (λ e. from (if_got (rw e at (row_says bs h))), row_accepts)
    where
      from : Reads bs (t, v) q → Accepts f inp lim at t v q
      from a = record {
        bytes = a.bytes;
        is = a.is;
        stands = a.span.stands;
        within = excess_within lim v a.span.within;
        afford = omega (arith, a.span.left);
        ends = pos_eq q (after lim v (length a.bytes) (start lim at)) a.span.at (omega (arith, a.span.left)) a.span.records a.span.payload;
      }
