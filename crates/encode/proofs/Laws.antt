-- What is known once schema and value table are accepted, and what each return of encode is by the rule.
-- Assumes nothing.
use Rattle.rules.specs.declared.answer.Extent.{Extent}
use Rattle.std.specs.Prelude.{⊤}
use Rattle.std.proofs.Common.{Result, Ok, Err}
use Prim.Native.Nat.{ℕ, ◌+◌, ◌≤◌, ◌<◌, min}
use mathlib.Core.Path.{◌≡◌, refl, sym, ◌∙◌}
use mathlib.Core.Bool.{Bool, true, false}
use mathlib.Core.List.{List}
use native.Mathlib.Omega.{arith}
use borrow.Author.Tests.{leb-true, leb-false, le-leb, lt-leb, eqb-true}
use lib.Dec.{leb}
use lib.ListN.{length}
use Rattle.rules.specs.Choice.{pick}
use Rattle.rules.specs.Refusals.{Setting, BadValueTable}
use Rattle.rules.specs.Block.{records, block, node_at}
use Rattle.rules.specs.SchemaRules.{root_rule, table_rule}
use Rattle.rules.specs.Format.{one_block, encoder_rules}
use Rattle.rules.specs.Value.{Value}
use Rattle.rules.specs.ValueTable.{Parsed, Whole, Broken, table_value}
use Rattle.rules.specs.ValueCheck.{form_checked, table_form}
use Rattle.rules.specs.Walk.{Limits}
use Rattle.rules.specs.Reading.{limits, room, when_accepted}
use Rattle.rules.specs.Writing.{Encoded, unwritten, encode_value, encode_ok, encode_rule}
use Rattle.rules.specs.declared.settings.Settings.{Settings}
use Rattle.rules.specs.declared.refusal.Refusal.{Refusal}
use Rattle.rules.proofs.Tests.{and_both}
use Rattle.rules.proofs.Checks.{refused_not, then_both, pick_accepted}
use Rattle.block_laws.proofs.Good.{FormedBlock, form_accepts}
use Rattle.read.proofs.Nodes.{formed_sound}
use Rattle.judge.specs.Table.{IsWhole, whole_value}
use Rattle.judge.specs.Judging.{RowJudgeable}
use Rattle.judge.specs.Flat.{RowFlat}
use Rattle.write.specs.Row.{placed_row}
use Rattle.judge.proofs.Columns.{accepted_whole}

-- a position that is at most m lies below the less of n and m just if it lies below n
pub within_both : (p n m : ℕ) → p ≤ m → leb p n ≡ leb p (min n m)
within_both p n m h = by (leb p n) refl
  where
    by : (b : Bool) → leb p n ≡ b → leb p n ≡ leb p (min n m)
    by true e = rw e (sym (le-leb p (min n m) (omega (arith, leb-true p n e))))
    by false e = rw e (sym (lt-leb p (min n m) (omega (arith, leb-false p n e))))

pub beyond_both : (p n m : ℕ) → m < p → leb p (min n m) ≡ false
beyond_both p n m h = lt-leb p (min n m) (omega arith)

-- a block that the encoder accepts lies in the table and is formed
accepted_formed : (table names : List ℕ) (first n : ℕ) → encoder_rules table names first n ≡ Ok tt → FormedBlock table names first n
unfolding encoder_rules one_block
accepted_formed table names first n e = (form_accepts table names first n).0 (and_both _ _ (pick_accepted _ _ _ e).0).1

-- and its root is a tuple
accepted_tuple : (table names : List ℕ) (first n : ℕ) → encoder_rules table names first n ≡ Ok tt → (node_at (block table first n) 0).code ≡ 19
unfolding encoder_rules one_block table_rule root_rule
accepted_tuple table names first n e =
    let rules = (pick_accepted _ _ _ (pick_accepted _ _ _ (pick_accepted _ _ _ e).1).1).1 in
    eqb-true _ _ (pick_accepted _ _ _ (then_both _ _ (then_both _ _ rules).1).0).0

-- the row of a whole one
whole_value_lem : (sch : List ℕ) (lim : Limits) (recs pay out : List ℕ) (at : ℕ) → (p : Parsed Value) → table_value recs pay ≡ p → IsWhole p → placed_row sch lim recs pay out at ≡ encode_value sch lim (table_value recs pay) out at
unfolding placed_row encode_value IsWhole whole_value
whole_value_lem sch lim recs pay out at (Whole v q) e w = rw e
whole_value_lem sch lim recs pay out at Broken e w = absurd w

-- a value table that is refused
broken_value : (sch : List ℕ) (lim : Limits) (out : List ℕ) (at : ℕ) (p : Parsed Value) (r : Refusal) → form_checked p ≡ Err r → unwritten out r ≡ encode_value sch lim p out at
unfolding form_checked encode_value
broken_value sch lim out at (Whole v q) r e = absurd (refused_not r (sym e))
broken_value sch lim out at Broken r e = let z : r ≡ BadValueTable = cc in rw z

-- ---- by a checked block

module _ (sch : List ℕ) (s : Settings) (recs pay out : List ℕ) (at : ℕ) where
  -- a value table that is refused
  pub form_refused : (c : Result ⊤ Refusal) → c ≡ table_form recs pay → (r : Refusal) → c ≡ Err r → unwritten out r ≡ encode_value sch (limits s) (table_value recs pay) out at
  unfolding table_form
  form_refused c is r e = broken_value sch (limits s) out at (table_value recs pay) r (sym is ∙ e)

  module _ (k : RowFlat sch recs pay) (c : Result ⊤ Refusal) (is : c ≡ table_form recs pay) (e : c ≡ Ok tt) where
    whole : IsWhole (table_value recs pay)
    unfolding table_form
    whole = accepted_whole (table_value recs pay) (sym is ∙ e)

    -- one that is accepted can be judged,
    pub judgeable : RowJudgeable sch recs pay
    judgeable = record { sound = k.sound; root = k.root; tuple = k.tuple; whole = whole; short = k.short; small = k.small }

    -- and what is answered and left is the rule's
    pub row_encoded : (x : Result Extent Refusal) (out' : List ℕ) → x ≡ (placed_row sch (limits s) recs pay out at).answer → out' ≡ (placed_row sch (limits s) recs pay out at).output →
        record { answer = x; output = out' } ≡ encode_value sch (limits s) (table_value recs pay) out at
    row_encoded x out' g h = rw (g, h) (whole_value_lem sch (limits s) recs pay out at (table_value recs pay) refl whole)

-- ---- from the start on

module _ (s : Settings) (table names : List ℕ) (first n : ℕ) (recs pay out : List ℕ) (at : ℕ) where
  -- settings, slices or position out of bounds
  pub out_of_bounds : encode_ok s table names recs pay out at ≡ false → unwritten out Setting ≡ encode_rule s table names first n recs pay out at
  unfolding encode_rule pick
  out_of_bounds e = rw e

  module _ (ok : encode_ok s table names recs pay out at ≡ true) (c : Result ⊤ Refusal) (is : c ≡ encoder_rules table names first n) where
    -- a schema that is refused
    pub schema_refused : (r : Refusal) → c ≡ Err r → unwritten out r ≡ encode_rule s table names first n recs pay out at
    unfolding encode_rule pick when_accepted
    schema_refused r e = rw (ok, ← is, e)

    module _ (e : c ≡ Ok tt) where
      formed : FormedBlock table names first n
      formed = accepted_formed table names first n (sym is ∙ e)

      -- so the block can be cut out,
      pub within : first + n ≤ records table
      within = formed.inside

      -- the row looked at,
      pub flat_row : RowFlat (block table first n) recs pay
      unfolding encode_ok
      flat_row =
          let a = and_both _ _ ok in
          let b = and_both _ _ a.0 in
          let d = and_both _ _ b.0 in
          let l : length recs ≤ 4294967295 = leb-true _ _ d.1 in
          let m : length pay ≤ 4294967295 = leb-true _ _ b.1 in
          record {
            sound = formed_sound (block table first n) (length names) formed.formed;
            root = omega (arith, formed.formed.order.size);
            tuple = accepted_tuple table names first n (sym is ∙ e);
            short = omega arith;
            small = omega arith;
          }

      pub placeable : at ≤ min (length out) 4294967295
      unfolding encode_ok room
      placeable = leb-true _ _ (and_both _ _ ok).1

      -- and what is answered and left is the rule's
      pub encoded : (x : Encoded) → x ≡ encode_value (block table first n) (limits s) (table_value recs pay) out at → x ≡ encode_rule s table names first n recs pay out at
      unfolding encode_rule pick when_accepted
      encoded x g = rw (ok, ← is, e) g
