-- What the walk over the records says of the whole table.
-- Assumes nothing.
use Rattle.rules.specs.declared.refusal.Refusal.{Refusal}
use Rattle.std.specs.Prelude.{⊤}
use Rattle.std.proofs.Common.{Result, Option, Ok, Err, Some, None}
use Prim.Native.Nat.{ℕ, ◌^◌, ◌<◌}
use mathlib.Core.Path.{◌≡◌, refl, sym}
use mathlib.Core.Bool.{Bool, true, false}
use mathlib.Core.List.{List}
use borrow.Author.Tests.{eq-eqb, ne_eqb}
use lib.Dec.{eqb}
use lib.ListN.{length}
use Rattle.rules.specs.Choice.{pick, ◌and◌}
use Rattle.rules.specs.Bytes.{Bytes}
use Rattle.rules.specs.Refusals.{BadValueTable}
use Rattle.rules.specs.Value.{Value}
use Rattle.rules.specs.ValueRecord.{value_records_in, whole_value_records}
use Rattle.rules.specs.ValueTable as rule
use Rattle.rules.specs.ValueTable.{Parsed, Whole, value_at, if_whole_table, table_value}
use Rattle.rules.specs.ValueCheck.{form_checked, table_form}
use Rattle.value.specs.Walk.{walk_children, walk_table}
use Rattle.value.specs.declared.TablePos.{TablePos}
use Rattle.value.proofs.Walks.{children_one}
use Rattle.value.proofs.Same.{forgot, root_same}

module _ (table store : List ℕ) where
  -- what the end of the walk says of the form
  unfoldable ended : Option TablePos → Result ⊤ Refusal
  ended (Some q) = pick (eqb q.at (value_records_in (length table)) and eqb q.from (length store)) (Ok tt) (Err BadValueTable)
  ended None = Err BadValueTable

  exact_ended : (x : Parsed Value) → form_checked (if_whole_table table store x) ≡ ended (forgot x)
  unfolding if_whole_table ended forgot
  exact_ended (Whole v q) = by _
    where
      by : (t : Bool) → form_checked (pick t (Whole v q) rule.Broken) ≡ pick t (Ok tt) (Err BadValueTable)
      by true = unfold form_checked pick in refl
      by false = unfold form_checked pick in refl
  exact_ended rule.Broken = unfold form_checked in refl

  -- a table that is cut within a record
  pub form_ragged : (full : Bool) → full ≡ whole_value_records (length table) → full ≡ false → Err BadValueTable ≡ table_form table store
  unfolding table_form table_value form_checked pick
  form_ragged full f e = rw (← f, e)

  -- else the form is what the walk's end says
  module _ (bs : Bytes table) (short : length store < 2 ^ 64) (n : ℕ) (is : n ≡ value_records_in (length table)) (full : Bool) (f : full ≡ whole_value_records (length table)) (e : full ≡ true) (w : Option TablePos) (h : w ≡ walk_children (walk_table table (length store) 64 false) 1 (record { at = 0; from = 0 })) where
    form_walked : ended w ≡ table_form table store
    unfolding table_form table_value pick
    form_walked = rw (← f, e, h, children_one (walk_table table (length store) 64 false) (record { at = 0; from = 0 }), ← (root_same table store bs short)) (sym (exact_ended (value_at table store 64 0 (record { at = 0; from = 0 }))))

    -- no tree
    pub form_broken : w ≡ None → Err BadValueTable ≡ table_form table store
    unfolding ended
    form_broken b = rw (← form_walked, b)

    module _ (q : TablePos) (b : w ≡ Some q) where
      -- records after the tree
      pub form_more : (q.at ≡ n → ⊥) → Err BadValueTable ≡ table_form table store
      unfolding ended pick ◌and◌
      form_more o = rw (← form_walked, b, ← is, ne_eqb q.at n o)

      -- payload after that of the tree
      pub form_rest : q.at ≡ n → (q.from ≡ length store → ⊥) → Err BadValueTable ≡ table_form table store
      unfolding ended pick ◌and◌
      form_rest o g = rw (← form_walked, b, ← is, eq-eqb q.at n o, ne_eqb q.from (length store) g)

      -- neither
      pub form_whole : q.at ≡ n → q.from ≡ length store → Ok tt ≡ table_form table store
      unfolding ended pick ◌and◌
      form_whole o g = rw (← form_walked, b, ← is, eq-eqb q.at n o, eq-eqb q.from (length store) g)
