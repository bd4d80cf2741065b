-- The rule of a field, a test at a time.
-- Assumes nothing.
use Rattle.std.proofs.Common.{Result, Ok, Err}
use Prim.Native.Nat.{ℕ, ◌+◌, ◌≤◌, ◌<◌}
use mathlib.Core.Path.{◌≡◌}
use mathlib.Core.Bool.{Bool, true, false}
use mathlib.Core.List.{List}
use borrow.Author.Tests.{lt-leb, le-leb, lt-ltb, le-ltb, eq-eqb, ne_eqb}
use lib.ListN.{length}
use Rattle.rules.specs.Choice.{pick, ◌and◌}
use Rattle.rules.specs.Refusals.{Setting, BadValueTable}
use Rattle.rules.specs.ValueRecord.{value_records_in, whole_value_records, value_record_at}
use Rattle.rules.specs.Query.{record_alone, record_there, record_good}
use Rattle.rules.specs.View.{past_trees, records_from, if_there, has_field, field_rule}
use Rattle.rules.specs.declared.table_record.ValueRecord.{ValueRecord}
use Rattle.rules.specs.declared.refusal.Refusal.{Refusal}

module _ (table : List ℕ) (i k : ℕ) where
  -- a slice that is too long
  pub field_long : 4294967295 < length table → Err Setting ≡ field_rule table i k
  unfolding field_rule record_there pick ◌and◌
  field_long l = rw (lt-leb (length table) 4294967295 l)

  module _ (short : length table ≤ 4294967295) (count : ℕ) (counts : count ≡ value_records_in (length table)) where
    -- no record
    pub field_out : count ≤ i → Err Setting ≡ field_rule table i k
    unfolding field_rule record_there pick ◌and◌
    field_out l = rw (le-leb (length table) 4294967295 short, ← counts, le-ltb i count l)

    module _ (l : i < count) (r : ValueRecord) (e : r ≡ value_record_at table i) where
      -- no tuple
      pub field_kind : (r.kind ≡ 17 → ⊥) → Err Setting ≡ field_rule table i k
      unfolding field_rule record_there has_field pick ◌and◌
      field_kind n = rw (le-leb (length table) 4294967295 short, ← counts, lt-ltb i count l, ← e, ne_eqb r.kind 17 n)

      module _ (t : r.kind ≡ 17) where
        -- no such field
        pub field_less : r.size ≤ k → Err Setting ≡ field_rule table i k
        unfolding field_rule record_there has_field pick ◌and◌
        field_less m = rw (le-leb (length table) 4294967295 short, ← counts, lt-ltb i count l, ← e, eq-eqb r.kind 17 t, le-ltb k r.size m)

        module _ (m : k < r.size) (full : Bool) (f : full ≡ whole_value_records (length table)) where
          -- a slice that is cut within a record
          pub field_ragged : full ≡ false → Err BadValueTable ≡ field_rule table i k
          unfolding field_rule record_there record_good has_field pick ◌and◌
          field_ragged w = rw (le-leb (length table) 4294967295 short, ← counts, lt-ltb i count l, ← e, eq-eqb r.kind 17 t, lt-ltb k r.size m, ← f, w)

          module _ (w : full ≡ true) (alone : Bool) (a : alone ≡ record_alone r) where
            -- a record that is bad by itself
            pub field_bad : alone ≡ false → Err BadValueTable ≡ field_rule table i k
            unfolding field_rule record_there record_good has_field pick ◌and◌
            field_bad b = rw (le-leb (length table) 4294967295 short, ← counts, lt-ltb i count l, ← e, eq-eqb r.kind 17 t, lt-ltb k r.size m, ← f, w, ← a, b)

            module _ (b : alone ≡ true) (s : Result ℕ Refusal) (h : s ≡ past_trees table (records_from table (i + 1)) k (i + 1)) where
              field_goes : if_there table s ≡ field_rule table i k
              unfolding field_rule record_there record_good has_field pick ◌and◌
              field_goes = rw (le-leb (length table) 4294967295 short, lt-ltb i (value_records_in (length table)) (rw counts at l), ← e, eq-eqb r.kind 17 t, lt-ltb k r.size m, ← f, w, ← a, b, ← h)

              -- the step is refused
              pub field_refused : (q : Refusal) → s ≡ Err q → s ≡ field_rule table i k
              unfolding if_there
              field_refused q g = rw (← field_goes, g)

              module _ (n : ℕ) (g : s ≡ Ok n) where
                -- it leaves the slice
                pub field_past : count ≤ n → Err BadValueTable ≡ field_rule table i k
                unfolding if_there pick
                field_past o = rw (← field_goes, g, ← counts, le-ltb n count o)

                -- the field
                pub field_found : n < count → Ok n ≡ field_rule table i k
                unfolding if_there pick
                field_found o = rw (← field_goes, g, ← counts, lt-ltb n count o)
