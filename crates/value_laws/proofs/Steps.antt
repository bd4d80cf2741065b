-- Past trees, a record at a time.
-- Assumes nothing.
use Rattle.std.proofs.Common.{Ok, Err}
use Prim.Native.Nat.{ℕ, zero, suc, ◌+◌, ◌-◌, ◌≤◌, ◌<◌}
use mathlib.Core.Path.{◌≡◌, refl}
use mathlib.Core.Bool.{true, false}
use mathlib.Core.List.{List}
use native.Mathlib.Omega.{arith}
use borrow.Author.Tests.{ne_eqb}
use lib.Dec.{eqb}
use lib.ListN.{length}
use Rattle.rules.specs.Choice.{pick}
use Rattle.rules.specs.Refusals.{BadValueTable}
use Rattle.rules.specs.ValueRecord.{value_records_in, value_record_at}
use Rattle.rules.specs.Query.{record_alone}
use Rattle.rules.specs.View.{child_count, past_trees, records_from}

module _ (table : List ℕ) where
  -- no tree is passed at once
  pub past_none : (left i : ℕ) → past_trees table left 0 i ≡ Ok i
  unfolding past_trees pick
  past_none zero i = refl
  past_none (suc left) i = refl

  -- a record that is right by itself leaves its children to pass
  pub past_record : (left trees i : ℕ) → record_alone (value_record_at table i) ≡ true → past_trees table (suc left) (suc trees) i ≡ past_trees table left (trees + child_count (value_record_at table i)) (i + 1)
  unfolding past_trees pick
  past_record left trees i e =
      let z : suc trees - 1 ≡ trees = omega arith in
      let y : eqb (suc trees) 0 ≡ false = ne_eqb (suc trees) 0 (λ q. omega (arith, q)) in
      rw (y, e, z)

  -- ---- the same as the code goes

  module _ (trees i : ℕ) (t : 0 < trees) where
    some : eqb trees 0 ≡ false
    some = ne_eqb trees 0 (λ q. omega (arith, q))

    -- trees that go on behind the last record
    pub past_out : value_records_in (length table) ≤ i → Err BadValueTable ≡ past_trees table (records_from table i) trees i
    unfolding past_trees pick
    past_out l = let z : records_from table i ≡ 0 = omega arith in rw (z, some)

    module _ (l : i < value_records_in (length table)) where
      one_less : records_from table i ≡ suc (records_from table (i + 1))
      one_less = omega arith

      -- a record that is bad by itself
      pub past_bad : record_alone (value_record_at table i) ≡ false → Err BadValueTable ≡ past_trees table (records_from table i) trees i
      unfolding past_trees pick
      past_bad e = rw (one_less, some, e)

      -- one that is right
      pub past_on : record_alone (value_record_at table i) ≡ true → past_trees table (records_from table (i + 1)) ((trees - 1) + child_count (value_record_at table i)) (i + 1) ≡ past_trees table (records_from table i) trees i
      unfolding past_trees pick
      past_on e = rw (one_less, some, e)
