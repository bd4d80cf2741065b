-- What the fields of a record in a slice of bytes hold at most.
-- Assumes nothing.
use Prim.Native.Nat.{ℕ, ◌<◌}
use mathlib.Core.Path.{◌≡◌}
use mathlib.Core.List.{List}
use native.Mathlib.Omega.{arith}
use Rattle.rules.specs.Bytes.{Bytes}
use Rattle.rules.specs.ValueRecord.{value_record_at}
use Rattle.rules.specs.View.{child_count}
use Rattle.rules.specs.declared.table_record.ValueRecord.{ValueRecord}
use Rattle.rules.proofs.Stands.{le_at_lt}
use Rattle.rules.proofs.Tests.{either}

module _ (table : List ℕ) (bs : Bytes table) (i : ℕ) where
  pub size_small : (value_record_at table i).size < 4294967296
  unfolding value_record_at
  size_small = le_at_lt table bs _ 4

  pub count_small : (r : ValueRecord) → r ≡ value_record_at table i → (n : ℕ) → n ≡ child_count r → n < 4294967296
  unfolding child_count
  count_small r e n c = rw (c, e) (either (λ m. m < 4294967296) _ (λ t. omega arith) (λ t. size_small))
