-- How long the table of a value is: its records, their bytes, and its payload bytes.
-- Assumes nothing.
use Prim.Native.Nat.{ℕ, ◌+◌, ◌≤◌}
use mathlib.Core.Path.{◌≡◌, refl, ap, ◌∙◌}
use native.Mathlib.Omega.{arith}
use lib.ListN.{length, length-append}
use Rattle.rules.specs.Value.{Value, nothing, boolean, number, wide, blob, variant, repeated, tuple, Items, done, item, Values, none, more, items, values, tally, tally_i, tally_v, records_of, payload_of}
use Rattle.rules.specs.ValueRecord.{value_record_start}
use Rattle.rules.specs.ValueTable.{payload_bytes, payload_bytes_i, payload_bytes_v, below, below_i, below_v, heads, flat}
use Rattle.value_laws.proofs.Records.{length-layouts}

mutual
  unfolding payload_bytes payload_of tally

  -- a value has as many payload bytes as it counts for
  pub length_pays : (v : Value) → length (payload_bytes v) ≡ payload_of v
  length_pays nothing = refl
  length_pays (boolean x) = refl
  length_pays (number k x) = refl
  length_pays (wide k x) = omega arith
  length_pays (blob k x) = omega arith
  length_pays (variant t v) = omega (arith, length_pays v)
  length_pays (repeated is) = omega (arith, length_pays_i is)
  length_pays (tuple vs) = omega (arith, length_pays_v vs)

  -- so have items
  pub length_pays_i : (is : Items) → length (payload_bytes_i is) ≡ tally_i is 0 1 1
  length_pays_i done = refl
  length_pays_i (item t v is) = simp length-append (omega (arith, length_pays v, length_pays_i is))

  -- and the children of a tuple
  pub length_pays_v : (vs : Values) → length (payload_bytes_v vs) ≡ tally_v vs 0 1 1
  length_pays_v none = refl
  length_pays_v (more v vs) = simp length-append (omega (arith, length_pays v, length_pays_v vs))

-- ---- the records

mutual
  unfolding below records_of tally

  -- a value has as many records as it counts for, its own among them
  length-below : (v : Value) (p : ℕ) → 1 + length (below v p) ≡ records_of v
  length-below nothing p = refl
  length-below (boolean x) p = refl
  length-below (number k x) p = refl
  length-below (wide k x) p = omega arith
  length-below (blob k x) p = omega arith
  length-below (variant t v) p = omega (arith, length-below v p)
  length-below (repeated is) p = omega (arith, length-below_i is p)
  length-below (tuple vs) p = omega (arith, length-below_v vs p)

  -- so have items
  pub length-below_i : (is : Items) (p : ℕ) → length (below_i is p) ≡ tally_i is 1 0 0
  length-below_i done p = refl
  length-below_i (item t v is) p = simp length-append (omega (arith, length-below v p, length-below_i is (p + payload_of v)))

  -- and the children of a tuple
  pub length-below_v : (vs : Values) (p : ℕ) → length (below_v vs p) ≡ tally_v vs 1 0 0
  length-below_v none p = refl
  length-below_v (more v vs) p = simp length-append (omega (arith, length-below v p, length-below_v vs (p + payload_of v)))

pub length-heads : (v : Value) (tag p : ℕ) → length (heads v tag p) ≡ records_of v
unfolding heads
length-heads v tag p = omega (arith, length-below v p)

-- and their bytes
pub length-flat : (v : Value) (tag p : ℕ) → length (flat v tag p) ≡ value_record_start (records_of v)
unfolding flat
length-flat v tag p = length-layouts (heads v tag p) ∙ ap value_record_start (length-heads v tag p)

-- a value has a record
pub one_record : (v : Value) → 1 ≤ records_of v
unfolding records_of tally
one_record nothing = omega arith
one_record (boolean x) = omega arith
one_record (number k x) = omega arith
one_record (wide k x) = omega arith
one_record (blob k x) = omega arith
one_record (variant t v) = omega arith
one_record (repeated is) = omega arith
one_record (tuple vs) = omega arith

-- so there are no more items than records
pub items_within : (is : Items) → items is ≤ tally_i is 1 0 0
unfolding items tally_i records_of
items_within done = omega arith
items_within (item t v is) = omega (arith, one_record v, items_within is)

-- and no more children of a tuple
pub values_within : (vs : Values) → values vs ≤ tally_v vs 1 0 0
unfolding values tally_v records_of
values_within none = omega arith
values_within (more v vs) = omega (arith, one_record v, values_within vs)
