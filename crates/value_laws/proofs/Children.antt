-- The children of a value as one list, each with the tag that it bears: a tuple's bear none, which is 0.
-- Assumes nothing.
use Prim.Native.Nat.{ℕ, ◌+◌}
use mathlib.Core.Path.{◌≡◌, refl}
use native.Mathlib.Omega.{arith}
use Rattle.rules.specs.Value.{Value, nothing, boolean, number, wide, blob, variant, repeated, tuple, Items, done, item, Values, none, more, items, values, payload_of, tally, tally_i, tally_v, Fits, FitsI, FitsV, tall, tall_i, tall_v}
use Rattle.rules.specs.ValueTable.{payload_bytes, payload_bytes_i, payload_bytes_v, below, below_i, below_v}

unfoldable pub untagged : Values → Items
untagged none = done
untagged (more v vs) = item 0 v (untagged vs)

unfoldable pub children : Value → Items
children nothing = done
children (boolean x) = done
children (number k x) = done
children (wide k x) = done
children (blob k x) = done
children (variant t v) = item t v done
children (repeated is) = is
children (tuple vs) = untagged vs

-- what a tuple's children are by themselves, they are in that list

pub below_untagged : (vs : Values) (p : ℕ) → below_v vs p ≡ below_i (untagged vs) p
unfolding untagged below
below_untagged none p = refl
below_untagged (more v vs) p = rw (below_untagged vs (p + payload_of v))

pub pays_untagged : (vs : Values) → payload_bytes_v vs ≡ payload_bytes_i (untagged vs)
unfolding untagged payload_bytes
pays_untagged none = refl
pays_untagged (more v vs) = rw (pays_untagged vs)

pub tally_untagged : (vs : Values) (n a b : ℕ) → tally_v vs n a b ≡ tally_i (untagged vs) n a b
unfolding untagged tally
tally_untagged none n a b = refl
tally_untagged (more v vs) n a b = rw (tally_untagged vs n a b)

pub fits_untagged : (vs : Values) → FitsV vs → FitsI (untagged vs)
unfolding untagged Fits
fits_untagged none h = tt
fits_untagged (more v vs) h = (omega arith, (h.0, fits_untagged vs h.1))

pub tall_untagged : (vs : Values) → tall_v vs ≡ tall_i (untagged vs)
unfolding untagged tall
tall_untagged none = refl
tall_untagged (more v vs) = rw (tall_untagged vs)

pub count_untagged : (vs : Values) → values vs ≡ items (untagged vs)
unfolding untagged values items
count_untagged none = refl
count_untagged (more v vs) = rw (count_untagged vs)
