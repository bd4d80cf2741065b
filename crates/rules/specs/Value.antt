-- Values as trees, and what a value counts for.
-- Assumes nothing: these are definitions.
use Rattle.std.specs.Prelude.{ℕ, suc, ◌+◌, ◌*◌, ◌^◌, ◌≤◌, ◌<◌, max, ◌≡◌, Bool, List, length}
use Rattle.rules.specs.Wire.{fixed, raw, sized, form}

mutual
  -- a scalar or a blob has its kind, which is a wire code
  pub data Value : Type 0 where
    nothing : Value
    boolean : Bool → Value
    number : ℕ → ℕ → Value  -- kind and bits: int8 to int64, uint8 to uint64, double
    wide : ℕ → List ℕ → Value  -- kind and bytes: int128, int256
    blob : ℕ → List ℕ → Value  -- kind and bytes: string32, yson32
    variant : ℕ → Value → Value  -- tag and child
    repeated : Items → Value
    tuple : Values → Value

  pub data Items : Type 0 where
    done : Items
    item : ℕ → Value → Items → Items  -- tag, child, and the rest

  pub data Values : Type 0 where
    none : Values
    more : Value → Values → Values

unfoldable pub items : Items → ℕ
items done = 0
items (item t v is) = suc (items is)

unfoldable pub values : Values → ℕ
values none = 0
values (more v vs) = suc (values vs)

-- n for each node, a for each byte of an int128 or int256, b for each byte of a blob
unfoldable mutual
  pub tally : Value → ℕ → ℕ → ℕ → ℕ
  tally nothing n a b = n
  tally (boolean x) n a b = n
  tally (number k x) n a b = n
  tally (wide k x) n a b = n + a * length x
  tally (blob k x) n a b = n + b * length x
  tally (variant t v) n a b = n + tally v n a b
  tally (repeated is) n a b = n + tally_i is n a b
  tally (tuple vs) n a b = n + tally_v vs n a b

  pub tally_i : Items → ℕ → ℕ → ℕ → ℕ
  tally_i done n a b = 0
  tally_i (item t v is) n a b = tally v n a b + tally_i is n a b

  pub tally_v : Values → ℕ → ℕ → ℕ → ℕ
  tally_v none n a b = 0
  tally_v (more v vs) n a b = tally v n a b + tally_v vs n a b

-- what a row is charged for a value: the node charge for each node, and each blob's length
unfoldable pub costs : ℕ → Value → ℕ
costs charge v = tally v charge 0 1

-- the records of its value table, and the bytes of its payload store
unfoldable pub records_of : Value → ℕ
records_of v = tally v 1 0 0

unfoldable pub payload_of : Value → ℕ
payload_of v = tally v 0 1 1

-- each blob is within the limit of its kind
unfoldable mutual
  pub Within : (ℕ → ℕ) → Value → Type 0
  Within limit nothing = Unit
  Within limit (boolean x) = Unit
  Within limit (number k x) = Unit
  Within limit (wide k x) = Unit
  Within limit (blob k x) = length x ≤ limit k
  Within limit (variant t v) = Within limit v
  Within limit (repeated is) = WithinI limit is
  Within limit (tuple vs) = WithinV limit vs

  pub WithinI : (ℕ → ℕ) → Items → Type 0
  WithinI limit done = Unit
  WithinI limit (item t v is) = Within limit v × WithinI limit is

  pub WithinV : (ℕ → ℕ) → Values → Type 0
  WithinV limit none = Unit
  WithinV limit (more v vs) = Within limit v × WithinV limit vs

-- the root counts as 1
unfoldable mutual
  pub tall : Value → ℕ
  tall nothing = 1
  tall (boolean x) = 1
  tall (number k x) = 1
  tall (wide k x) = 1
  tall (blob k x) = 1
  tall (variant t v) = suc (tall v)
  tall (repeated is) = suc (tall_i is)
  tall (tuple vs) = suc (tall_v vs)

  pub tall_i : Items → ℕ
  tall_i done = 0
  tall_i (item t v is) = max (tall v) (tall_i is)

  pub tall_v : Values → ℕ
  tall_v none = 0
  tall_v (more v vs) = max (tall v) (tall_v vs)

-- a value that value records can hold: each kind is one of its sort, a number fits its width, a tag its two bytes
unfoldable mutual
  pub Fits : Value → Type 0
  Fits nothing = Unit
  Fits (boolean x) = Unit
  Fits (number k x) = (w : ℕ) × ((form k ≡ fixed w) × (x < 256 ^ w))
  Fits (wide k x) = form k ≡ raw (length x)
  Fits (blob k x) = (form k ≡ sized) × (length x < 256 ^ 4)
  Fits (variant t v) = (t < 256 ^ 2) × Fits v
  Fits (repeated is) = FitsI is
  Fits (tuple vs) = FitsV vs

  pub FitsI : Items → Type 0
  FitsI done = Unit
  FitsI (item t v is) = (t < 256 ^ 2) × (Fits v × FitsI is)

  pub FitsV : Values → Type 0
  FitsV none = Unit
  FitsV (more v vs) = Fits v × FitsV vs
