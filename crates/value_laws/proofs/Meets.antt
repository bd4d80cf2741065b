-- What the writing walk meets: values at schema nodes, with their records. They lie in the block, and in the value's table.
-- Assumes nothing.
use Prim.Native.Nat.{ℕ, ◌+◌, ◌^◌, ◌<◌}
use mathlib.Core.Path.{◌≡◌}
use mathlib.Core.List.{List, ◌++◌}
use native.Mathlib.Omega.{arith}
use lib.ListN.{length}
use Rattle.rules.specs.Block.{node_at}
use Rattle.rules.specs.Value.{Value, variant, repeated, tuple, Items, item, Values, more, values, records_of, payload_of, Fits, FitsI, FitsV}
use Rattle.rules.specs.ValueRecord.{value_records_in, value_record_at}
use Rattle.rules.specs.ValueTable.{value_kind, head_of, below, below_i, below_v, heads}
use Rattle.rules.specs.declared.table_record.ValueRecord.{ValueRecord}
use Rattle.value_laws.proofs.Records.{RecordIs, record_in, kind_is, Shows, shows_left, shows_right}
use Rattle.value_laws.proofs.Sizes.{length-heads}

-- among items whose first record is r, one is v, chosen by tag t; its record is n
pub data Has : Items → ℕ → ℕ → Value → ℕ → Type 0 where
  first : {r t : ℕ} {v : Value} {is : Items} →
      Has (item t v is) r t v r
  later : {r t u n : ℕ} {v w : Value} {is : Items} →
      Has is (r + records_of v) u w n →
      Has (item t v is) r u w n

-- among a tuple's children, whose first record is r and whose first node is j, one is v; its node is k and its record n
pub data HasV : Values → ℕ → ℕ → Value → ℕ → ℕ → Type 0 where
  first_v : {j r : ℕ} {v : Value} {vs : Values} →
      HasV (more v vs) j r v j r
  later_v : {j r k n : ℕ} {v w : Value} {vs : Values} →
      HasV vs (j + 1) (r + records_of v) w k n →
      HasV (more v vs) j r w k n

-- the walk of a value, from node i₀ and record r₀ on, meets v at node j; its record is n
pub data Met (sch : List ℕ) (whole : Value) (i₀ r₀ : ℕ) : Value → ℕ → ℕ → Type 0 where
  itself : Met sch whole i₀ r₀ whole i₀ r₀
  in_variant : {i r t j n : ℕ} {v : Value} →
      Met sch whole i₀ r₀ (variant t v) i r → t < (node_at sch i).children → j ≡ (node_at sch i).first + t → n ≡ r + 1 →
      Met sch whole i₀ r₀ v j n
  in_repeated : {i r t j n : ℕ} {is : Items} {v : Value} →
      Met sch whole i₀ r₀ (repeated is) i r → Has is (r + 1) t v n → t < (node_at sch i).children → j ≡ (node_at sch i).first + t →
      Met sch whole i₀ r₀ v j n
  in_tuple : {i r j n : ℕ} {vs : Values} {v : Value} →
      Met sch whole i₀ r₀ (tuple vs) i r → HasV vs (node_at sch i).first (r + 1) v j n → values vs ≡ (node_at sch i).children →
      Met sch whole i₀ r₀ v j n

-- ---- each value that is met can be held in a table

-- an item's tag fits its two bytes, and its value can be held
pub has_fits : {is : Items} {v : Value} {r t n : ℕ} → Has is r t v n → FitsI is → (t < 256 ^ 2) × Fits v
unfolding FitsI
has_fits first f = (f.0, f.1.0)
has_fits (later h) f = has_fits h f.1.1

has_v_fits : {vs : Values} {v : Value} {j r k n : ℕ} → HasV vs j r v k n → FitsV vs → Fits v
unfolding FitsV
has_v_fits first_v f = f.0
has_v_fits (later_v h) f = has_v_fits h f.1

module _ (sch : List ℕ) (whole : Value) (i₀ r₀ : ℕ) where
  -- each value that is met can be held in a table, if the whole can
  pub met_fits : {v : Value} {j n : ℕ} → Fits whole → Met sch whole i₀ r₀ v j n → Fits v
  unfolding Fits
  met_fits f itself = f
  met_fits f (in_variant m t e g) = (met_fits f m).1
  met_fits f (in_repeated m h t e) = (has_fits h (met_fits f m)).1
  met_fits f (in_tuple m h e) = has_v_fits h (met_fits f m)

-- ---- its records stand in the table of the whole value

-- the record of v is number n of the table
pub record Kept (table : List ℕ) (v : Value) (tag n : ℕ) : Type 0 where
  pub before : ℕ
  pub stands : Shows table n (heads v tag before)

module _ (table : List ℕ) where
  -- what follows c records
  follows : (n c : ℕ) (a b : List ValueRecord) → length a ≡ c → Shows table n (a ++ b) → Shows table (n + c) b
  follows n c a b l h = rw l at (shows_right table n a b h)

  -- an item has its records among those of all items
  pub has_kept : {is : Items} {v : Value} {r t n : ℕ} → Has is r t v n → (p : ℕ) → Shows table r (below_i is p) → Kept table v t n
  unfolding below_i heads
  has_kept (first {r = r} {t = t} {v = v} {is = is}) p h = record { before = p; stands = shows_left table r (heads v t p) (below_i is (p + payload_of v)) h }
  has_kept (later {r = r} {t = t} {v = v} {is = is} g) p h =
      has_kept g (p + payload_of v) (follows r (records_of v) (heads v t p) (below_i is (p + payload_of v)) (length-heads v t p) h)

  has_v_kept : {vs : Values} {v : Value} {j r k n : ℕ} → HasV vs j r v k n → (p : ℕ) → Shows table r (below_v vs p) → Kept table v 0 n
  unfolding below_v heads
  has_v_kept (first_v {r = r} {v = v} {vs = vs}) p h = record { before = p; stands = shows_left table r (heads v 0 p) (below_v vs (p + payload_of v)) h }
  has_v_kept (later_v {r = r} {v = v} {vs = vs} g) p h =
      has_v_kept g (p + payload_of v) (follows r (records_of v) (heads v 0 p) (below_v vs (p + payload_of v)) (length-heads v 0 p) h)

  -- a value that is kept has its record there, and after it those below
  pub kept_head : (v : Value) (tag n : ℕ) (k : Kept table v tag n) → RecordIs table n (head_of v tag k.before)
  unfolding heads Shows
  kept_head v tag n k = k.stands.0

  pub kept_below : (v : Value) (tag n : ℕ) (k : Kept table v tag n) → Shows table (n + 1) (below v k.before)
  unfolding heads Shows
  kept_below v tag n k = k.stands.1

  -- the child of a variant begins with the record after its own
  pub variant_kept : (t tag n m : ℕ) (v : Value) → m ≡ n + 1 → Kept table (variant t v) tag n → Kept table v t m
  unfolding below heads
  variant_kept t tag n m v e k = record { before = k.before; stands = rw e (kept_below (variant t v) tag n k) }

  -- Each value that the walk meets has its records in the table, from the number on that the walk has for it.
  pub met_kept : (sch : List ℕ) {whole : Value} {i₀ r₀ tag : ℕ} {v : Value} {j n : ℕ} → Kept table whole tag r₀ → Met sch whole i₀ r₀ v j n → (t : ℕ) × Kept table v t n
  unfolding below
  met_kept sch {tag = tag} k itself = (tag, k)
  met_kept sch k (in_variant {r = r} {t = t} {n = n} {v = v} m l e f) = let h = met_kept sch k m in (t, variant_kept t h.0 r n v f h.1)
  met_kept sch k (in_repeated {r = r} {t = t} {is = is} m g l e) = let h = met_kept sch k m in (t, has_kept g h.1.before (kept_below (repeated is) h.0 r h.1))
  met_kept sch k (in_tuple {r = r} {vs = vs} m g e) = let h = met_kept sch k m in (0, has_v_kept g h.1.before (kept_below (tuple vs) h.0 r h.1))

  -- a value that is kept has a record in the table
  pub kept_in : (v : Value) (tag n : ℕ) → Kept table v tag n → n < value_records_in (length table)
  kept_in v tag n k = omega (arith, record_in table n (head_of v tag k.before) (kept_head v tag n k))

  -- and that record says its kind
  pub kept_kind : (v : Value) (tag n : ℕ) → Kept table v tag n → (value_record_at table n).kind ≡ value_kind v
  unfolding head_of
  kept_kind v tag n k = kind_is table n (head_of v tag k.before) (kept_head v tag n k)
