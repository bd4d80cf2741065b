-- A lookup in the registry by halves; what it finds is an entry.
-- Assumes nothing.
use Rattle.std.specs.declared.cmp.Ordering.{Ordering}
use Prim.Native.Nat.{ℕ, zero, suc, ◌+◌, ◌-◌, ◌/◌, ◌≤◌, ◌<◌}
use mathlib.Core.Path.{◌≡◌, sym, ◌∙◌}
use mathlib.Core.Bool.{Bool, true, false}
use mathlib.Core.List.{List}
use native.Mathlib.Omega.{arith}
use native.Mathlib.Decide.{dec_lt}
use Rattle.rules.specs.Choice.{pick}
use Rattle.rules.specs.Bytes.{part, order, is_equal}
use Rattle.rules.specs.Format.{entry_count, entry_at, entry_name, lookup}
use Rattle.rules.specs.declared.table_record.Entry.{Entry}
use Rattle.rules.specs.declared.table_record.Located.TheVariants.{Block, NoEntry}
use Rattle.rules.proofs.Orders.{order_equal, order_same, order_less_trans}
use Rattle.block_laws.proofs.Lookup.{less_self, less_than, lookup_finds, lookup_misses}
use Rattle.schema.specs.Slices.{EntriesNamed}

-- an entry with the name lies from `low` on and below `high`
abbrev pub Between : List ℕ → List ℕ → List ℕ → ℕ → ℕ → Type 0
Between names registry name low high = (i : ℕ) → i < entry_count registry → entry_name names registry i ≡ name → (low ≤ i) × (i < high)

pub between_none : (names registry name : List ℕ) (low high : ℕ) → Between names registry name low high → high ≤ low → NoEntry ≡ lookup names registry name 0 (entry_count registry)
between_none names registry name low high b h = sym ((lookup_misses names registry name).1 (λ i l q. let c = b i l q in omega (arith, c)))

-- the middle of what is left lies among the entries
pub middle : {low high n : ℕ} → low < high → high ≤ n → low + (high - low) / 2 < n
middle l h = omega arith

-- what the name of one entry tells
module _ (names registry name : List ℕ) (ok : EntriesNamed names registry) (k : ℕ) (h : k < entry_count registry) (e : Entry) (is : e ≡ entry_at registry k) (o : Ordering) (says : o ≡ order (part names e.start e.len) name) where
  told : order (entry_name names registry k) name ≡ o
  unfolding entry_name
  told = rw (← is, says)

  pub lookup_hit : o ≡ Ordering.Equal → Block e.first e.count ≡ lookup names registry name 0 (entry_count registry)
  lookup_hit q = sym ((lookup_finds names registry name ok.ascend e.first e.count).1 (record { entry = k; below = h; same = order_equal _ _ (told ∙ q); first_is = rw is; count_is = rw is }))

  -- a lesser name rules out all before it, a greater one all after it, and each itself
  pub between_later : (low high : ℕ) → Between names registry name low high → o ≡ Ordering.Less → Between names registry name (k + 1) high
  between_later low high b q i l same = (by (dec_lt k i), (b i l same).1)
    where
      by : Dec (k < i) → k + 1 ≤ i
      by (yes m) = omega arith
      by (no m) = absurd (less_self name (from (dec_lt i k)))
        where
          from : Dec (i < k) → order name name ≡ Ordering.Less
          from (yes n) = order_less_trans _ _ _ (rw same at (less_than (entry_name names registry) (entry_count registry) ok.ascend i k n h)) (told ∙ q)
          from (no n) = let z : i ≡ k = omega arith in rw (rw z at same) at (told ∙ q)

  pub between_earlier : (low high : ℕ) → Between names registry name low high → o ≡ Ordering.Greater → Between names registry name low k
  between_earlier low high b q i l same = ((b i l same).0, by (dec_lt i k))
    where
      by : Dec (i < k) → i < k
      by (yes m) = m
      by (no m) = absurd (from (dec_lt k i))
        where
          from : Dec (k < i) → ⊥
          from (yes n) = let z : ◌≡◌ {A = ℕ} 0 1 = cc (rw same at (less_than (entry_name names registry) (entry_count registry) ok.ascend k i n l), told, q) in omega arith
          from (no n) = let y : i ≡ k = omega arith in let z : ◌≡◌ {A = ℕ} 0 1 = cc (order_same name, rw (rw y at same) at told, q) in omega arith

-- what holds of each entry's block holds of the one that is found
pub lookup_in : (names registry name : List ℕ) (P : ℕ → ℕ → Type 0) (j n first count : ℕ) → ((k : ℕ) → k < j + n → P (entry_at registry k).first (entry_at registry k).count) → lookup names registry name j n ≡ Block first count → P first count
unfolding lookup pick
lookup_in names registry name P j zero first count h e = let z : ◌≡◌ {A = ℕ} 0 1 = cc in absurd (omega arith)
lookup_in names registry name P j (suc n) first count h e =
    by (lookup_in names registry name P (j + 1) n first count (λ k l. h k (omega arith))) (is_equal (order (entry_name names registry j) name)) e
  where
    by : (lookup names registry name (j + 1) n ≡ Block first count → P first count) → (b : Bool) → pick b (Block (entry_at registry j).first (entry_at registry j).count) (lookup names registry name (j + 1) n) ≡ Block first count → P first count
    by rest true e =
        let a : first ≡ (entry_at registry j).first = cc in
        let b : count ≡ (entry_at registry j).count = cc in
        rw (a, b) (h j (omega arith))
    by rest false e = rest e
