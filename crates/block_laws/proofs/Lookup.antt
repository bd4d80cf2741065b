-- A name in a registry: the lookup finds the entry that has it, and in an ascending registry there is only one.
-- Assumes nothing.
use Rattle.std.specs.declared.cmp.Ordering.{Ordering}
use Prim.Native.Nat.{ℕ, zero, suc, ◌+◌, ◌-◌, ◌≤◌, ◌<◌}
use mathlib.Core.Path.{◌≡◌, refl, sym, ◌∙◌}
use mathlib.Core.List.{List}
use mathlib.Core.Logic.{⊎_elim, ◌↔◌}
use native.Mathlib.Omega.{arith}
use native.Mathlib.Nat.{eq-or-lt_of_le}
use native.Mathlib.Decide.{dec_lt}
use Rattle.rules.specs.Choice.{pick}
use Rattle.rules.specs.Bytes.{order, is_equal}
use Rattle.rules.specs.Format.{entry_count, entry_at, entry_name, lookup}
use Rattle.rules.specs.Good.{Ascending}
use Rattle.rules.specs.declared.table_record.Located.{Located}
use Rattle.rules.specs.declared.table_record.Located.TheVariants.{Block, NoTable, NoEntry}
use Rattle.rules.proofs.Orders.{order_equal, order_same, order_less_trans}

-- ---- ascending names

less_later : (name : ℕ → List ℕ) (n : ℕ) → Ascending name n → (d i : ℕ) → i + suc d < n → order (name i) (name (i + suc d)) ≡ Ordering.Less
less_later name n a zero i h = a i h
less_later name n a (suc d) i h =
    let e : (i + suc d) + 1 ≡ i + suc (suc d) = omega arith in
    rw (← e) (order_less_trans _ _ _ (less_later name n a d i (omega arith)) (a (i + suc d) (omega arith)))

-- Nothing is less than itself.
pub less_self : (xs : List ℕ) → order xs xs ≡ Ordering.Less → ⊥
less_self xs e = let z : ◌≡◌ {A = ℕ} 0 1 = cc (order_same xs) in omega arith

-- Of ascending names an earlier one is less than a later one.
pub less_than : (name : ℕ → List ℕ) (n : ℕ) → Ascending name n → (i k : ℕ) → i < k → k < n → order (name i) (name k) ≡ Ordering.Less
less_than name n a i k l h =
    let e : i + suc (k - (i + 1)) ≡ k = omega arith in
    rw e at (less_later name n a (k - (i + 1)) i (omega arith))

-- Ascending names are told apart.
pub one_name : (name : ℕ → List ℕ) (n : ℕ) → Ascending name n → (i k : ℕ) → i < n → k < n → name i ≡ name k → i ≡ k
one_name name n a i k p q e = by (dec_lt i k) (dec_lt k i)
  where
    by : Dec (i < k) → Dec (k < i) → i ≡ k
    by (yes l) d = absurd (less_self (name k) (rw e at (less_than name n a i k l q)))
    by (no l) (yes m) = absurd (less_self (name k) (rw e at (less_than name n a k i m p)))
    by (no l) (no m) = omega arith

-- ---- the lookup

-- Some entry has the name, and its block is this one.
pub record Has (names registry name : List ℕ) (first n : ℕ) : Type 0 where
  pub entry : ℕ
  pub below : entry < entry_count registry
  pub same : entry_name names registry entry ≡ name
  pub first_is : (entry_at registry entry).first ≡ first
  pub count_is : (entry_at registry entry).count ≡ n

module _ (names registry name : List ℕ) where
  -- what a lookup among n entries from j on has found
  data Looked (j n : ℕ) : Located → Type 0 where
    found : {k : ℕ} →
        j ≤ k → k < j + n → entry_name names registry k ≡ name →
        Looked j n (Block (entry_at registry k).first (entry_at registry k).count)
    missing : ((k : ℕ) → j ≤ k → k < j + n → entry_name names registry k ≡ name → ⊥) →
        Looked j n NoEntry

  later : (j n : ℕ) {l : Located} → (entry_name names registry j ≡ name → ⊥) → Looked (j + 1) n l → Looked j (suc n) l
  later j n h (found {k = k} a b e) = found {k = k} (omega arith) (omega arith) e
  later j n h (missing f) = missing (λ k a b e. ⊎_elim (λ (q : j ≡ k). h (rw q e)) (λ (q : j < k). f k (omega arith) (omega arith) e) (eq-or-lt_of_le a))

  looked : (j n : ℕ) → Looked j n (lookup names registry name j n)
  unfolding lookup is_equal pick
  looked j zero = missing (λ k a b e. omega arith)
  looked j (suc n) = by (order (entry_name names registry j) name) refl (looked (j + 1) n)
    where
      by : (o : Ordering) → order (entry_name names registry j) name ≡ o → Looked (j + 1) n (lookup names registry name (j + 1) n) →
          Looked j (suc n) (pick (is_equal o) (Block (entry_at registry j).first (entry_at registry j).count) (lookup names registry name (j + 1) n))
      by Ordering.Less e r = later j n (λ q. less_self name (rw q at e)) r
      by Ordering.Equal e r = found {k = j} (omega arith) (omega arith) (order_equal (entry_name names registry j) name e)
      by Ordering.Greater e r = later j n (λ q. let z : ◌≡◌ {A = ℕ} 0 1 = cc (order_same name, rw q at e) in omega arith) r

  looked_misses : {l : Located} → Looked 0 (entry_count registry) l → (l ≡ NoEntry) ↔ ((k : ℕ) → k < entry_count registry → entry_name names registry k ≡ name → ⊥)
  looked_misses (found {k = m} a b e) = (λ p. let z : ◌≡◌ {A = ℕ} 0 1 = cc in absurd (omega arith), λ h. absurd (h m (omega arith) e))
  looked_misses (missing f) = (λ p k h e. f k (omega arith) (omega arith) e, λ h. refl)

  looked_finds : {l : Located} → Looked 0 (entry_count registry) l → Ascending (entry_name names registry) (entry_count registry) → (first n : ℕ) → (l ≡ Block first n) ↔ Has names registry name first n
  looked_finds (found {k = m} a b e) up first n = (
    λ p. record { entry = m; below = omega arith; same = e; first_is = cc; count_is = cc },
    λ h.
        let i : m ≡ h.entry = one_name (entry_name names registry) (entry_count registry) up m h.entry (omega arith) h.below (e ∙ sym h.same) in
        rw (i, h.first_is, h.count_is),
  )
  looked_finds (missing f) up first n = (λ p. let z : ◌≡◌ {A = ℕ} 0 1 = cc in absurd (omega arith), λ h. absurd (f h.entry (omega arith) (omega (arith, h.below)) h.same))

  looked_there : {l : Located} (j n : ℕ) → Looked j n l → l ≡ NoTable → ⊥
  looked_there j n (found a b e) p = let z : ◌≡◌ {A = ℕ} 0 1 = cc in omega arith
  looked_there j n (missing f) p = let z : ◌≡◌ {A = ℕ} 0 1 = cc in omega arith

  -- A lookup by name never says that there is no such table.
  pub lookup_there : lookup names registry name 0 (entry_count registry) ≡ NoTable → ⊥
  lookup_there = looked_there 0 (entry_count registry) (looked 0 (entry_count registry))

  -- The lookup finds no entry just if none has the name.
  pub lookup_misses : (lookup names registry name 0 (entry_count registry) ≡ NoEntry) ↔ ((k : ℕ) → k < entry_count registry → entry_name names registry k ≡ name → ⊥)
  lookup_misses = looked_misses (looked 0 (entry_count registry))

  -- In an ascending registry the lookup finds a block just if it is that of an entry with the name.
  pub lookup_finds : Ascending (entry_name names registry) (entry_count registry) → (first n : ℕ) → (lookup names registry name 0 (entry_count registry) ≡ Block first n) ↔ Has names registry name first n
  lookup_finds = looked_finds (looked 0 (entry_count registry))

  -- And there is only one such entry.
  pub one_entry : Ascending (entry_name names registry) (entry_count registry) → (i k : ℕ) → i < entry_count registry → k < entry_count registry → entry_name names registry i ≡ name → entry_name names registry k ≡ name → i ≡ k
  one_entry up i k p q a b = one_name (entry_name names registry) (entry_count registry) up i k p q (a ∙ sym b)
