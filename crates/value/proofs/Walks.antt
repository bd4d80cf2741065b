-- The walk, a step at a time, and where it may end.
-- Assumes nothing.
use Rattle.std.proofs.Common.{Option, Some, None}
use Prim.Native.Nat.{ℕ, zero, suc, ◌+◌, ◌-◌, ◌≤◌, ◌<◌}
use mathlib.Core.Path.{◌≡◌, refl, sym, ◌∙◌}
use mathlib.Core.Bool.{Bool, true, false}
use mathlib.Core.List.{List}
use native.Mathlib.Omega.{arith}
use borrow.Author.Tests.{lt-ltb, le-ltb, ltb-true, eq-eqb, eqb-true}
use lib.Dec.{ltb}
use lib.ListN.{length}
use Rattle.rules.specs.Choice.{pick, ◌and◌}
use Rattle.rules.specs.ValueRecord.{value_records_in, value_record_at}
use Rattle.rules.specs.declared.table_record.ValueRecord.{ValueRecord}
use Rattle.rules.proofs.Tests.{and_both, either}
use Rattle.rules.specs.Query.{parent_alone}
use Rattle.value.specs.Records.{value_record_ok}
use Rattle.value.specs.Walk.{◌>>=◌, past, next_record, walk_children, walk_on, walk_table}
use Rattle.value.specs.declared.TablePos.{TablePos}
use Rattle.value.proofs.Fields.{record_in}

-- ---- the children step

-- the first of some children, and the others
pub children_more : (child : TablePos → Option TablePos) (n : ℕ) (p : TablePos) → 0 < n → walk_children child n p ≡ child p >>= (λ q. walk_children child (n - 1) q)
unfolding walk_children
children_more child zero p h = absurd (omega arith)
children_more child (suc n) p h = let e : suc n - 1 ≡ n = omega arith in rw e

pub children_none : (child : TablePos → Option TablePos) (n : ℕ) (p : TablePos) → n ≤ 0 → walk_children child n p ≡ Some p
unfolding walk_children
children_none child zero p h = refl
children_none child (suc n) p h = absurd (omega arith)

-- a child that is none breaks them
pub children_break : (child : TablePos → Option TablePos) (n : ℕ) (p : TablePos) (w : Option TablePos) → 0 < n → w ≡ child p → w ≡ None → w ≡ walk_children child n p
unfolding ◌>>=◌
children_break child n p w h e b = rw (children_more child n p h, ← e, b)

-- one that ends leaves the others
pub children_on : (child : TablePos → Option TablePos) (n : ℕ) (p q : TablePos) (w : Option TablePos) → 0 < n → w ≡ child p → w ≡ Some q → walk_children child (n - 1) q ≡ walk_children child n p
unfolding ◌>>=◌
children_on child n p q w h e b = rw (children_more child n p h, ← e, b)

-- one child is what it comes to
pub children_one : (child : TablePos → Option TablePos) (p : TablePos) → walk_children child 1 p ≡ child p
children_one child p = rw (children_more child 1 p (omega arith)) (by (child p))
  where
    by : (w : Option TablePos) → w >>= (λ q. walk_children child (1 - 1) q) ≡ w
    by (Some q) = unfold ◌>>=◌ in children_none child (1 - 1) q (omega arith)
    by None = unfold ◌>>=◌ in refl

-- ---- the node step

-- a variant has one child
variant_size : (r : ValueRecord) (tagged : Bool) (from store : ℕ) → r.kind ≡ 15 → value_record_ok r tagged from store ≡ true → r.size ≡ 1
unfolding value_record_ok parent_alone pick
variant_size r tagged from store k e =
    let a = (and_both _ _ e).1 in
    let f : parent_alone r.kind r.size r.content ≡ true = rw (le-ltb r.kind 15 (omega (arith, k))) at a in
    eqb-true _ _ (rw (eq-eqb r.kind 15 k) at (and_both _ _ (and_both _ _ f).1).1)

-- no scalar is found
pub broken_not : {A : Type 0} (q : TablePos) → ◌≡◌ {A = Option TablePos} None (Some q) → A
broken_not q e = let z : ◌≡◌ {A = ℕ} 0 1 = cc in absurd (omega arith)

module _ (table : List ℕ) (store d : ℕ) (tagged : Bool) (p : TablePos) where
  pub walk_none : d ≤ 0 → None ≡ walk_table table store d tagged p
  walk_none h = by d h
    where
      by : (n : ℕ) → n ≤ 0 → None ≡ walk_table table store n tagged p
      by zero l = unfold walk_table in refl
      by (suc n) l = absurd (omega arith)

  -- the tests in the order of the code: there is depth, and a record stands there
  module _ (deep : d ≡ 0 → ⊥) where
    -- what a node comes to
    walk_is : walk_table table store d tagged p ≡ pick (ltb p.at (value_records_in (length table)) and value_record_ok (value_record_at table p.at) tagged p.from store) (walk_on (walk_table table store (d - 1)) (value_record_at table p.at) p) None
    walk_is = by d (λ z. deep (omega (arith, z)))
      where
        by : (n : ℕ) → (n ≤ 0 → ⊥) → walk_table table store n tagged p ≡ pick (ltb p.at (value_records_in (length table)) and value_record_ok (value_record_at table p.at) tagged p.from store) (walk_on (walk_table table store (n - 1)) (value_record_at table p.at) p) None
        by zero l = absurd (l (omega arith))
        by (suc n) l = let e : suc n - 1 ≡ n = omega arith in rw e (unfold walk_table in refl)

    -- no record
    pub walk_out : (count : ℕ) → count ≡ value_records_in (length table) → count ≤ p.at → None ≡ walk_table table store d tagged p
    unfolding pick ◌and◌
    walk_out count n l = rw (walk_is, le-ltb p.at (value_records_in (length table)) (rw n at l))

    module _ (count : ℕ) (n : count ≡ value_records_in (length table)) (l : p.at < count) (r : ValueRecord) (e : r ≡ value_record_at table p.at) (b : Bool) (c : b ≡ value_record_ok r tagged p.from store) where
      -- a record that is wrong where it stands
      pub walk_bad : b ≡ false → None ≡ walk_table table store d tagged p
      unfolding pick ◌and◌
      walk_bad f = rw (walk_is, lt-ltb p.at (value_records_in (length table)) (rw n at l), ← e, ← c, f)

      walk_on_lem : b ≡ true → walk_table table store d tagged p ≡ walk_on (walk_table table store (d - 1)) r p
      unfolding pick ◌and◌
      walk_on_lem f = rw (walk_is, lt-ltb p.at (value_records_in (length table)) (rw n at l), ← e, ← c, f)

      -- a scalar's, and its payload lies in the store
      pub walk_scalar : b ≡ true → r.kind < 15 → Some (past r.size p) ≡ walk_table table store d tagged p
      unfolding walk_on pick
      walk_scalar f k = rw (walk_on_lem f, lt-ltb r.kind 15 k)

      pub scalar_ends : b ≡ true → r.kind < 15 → p.from ≤ store → p.from + r.size ≤ store
      scalar_ends f k s = record_in r tagged p.from store s k (sym c ∙ f)

      -- one with children
      pub walk_parent : b ≡ true → 15 ≤ r.kind → (w : Option TablePos) → w ≡ walk_children (walk_table table store (d - 1) (ltb r.kind 17)) r.size (next_record p) → w ≡ walk_table table store d tagged p
      unfolding walk_on pick
      walk_parent f k w g = rw (walk_on_lem f, le-ltb r.kind 15 k) g

      -- a variant with a scalar below it
      pub walk_variant : b ≡ true → r.kind ≡ 15 → (w : Option TablePos) (q : TablePos) → w ≡ walk_table table store (d - 1) true (next_record p) → w ≡ Some q → Some q ≡ walk_table table store d tagged p
      walk_variant f k w q g i = walk_parent f (omega (arith, k)) (Some q) (rw (variant_size r tagged p.from store k (sym c ∙ f), lt-ltb r.kind 17 (omega (arith, k)), children_one (walk_table table store (d - 1) true) (next_record p)) (sym i ∙ g))

-- ---- the walk stays in the store

pub data Stays (store : ℕ) : Option TablePos → Type 0 where
  ends : {q : TablePos} → q.from ≤ store → Stays store (Some q)
  breaks : Stays store None

then : {store : ℕ} {w : Option TablePos} {k : TablePos → Option TablePos} → Stays store w → ((q : TablePos) → q.from ≤ store → Stays store (k q)) → Stays store (w >>= k)
unfolding ◌>>=◌
then (ends {q = q} l) f = f q l
then breaks f = breaks

children_stay : (store : ℕ) (child : TablePos → Option TablePos) → ((q : TablePos) → q.from ≤ store → Stays store (child q)) → (n : ℕ) (p : TablePos) → p.from ≤ store → Stays store (walk_children child n p)
unfolding walk_children
children_stay store child ok zero p l = ends l
children_stay store child ok (suc n) p l = then (ok p l) (children_stay store child ok n)

walk_stays : (table : List ℕ) (store d : ℕ) (tagged : Bool) (p : TablePos) → p.from ≤ store → Stays store (walk_table table store d tagged p)
unfolding walk_table walk_on
walk_stays table store zero tagged p l = breaks
walk_stays table store (suc d) tagged p l =
    let r = value_record_at table p.at in
    either (Stays store) _
    (λ t. either (Stays store) _
    (λ k. ends {q = past r.size p} (record_in r tagged p.from store l (ltb-true r.kind 15 k) (and_both _ _ t).1))
    (λ k. children_stay store (walk_table table store d (ltb r.kind 17)) (walk_stays table store d (ltb r.kind 17)) r.size (next_record p) l))
    (λ t. breaks)

-- where a value ends is in the store
pub walk_ends : (table : List ℕ) (store d : ℕ) (tagged : Bool) (p q : TablePos) (w : Option TablePos) → p.from ≤ store → w ≡ walk_table table store d tagged p → w ≡ Some q → q.from ≤ store
walk_ends table store d tagged p q w l e b = out (rw (← e, b) at (walk_stays table store d tagged p l))
  where
    out : Stays store (Some q) → q.from ≤ store
    out (ends h) = h
