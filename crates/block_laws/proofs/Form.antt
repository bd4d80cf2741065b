-- The form of a block: what the test gives, and the shape of a block in level order.
-- Assumes nothing.
use Prim.Native.Nat.{ℕ, zero, suc, ◌+◌, ◌-◌, ◌*◌, ◌%◌, ◌≤◌, ◌<◌}
use mathlib.Core.Path.{◌≡◌, sym, ap}
use mathlib.Core.Bool.{Bool, true, false}
use mathlib.Core.List.{List}
use mathlib.Core.Logic.{⊎_elim, ◌↔◌}
use native.Mathlib.Omega.{arith}
use native.Mathlib.Nat.{eq-or-lt_of_le}
use native.Mathlib.Numerals.{add-one}
use borrow.Author.Tests.{ne_eqb, leb-true, ltb-true, eqb-true, eqb-false, le-leb, lt-ltb, eq-eqb}
use lib.ListN.{length, get_or}
use lib.Dec.{leb, eqb, ltb}
use Rattle.rules.specs.Choice.{pick, ◌and◌, all}
use Rattle.rules.specs.Block.{node_size, node_start, node_at, records, Closed, earlier, name_ok, children_ok, record_ok, record_at, block_ok, Ordered, Named, Formed}
use Rattle.rules.specs.declared.table_record.Node.{Node}
use Rattle.rules.proofs.Tests.{and_both, and_true, all_each, all_true, pick_either}
use Rattle.rules.proofs.Stands.{le_at_lt}

-- ---- for the loop
pub earlier_suc : (s : List ℕ) (i : ℕ) → earlier s (i + 1) ≡ earlier s i + (node_at s i).children
unfolding earlier
earlier_suc s i = rw add-one

pub kids_small : (s : List ℕ) → ((i : ℕ) → get_or s i 0 < 256) → (i : ℕ) → (node_at s i).children < 4294967296
unfolding node_at
kids_small s h i = le_at_lt s h (node_start i + 12) 4

pub earlier_small : (s : List ℕ) → ((i : ℕ) → get_or s i 0 < 256) → (i : ℕ) → earlier s i ≤ i * 4294967296
unfolding earlier
earlier_small s h zero = omega arith
earlier_small s h (suc i) = omega (arith, kids_small s h i, earlier_small s h i)

pub next_suc : (s : List ℕ) (i next : ℕ) (n : Node) → n ≡ node_at s i → next ≡ 1 + earlier s i → next + n.children ≡ 1 + earlier s (i + 1)
next_suc s i next n e h = rw (e, earlier_suc s i) (omega arith)

pub next_fits : (s : List ℕ) → ((i : ℕ) → get_or s i 0 < 256) → (i next : ℕ) (n : Node) → n ≡ node_at s i → next ≡ 1 + earlier s i → i < 131072 → next + n.children < 18446744073709551616
next_fits s b i next n e h l = rw e (omega (arith, kids_small s b i, earlier_small s b i))

pub record_at_lem : (s : List ℕ) (store i next : ℕ) (n : Node) → n ≡ node_at s i → next ≡ 1 + earlier s i → (b : Bool) → b ≡ record_ok n store i next → record_at s store i ≡ b
unfolding record_at
record_at_lem s store i next n e h b q = rw (← e, ← h, q)

pub block_ends : (s : List ℕ) (store i next : ℕ) → length s % node_size ≡ 0 → records s ≤ 131072 → i ≡ records s → next ≡ 1 + earlier s i → all (record_at s store) i ≡ true → eqb (records s) next ≡ block_ok s store
unfolding block_ok ◌and◌
block_ends s store i next a b e h r = rw (eq-eqb _ _ a, le-leb _ _ b, ← e, r, h)

-- ---- what it gives
children_order : (n : Node) (i next : ℕ) → children_ok n i next ≡ true → (n.children ≡ 0 → n.first ≡ 0) × (0 < n.children → (n.first ≡ next) × (i < n.first))
unfolding children_ok
children_order n i next e =
    ⊎_elim
    (λ (p : (eqb n.children 0 ≡ true) × (eqb n.first 0 ≡ true)). let z : n.children ≡ 0 = eqb-true _ _ p.0 in (λ q. eqb-true _ _ p.1, λ q. absurd (omega arith)))
    (λ (p : (eqb n.children 0 ≡ false) × (eqb n.first next and ltb i n.first ≡ true)).
    let b = and_both _ _ p.1 in (λ q. absurd (eqb-false _ _ p.0 q), λ q. (eqb-true _ _ b.0, ltb-true _ _ b.1)))
    (pick_either _ _ _ e)

order_children : (n : Node) (i next : ℕ) → (n.children ≡ 0 → n.first ≡ 0) × (0 < n.children → (n.first ≡ next) × (i < n.first)) → children_ok n i next ≡ true
unfolding children_ok pick
order_children n i next h =
    ⊎_elim
    (λ (z : 0 ≡ n.children). rw (eq-eqb _ _ (sym z), eq-eqb _ _ (h.0 (sym z))))
    (λ (p : 0 < n.children). rw (ne_eqb n.children 0 (λ z. omega arith)) (and_true _ _ (eq-eqb _ _ (h.1 p).0) (lt-ltb _ _ (h.1 p).1)))
    (eq-or-lt_of_le (omega arith))

name_named : (n : Node) (store : ℕ) → name_ok n store ≡ true → Named n store
unfolding name_ok
name_named n store e =
    ⊎_elim
    (λ (p : (eqb n.named 0 ≡ true) × (eqb n.len 0 and eqb n.start 0 ≡ true)).
    let z : n.named ≡ 0 = eqb-true _ _ p.0 in
    let b = and_both _ _ p.1 in
    record { without = λ q. (eqb-true _ _ b.0, eqb-true _ _ b.1); with_one = λ q. absurd (omega arith) })
    (λ (p : (eqb n.named 0 ≡ false) × (eqb n.named 1 and leb (n.start + n.len) store ≡ true)).
    let b = and_both _ _ p.1 in
    record { without = λ q. absurd (eqb-false _ _ p.0 q); with_one = λ q. (eqb-true _ _ b.0, leb-true _ _ b.1) })
    (pick_either _ _ _ e)

named_name : (n : Node) (store : ℕ) → Named n store → name_ok n store ≡ true
unfolding name_ok pick
named_name n store h =
    ⊎_elim
    (λ (z : 0 ≡ n.named). rw (eq-eqb _ _ (sym z)) (and_true _ _ (eq-eqb _ _ (h.without (sym z)).0) (eq-eqb _ _ (h.without (sym z)).1)))
    (λ (p : 0 < n.named). rw (ne_eqb n.named 0 (λ z. omega arith)) (and_true _ _ (eq-eqb _ _ (h.with_one p).0) (le-leb _ _ (h.with_one p).1)))
    (eq-or-lt_of_le (omega arith))

pub ordered : (s : List ℕ) (store : ℕ) → block_ok s store ≡ true → Ordered s
unfolding block_ok record_at record_ok
ordered s store e =
    let a = and_both _ _ e in
    let b = and_both _ _ a.0 in
    let d = and_both _ _ b.0 in
    let z : length s % node_size ≡ 0 = eqb-true _ _ d.0 in
    let m : records s ≡ 1 + earlier s (records s) = eqb-true _ _ a.1 in
    record {
      size = omega arith;
      most = leb-true _ _ d.1;
      each = λ i h.
          let r = and_both _ _ (all_each _ _ i b.1 h) in
          let o = children_order (node_at s i) i (1 + earlier s i) r.1 in
          record { leaf = o.0; parent = o.1 };
    }

-- the form is just what the facts say
pub formed : (s : List ℕ) (store : ℕ) → (block_ok s store ≡ true) ↔ Formed s store
unfolding block_ok record_at record_ok
formed s store = (
  λ e.
      let a = and_both _ _ e in
      let b = and_both _ _ a.0 in
      let each : (i : ℕ) → i < records s → (leb (node_at s i).code 19 and name_ok (node_at s i) store) ≡ true = λ i h. (and_both _ _ (all_each _ _ i b.1 h)).0 in
      record {
        order = ordered s store e;
        codes = λ i h. leb-true _ _ (and_both _ _ (each i h)).0;
        names = λ i h. name_named _ _ (and_both _ _ (each i h)).1;
      },
  λ b.
      let z : length s % node_size ≡ 0 = omega (arith, b.order.size) in
      let m : records s ≡ 1 + earlier s (records s) = omega (arith, b.order.size) in
      and_true _ _ (and_true _ _ (and_true _ _ (eq-eqb _ _ z) (le-leb _ _ b.order.most))
      (all_true _ _ (λ i h.
      and_true _ _ (and_true _ _ (le-leb _ _ (b.codes i h)) (named_name _ _ (b.names i h)))
      (order_children _ _ _ ((b.order.each i h).leaf, (b.order.each i h).parent))))) (eq-eqb _ _ m),
)

-- ---- the shape of a block in level order
module _ (s : List ℕ) (f : Ordered s) where
  pub earlier_mono : (i j : ℕ) → i ≤ j → earlier s i ≤ earlier s j
  unfolding earlier
  earlier_mono i zero h = let e : i ≡ 0 = omega arith in rw e (omega arith)
  earlier_mono i (suc j) h = ⊎_elim (λ (q : i ≡ suc j). rw q (omega arith)) (λ (q : i < suc j). omega (arith, earlier_mono i j (omega arith))) (eq-or-lt_of_le h)

  -- as many records as that
  pub whole : records s ≡ 1 + earlier s (records s)
  whole = omega (arith, f.size)

  pub closed : Closed s
  unfolding Closed
  closed i h = ⊎_elim
      (λ (z : 0 ≡ (node_at s i).children). omega (arith, (f.each i (omega arith)).leaf (sym z)))
      (λ (p : 0 < (node_at s i).children). omega (arith, ((f.each i (omega arith)).parent p).0, earlier_suc s i, earlier_mono (i + 1) (records s) (omega arith), f.size))
      (eq-or-lt_of_le (omega arith))

  -- before each record stand the children of fewer
  pub ahead : (left i : ℕ) → i + left ≡ records s → 0 < left → i < 1 + earlier s i
  ahead zero i e h = absurd (omega arith)
  ahead (suc zero) i e h = ⊎_elim
      (λ (z : 0 ≡ (node_at s i).children). omega (arith, earlier_suc s i, whole, ap (earlier s) (at_end e)))
      (λ (p : 0 < (node_at s i).children). omega (arith, (f.each i (omega arith)).parent p))
      (eq-or-lt_of_le (omega arith))
    where
      at_end : i + 1 ≡ records s → i + 1 ≡ records s
      at_end e = e
  ahead (suc (suc left)) i e h = ⊎_elim
      (λ (z : 0 ≡ (node_at s i).children). omega (arith, earlier_suc s i, ahead (suc left) (i + 1) (omega arith) (omega arith)))
      (λ (p : 0 < (node_at s i).children). omega (arith, (f.each i (omega arith)).parent p))
      (eq-or-lt_of_le (omega arith))

  pub before : (i : ℕ) → i < records s → i < 1 + earlier s i
  before i h = ahead (records s - i) i (omega arith) (omega arith)
