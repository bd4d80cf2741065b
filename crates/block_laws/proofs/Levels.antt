-- The levels of a block in level order, and the depth of its tree.
-- Assumes nothing.
use Prim.Native.Nat.{ℕ, zero, suc, ◌+◌, ◌-◌, ◌≤◌, ◌<◌}
use mathlib.Core.Path.{◌≡◌, refl, sym, ◌∙◌}
use mathlib.Core.List.{List}
use mathlib.Core.Logic.{◌⊎◌, inl, inr, ⊎_elim, ◌↔◌}
use native.Mathlib.Omega.{arith}
use native.Mathlib.Nat.{eq-or-lt_of_le}
use native.Mathlib.Numerals.{add-one}
use lib.ListN.{length}
use Rattle.rules.specs.Schema.{Schema, Schemas, deep, deeps}
use Rattle.rules.specs.Block.{node_size, NodeIn, node_at, records, trees_from, tree_at, block_tree, Denotes, denotes, DenoteAll, no_node, a_node, Closed, earlier, Ordered}
use Rattle.block_laws.proofs.Form.{earlier_suc, earlier_mono, whole, closed, before}

-- node i and all below it lie within d levels
unfoldable pub Shallow : List ℕ → ℕ → ℕ → Type 0
Shallow s zero i = ⊥
Shallow s (suc d) i = (t : ℕ) → t < (node_at s i).children → Shallow s d ((node_at s i).first + t)

-- how many records the first d levels have
unfoldable pub edge : List ℕ → ℕ → ℕ
edge s zero = 0
edge s (suc d) = 1 + earlier s (edge s d)

le_or_lt : (a b : ℕ) → (a ≤ b) ⊎ (b < a)
le_or_lt zero b = inl (omega arith)
le_or_lt (suc a) zero = inr (omega arith)
le_or_lt (suc a) (suc b) = ⊎_elim (λ (p : a ≤ b). inl (omega arith)) (λ (p : b < a). inr (omega arith)) (le_or_lt a b)

module _ (s : List ℕ) (f : Ordered s) where
  -- the node among n from lo on whose children have number j among them
  find : (j n lo : ℕ) → 1 + earlier s lo ≤ j → j < 1 + earlier s (lo + n) → (i : ℕ) × ((lo ≤ i) × ((i < lo + n) × ((1 + earlier s i ≤ j) × (j < 1 + earlier s (i + 1)))))
  find j zero lo l h = let e : lo + 0 ≡ lo = omega arith in absurd (omega (arith, rw e at h))
  find j (suc n) lo l h =
      let e : lo + suc n ≡ (lo + n) + 1 = omega arith in
      let k : j < 1 + earlier s ((lo + n) + 1) = rw e at h in
      ⊎_elim
      (λ (p : 1 + earlier s (lo + n) ≤ j). (lo + n, (omega arith, (omega arith, (p, k)))))
      (λ (p : j < 1 + earlier s (lo + n)). let r = find j n lo l p in (r.0, (r.1.0, (omega (arith, r.1.1.0), r.1.1.1))))
      (le_or_lt (1 + earlier s (lo + n)) j)

  -- ---- each record but the root is the child of one node, which stands before it
  pub Child : ℕ → ℕ → Type 0
  Child i j = (i < records s) × (((node_at s i).first ≤ j) × (j < (node_at s i).first + (node_at s i).children))

  pub first_of : (i : ℕ) → i < records s → 0 < (node_at s i).children → (node_at s i).first ≡ 1 + earlier s i
  first_of i l p = ((f.each i l).parent p).0

  pub has_parent : (j : ℕ) → 0 < j → j < records s → (i : ℕ) × ((i < j) × Child i j)
  unfolding Child earlier
  has_parent j p h =
      let w = whole s f in
      let z : 0 + records s ≡ records s = omega arith in
      let r = find j (records s) 0 (omega arith) (rw z (omega arith)) in
      let g = first_of r.0 (omega (arith, r.1.1.0)) (omega (arith, r.1.1.1, earlier_suc s r.0)) in
      (r.0, (omega (arith, r.1.1.1, before s f r.0 (omega (arith, r.1.1.0))), (omega (arith, r.1.1.0), (omega (arith, r.1.1.1, g), omega (arith, r.1.1.1, g, earlier_suc s r.0)))))

  pub one_parent : (i k j : ℕ) → Child i j → Child k j → i ≡ k
  unfolding Child
  one_parent i k j a b =
      let g = first_of i a.0 (omega (arith, a)) in
      let h = first_of k b.0 (omega (arith, b)) in
      ⊎_elim
      (λ (p : i ≤ k). ⊎_elim (λ (q : i ≡ k). q) (λ (q : i < k). absurd (omega (arith, a, b, g, h, earlier_suc s i, earlier_mono s f (i + 1) k (omega arith)))) (eq-or-lt_of_le p))
      (λ (p : k < i). absurd (omega (arith, a, b, g, h, earlier_suc s k, earlier_mono s f (k + 1) i (omega arith))))
      (le_or_lt i k)

  -- ---- the levels
  pub edge_within : (d : ℕ) → edge s d ≤ records s
  unfolding edge
  edge_within zero = omega arith
  edge_within (suc d) = omega (arith, whole s f, earlier_mono s f (edge s d) (records s) (edge_within d))

  pub edge_stays : (d : ℕ) → edge s d ≡ records s → edge s (suc d) ≡ records s
  unfolding edge
  edge_stays d e = rw e (sym (whole s f))

  edge_grows : (d : ℕ) → edge s d < records s → edge s d < edge s (suc d)
  unfolding edge
  edge_grows d h = before s f (edge s d) h

  pub edge_up : (d : ℕ) → edge s d ≤ edge s (suc d)
  edge_up d = ⊎_elim (λ (e : edge s d ≡ records s). omega (arith, edge_stays d e)) (λ (l : edge s d < records s). omega (arith, edge_grows d l)) (eq-or-lt_of_le (edge_within d))

  edge_least : (d : ℕ) → d ≤ records s → d ≤ edge s d
  edge_least zero h = omega arith
  edge_least (suc d) h = ⊎_elim
      (λ (e : edge s d ≡ records s). omega (arith, edge_stays d e))
      (λ (l : edge s d < records s). omega (arith, edge_grows d l, edge_least d (omega arith)))
      (eq-or-lt_of_le (edge_within d))

  pub edge_all : edge s (records s) ≡ records s
  edge_all = omega (arith, edge_least (records s) (omega arith), edge_within (records s))

  -- the nodes of a level and all below them lie within d levels, just if d more levels are the whole
  down : (d k : ℕ) → edge s (k + d) ≡ records s → (i : ℕ) → edge s k ≤ i → i < edge s (suc k) → Shallow s d i
  unfolding Shallow edge
  down zero k e i l h =
      let z : k + 0 ≡ k = omega arith in
      let w : edge s k ≡ records s = rw z at e in
      absurd (omega (arith, edge_stays k w))
  down (suc d) k e i l h = λ t b.
      let z : k + suc d ≡ suc k + d = omega arith in
      let n : i < records s = omega (arith, edge_within (suc k)) in
      let g = first_of i n (omega arith) in
      down d (suc k) (rw z at e) ((node_at s i).first + t) (omega (arith, g, earlier_mono s f (edge s k) i l))
      (omega (arith, g, earlier_suc s i, earlier_mono s f (i + 1) (1 + earlier s (edge s k)) (omega arith)))

  up : (d k : ℕ) → ((i : ℕ) → edge s k ≤ i → i < edge s (suc k) → Shallow s d i) → edge s (k + d) ≡ records s
  unfolding Shallow
  up zero k a =
      let z : k + 0 ≡ k = omega arith in
      rw z (⊎_elim (λ (e : edge s k ≡ records s). e) (λ (l : edge s k < records s). absurd (a (edge s k) (omega arith) (edge_grows k l))) (eq-or-lt_of_le (edge_within k)))
  up (suc d) k a =
      let z : k + suc d ≡ suc k + d = omega arith in
      rw z (up d (suc k) (λ j l h. child j l h))
    where
      child : (j : ℕ) → edge s (suc k) ≤ j → j < edge s (suc (suc k)) → Shallow s d j
      child j l h =
          let le : edge s k ≤ edge s (suc k) = omega (arith, edge_up k) in
          let q : edge s k + (edge s (suc k) - edge s k) ≡ edge s (suc k) = omega arith in
          let r = find j (edge s (suc k) - edge s k) (edge s k) (unfold edge in l) (rw q (unfold edge in h)) in
          let n : r.0 < records s = omega (arith, r.1.1.0, edge_within (suc k)) in
          let t : j - (1 + earlier s r.0) < (node_at s r.0).children = omega (arith, r.1.1.1, earlier_suc s r.0) in
          let e : (node_at s r.0).first + (j - (1 + earlier s r.0)) ≡ j = omega (arith, r.1.1.1, first_of r.0 n (omega arith)) in
          rw e at (a r.0 r.1.0 (omega (arith, r.1.1.0)) (j - (1 + earlier s r.0)) t)

  pub levels : (d : ℕ) → (edge s d ≡ records s) ↔ Shallow s d 0
  unfolding edge earlier
  levels d =
      let q : 0 + d ≡ d = omega arith in
      (λ e. down d 0 (rw q e) 0 (omega arith) (omega arith), λ h. rw q at (up d 0 (λ i l b. let z : i ≡ 0 = omega arith in rw z h)))

-- ---- one pass over the records: `upto` records lie in the first `depth` levels, i among them or just past; the levels before are passed
pub record LevelSpot (s : List ℕ) (i upto depth : ℕ) : Type 0 where
  pub is : upto ≡ edge s depth
  pub here : i ≤ upto
  pub few : depth ≤ i
  pub passed : (k : ℕ) → k < depth → edge s k < i

pub spot_first : (s : List ℕ) → LevelSpot s 0 0 0
unfolding edge
spot_first s = record { is = refl; here = omega arith; few = omega arith; passed = λ k h. absurd (omega arith) }

pub spot_same : (s : List ℕ) (i upto depth u d : ℕ) → LevelSpot s i upto depth → (i ≡ upto → ⊥) → u ≡ upto → d ≡ depth → LevelSpot s (i + 1) u d
spot_same s i upto depth u d p n a b = rw (a, b) (record { is = p.is; here = omega (arith, p.here, n); few = omega (arith, p.few); passed = λ k h. omega (arith, p.passed k h) })

pub spot_next : (s : List ℕ) → Ordered s → (i next upto depth u d : ℕ) → i < records s → next ≡ 1 + earlier s i → LevelSpot s i upto depth → i ≡ upto → u ≡ next → d ≡ depth + 1 → LevelSpot s (i + 1) u d
unfolding edge
spot_next s f i next upto depth u d l e p n a b =
    let q : edge s depth ≡ i = sym p.is ∙ sym n in
    rw (a, b)
    (record {
      is = rw (add-one, q) e;
      here = omega (arith, before s f i l);
      few = omega (arith, p.few);
      passed = λ k h. ⊎_elim (λ (z : k ≡ depth). rw z (omega arith)) (λ (z : k < depth). omega (arith, p.passed k z)) (eq-or-lt_of_le (omega arith));
    })

-- ---- the depth of the tree
module _ (s store : List ℕ) where
  mutual
    unfolding Shallow deep

    pub deep_shallow : {i : ℕ} {t : Schema} → Denotes s store i t → (d : ℕ) → deep t ≤ d → Shallow s d i
    deep_shallow (denotes l k m a) zero h = absurd (omega arith)
    deep_shallow (denotes l k m a) (suc d) h = λ t b. deeps_shallow a d (omega arith) t b

    deeps_shallow : {i n : ℕ} {ts : Schemas} → DenoteAll s store i n ts → (d : ℕ) → deeps ts ≤ d → (t : ℕ) → t < n → Shallow s d (i + t)
    deeps_shallow no_node d h t b = absurd (omega arith)
    deeps_shallow {i = i} (a_node x y) d h zero b = let e : i + 0 ≡ i = omega arith in rw e (deep_shallow x d (omega arith))
    deeps_shallow {i = i} (a_node x y) d h (suc t) b = let e : i + suc t ≡ (i + 1) + t = omega arith in rw e (deeps_shallow y d (omega arith) t (omega arith))

  mutual
    unfolding Shallow deep

    pub shallow_deep : {i : ℕ} {t : Schema} → Denotes s store i t → (d : ℕ) → Shallow s d i → deep t ≤ d
    shallow_deep (denotes l k m a) zero h = absurd h
    shallow_deep (denotes l k m a) (suc d) h = omega (arith, shallow_deeps a d h)

    shallow_deeps : {i n : ℕ} {ts : Schemas} → DenoteAll s store i n ts → (d : ℕ) → ((t : ℕ) → t < n → Shallow s d (i + t)) → deeps ts ≤ d
    shallow_deeps no_node d h = omega arith
    shallow_deeps {i = i} (a_node x y) d h =
        let z : i + 0 ≡ i = omega arith in
        omega (arith, shallow_deep x d (rw z at (h 0 (omega arith))), shallow_deeps y d (λ t b. let e : i + suc t ≡ (i + 1) + t = omega arith in rw e at (h (suc t) (omega arith))))

  pub tree_denotes : Closed s → (d i : ℕ) → NodeIn i (length s) → Shallow s d i → Denotes s store i (tree_at s store d i)
  unfolding tree_at Shallow trees_from Closed
  tree_denotes c zero i l h = absurd h
  tree_denotes c (suc d) i l h = denotes l refl refl (all (node_at s i).first (node_at s i).children (λ t b. tree_denotes c d ((node_at s i).first + t) (omega (arith, c i l)) (h t b)))
    where
      all : (j n : ℕ) → ((t : ℕ) → t < n → Denotes s store (j + t) (tree_at s store d (j + t))) → DenoteAll s store j n (trees_from (tree_at s store d) j n)
      all j zero f = no_node
      all j (suc n) f =
          let z : j + 0 ≡ j = omega arith in
          a_node (rw z at (f 0 (omega arith))) (all (j + 1) n (λ t l. let e : j + suc t ≡ (j + 1) + t = omega arith in rw e at (f (suc t) (omega arith))))

  module _ (f : Ordered s) where
    some : node_size ≤ length s
    some = omega (arith, f.size)

    -- a block in level order denotes a schema
    pub block_denotes : Denotes s store 0 (block_tree s store)
    unfolding block_tree
    block_denotes = tree_denotes (closed s f) (records s) 0 (omega (arith, some)) ((levels s f (records s)).0 (edge_all s f))

    -- its depth is the first level at which nothing is left
    pub depth_is : (d : ℕ) → edge s d ≡ records s → ((k : ℕ) → k < d → edge s k < records s) → deep (block_tree s store) ≡ d
    depth_is d e h =
        let a = shallow_deep block_denotes d ((levels s f d).0 e) in
        ⊎_elim (λ (p : deep (block_tree s store) ≡ d). p)
        (λ (p : deep (block_tree s store) < d).
        let q = (levels s f (deep (block_tree s store))).1 (deep_shallow block_denotes (deep (block_tree s store)) (omega arith)) in
        absurd (omega (arith, h (deep (block_tree s store)) p, q)))
        (eq-or-lt_of_le a)

    -- and where the pass ends it has the depth
    pub spot_last : (i upto depth : ℕ) → i ≡ records s → LevelSpot s i upto depth → depth ≡ deep (block_tree s store)
    spot_last i upto depth e p = sym (depth_is depth (omega (arith, p.is, p.here, edge_within s f depth)) (λ k h. omega (arith, p.passed k h)))
