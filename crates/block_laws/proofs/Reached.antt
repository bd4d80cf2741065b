-- Each record of a block is reached exactly once: the tree has as many nodes as the block has records.
-- Assumes nothing.
use Prim.Native.Nat.{ℕ, zero, suc, ◌+◌, ◌-◌, ◌≤◌, ◌<◌}
use mathlib.Core.Path.{◌≡◌, refl}
use mathlib.Core.List.{List}
use mathlib.Core.Logic.{⊎_elim}
use native.Mathlib.Omega.{arith}
use native.Mathlib.Nat.{eq-or-lt_of_le}
use Rattle.rules.specs.Schema.{nodes, nodes_all}
use Rattle.rules.specs.Block.{node_at, records, trees_from, tree_at, block_tree, earlier, Ordered}
use Rattle.block_laws.proofs.Form.{earlier_suc, earlier_mono}
use Rattle.block_laws.proofs.Levels.{edge, first_of, edge_within, edge_stays, edge_up, edge_all}

module _ (s store : List ℕ) (f : Ordered s) where
  -- the nodes of n trees from i on, looked at to depth d
  abbrev from : ℕ → ℕ → ℕ → ℕ
  from d i n = nodes_all (trees_from (tree_at s store d) i n)

  from_append : (d n i k : ℕ) → from d i (n + k) ≡ from d i n + from d (i + n) k
  unfolding nodes trees_from
  from_append d zero i k =
      let a : 0 + k ≡ k = omega arith in
      let b : i + 0 ≡ i = omega arith in
      rw (a, b) (omega arith)
  from_append d (suc n) i k =
      let a : suc n + k ≡ suc (n + k) = omega arith in
      let b : i + suc n ≡ (i + 1) + n = omega arith in
      rw (a, b) (omega (arith, from_append d n (i + 1) k))

  -- a node's children stand where the earlier nodes' children end
  from_kids : (d a : ℕ) → a < records s → from d (node_at s a).first (node_at s a).children ≡ from d (1 + earlier s a) (node_at s a).children
  unfolding trees_from
  from_kids d a l = ⊎_elim (λ (z : 0 ≡ (node_at s a).children). rw (← z)) (λ (p : 0 < (node_at s a).children). rw (first_of s f a l p)) (eq-or-lt_of_le (omega arith))

  from_down : (d n a : ℕ) → a + n ≤ records s → from (suc d) a n ≡ n + from d (1 + earlier s a) (earlier s (a + n) - earlier s a)
  unfolding nodes trees_from tree_at
  from_down d zero a l =
      let z : a + 0 ≡ a = omega arith in
      let y : earlier s a - earlier s a ≡ 0 = omega arith in
      rw (z, y) (omega arith)
  from_down d (suc n) a l =
      let z : a + suc n ≡ (a + 1) + n = omega arith in
      let up = earlier_mono s f (a + 1) ((a + 1) + n) (omega arith) in
      let w : earlier s ((a + 1) + n) - earlier s a ≡ (node_at s a).children + (earlier s ((a + 1) + n) - earlier s (a + 1)) = omega (arith, earlier_suc s a, up) in
      let v : (1 + earlier s a) + (node_at s a).children ≡ 1 + earlier s (a + 1) = omega (arith, earlier_suc s a) in
      let app = from_append d (node_at s a).children (1 + earlier s a) (earlier s ((a + 1) + n) - earlier s (a + 1)) in
      let app' = rw v at app in
      rw (z, w) (omega (arith, app', from_kids d a (omega arith), from_down d n (a + 1) (omega arith)))

  from_none : (n i : ℕ) → from zero i n ≡ n
  unfolding nodes trees_from tree_at
  from_none zero i = refl
  from_none (suc n) i = omega (arith, from_none n (i + 1))

  edge_next : (k : ℕ) → 1 + earlier s (edge s k) ≡ edge s (suc k)
  unfolding edge
  edge_next k = refl

  edge_less : (i j : ℕ) → earlier s (edge s i) - earlier s (edge s j) ≡ edge s (suc i) - edge s (suc j)
  unfolding edge
  edge_less i j = omega arith

  level_nodes : (d k : ℕ) → edge s k + from d (edge s k) (edge s (suc k) - edge s k) ≡ edge s (suc (k + d))
  level_nodes zero k =
      let z : k + 0 ≡ k = omega arith in
      rw z (omega (arith, from_none (edge s (suc k) - edge s k) (edge s k), edge_up s f k))
  level_nodes (suc d) k =
      let z : k + suc d ≡ suc k + d = omega arith in
      let q : edge s k + (edge s (suc k) - edge s k) ≡ edge s (suc k) = omega (arith, edge_up s f k) in
      let a = from_down d (edge s (suc k) - edge s k) (edge s k) (omega (arith, q, edge_within s f (suc k))) in
      let b = rw (q, edge_less (suc k) k, edge_next k) at a in
      rw z (omega (arith, b, level_nodes d (suc k), q))

  pub all_reached : nodes (block_tree s store) ≡ records s
  unfolding block_tree nodes trees_from edge earlier
  all_reached =
      let z : 0 + records s ≡ records s = omega arith in
      let a = level_nodes (records s) 0 in
      omega (arith, rw z at a, edge_stays s f (records s) (edge_all s f))
