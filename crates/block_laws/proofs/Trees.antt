-- The tree of a block does not depend on how deep it is looked at, nor its depth on the names.
-- Assumes nothing.
use Prim.Native.Nat.{ℕ, zero, suc, ◌+◌, ◌≤◌, max}
use mathlib.Core.Path.{◌≡◌, refl, sym, ap, ◌∙◌}
use mathlib.Core.List.{List, []}
use native.Mathlib.Omega.{arith}
use Rattle.rules.specs.Schema.{Schema, Schemas, deep, deeps}
use Rattle.rules.specs.Block.{node_at, records, trees_from, tree_at, block_tree, depth_of, Denotes, denotes, DenoteAll, no_node, a_node}

module _ (s store : List ℕ) where
  mutual
    unfolding tree_at trees_from deep

    pub denotes_tree : {i : ℕ} {t : Schema} → Denotes s store i t → (d : ℕ) → deep t ≤ d → tree_at s store d i ≡ t
    denotes_tree (denotes l k m a) zero h = absurd (omega arith)
    denotes_tree (denotes l k m a) (suc d) h = rw (m, k, denotes_trees a d (omega arith))

    denotes_trees : {i n : ℕ} {ts : Schemas} → DenoteAll s store i n ts → (d : ℕ) → deeps ts ≤ d → trees_from (tree_at s store d) i n ≡ ts
    denotes_trees no_node d h = refl
    denotes_trees (a_node a b) d h = rw (denotes_tree a d (omega arith), denotes_trees b d (omega arith))

module _ (s store store' : List ℕ) where
  pub deep_any : (d i : ℕ) → deep (tree_at s store d i) ≡ deep (tree_at s store' d i)
  unfolding tree_at trees_from deep
  deep_any zero i = refl
  deep_any (suc d) i = ap suc (all (deep_any d) (node_at s i).first (node_at s i).children)
    where
      all : ((i : ℕ) → deep (tree_at s store d i) ≡ deep (tree_at s store' d i)) → (j n : ℕ) → deeps (trees_from (tree_at s store d) j n) ≡ deeps (trees_from (tree_at s store' d) j n)
      all ok j zero = refl
      all ok j (suc n) = rw (ok j, all ok (j + 1) n)

pub same_depth : (s store : List ℕ) → depth_of s ≡ deep (block_tree s store)
unfolding depth_of block_tree
same_depth s store = deep_any s [] store (records s) 0

-- a node denotes one schema
pub denotes_one : (s store : List ℕ) {i : ℕ} {t u : Schema} → Denotes s store i t → Denotes s store i u → t ≡ u
denotes_one s store {t = t} {u = u} a b = sym (denotes_tree s store a (max (deep t) (deep u)) (omega arith)) ∙ denotes_tree s store b (max (deep t) (deep u)) (omega arith)
