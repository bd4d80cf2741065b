-- The nodes below a node follow it, in preorder, and the fields of a tuple follow one another.
-- Assumes nothing.
use Prim.Native.Nat.{ℕ, zero, suc, ◌+◌}
use mathlib.Core.Path.{◌≡◌, refl}
use mathlib.Core.List.{List, [], ◌∷◌, ◌++◌}
use mathlib.Core.Logic.{⊎_elim}
use native.Mathlib.Omega.{arith}
use lib.ListN.{length}
use Rattle.rules.specs.Value.{Value, nothing, boolean, number, wide, blob, variant, repeated, tuple, Items, done, item, Values, none, more, records_of, payload_of}
use Rattle.rules.specs.Preorder.{ValueNode, value_node, nodes_below, nodes_below_i, nodes_below_v, value_preorder, NodeIs, FieldIs, nodes_before, FirstChild}
use Rattle.value_laws.proofs.Nodes.{node_split, node_left, node_right, no_node, length-value_node}

-- the nodes below a node
abbrev pub nodes_under : ValueNode → List ValueNode
nodes_under n = nodes_below n.value n.before (suc n.depth)

-- whatever node of a list it is, the nodes below it follow it there
abbrev Follows : List ValueNode → Type 0
Follows ns = (i : ℕ) (n : ValueNode) → NodeIs ns i n → (j : ℕ) (m : ValueNode) → NodeIs (nodes_under n) j m → NodeIs ns (suc (i + j)) m

none_follow : Follows []
none_follow i n h j m k = no_node i n h

-- so it is for a tree whose nodes below the root have it
tree_follows : (v : Value) (tag p d : ℕ) → Follows (nodes_below v p (suc d)) → Follows (value_node v tag p d ∷ nodes_below v p (suc d))
unfolding NodeIs
tree_follows v tag p d rec zero n h j m k = let e : 0 + j ≡ j = omega arith in rw e (rw (← h) at k)
tree_follows v tag p d rec (suc i) n h j m k = let e : suc i + j ≡ suc (i + j) = omega arith in rw e (rec i n h j m k)

-- and for two lists one after the other
both_follow : (xs ys : List ValueNode) → Follows xs → Follows ys → Follows (xs ++ ys)
both_follow xs ys f g i n h j m k =
    ⊎_elim (λ a. node_left xs ys (suc (i + j)) m (f i n a j m k))
    (λ (b : (l : ℕ) × ((i ≡ length xs + l) × NodeIs ys l n)).
    let e : suc (i + j) ≡ length xs + suc (b.0 + j) = omega (arith, b.1.0) in
    rw e (node_right xs ys (suc (b.0 + j)) m (g b.0 n b.1.1 j m k)))
    (node_split xs ys i n h)

mutual
  unfolding nodes_below

  below_follow : (v : Value) (p d : ℕ) → Follows (nodes_below v p d)
  below_follow nothing p d = none_follow
  below_follow (boolean x) p d = none_follow
  below_follow (number k x) p d = none_follow
  below_follow (wide k x) p d = none_follow
  below_follow (blob k x) p d = none_follow
  below_follow (variant t v) p d = tree_follows v t p d (below_follow v p (suc d))
  below_follow (repeated is) p d = below_i_follow is p d
  below_follow (tuple vs) p d = below_v_follow vs p d

  below_i_follow : (is : Items) (p d : ℕ) → Follows (nodes_below_i is p d)
  below_i_follow done p d = none_follow
  below_i_follow (item t v is) p d = both_follow (value_node v t p d ∷ nodes_below v p (suc d)) (nodes_below_i is (p + payload_of v) d) (tree_follows v t p d (below_follow v p (suc d))) (below_i_follow is (p + payload_of v) d)

  below_v_follow : (vs : Values) (p d : ℕ) → Follows (nodes_below_v vs p d)
  below_v_follow none p d = none_follow
  below_v_follow (more v vs) p d = both_follow (value_node v 0 p d ∷ nodes_below v p (suc d)) (nodes_below_v vs (p + payload_of v) d) (tree_follows v 0 p d (below_follow v p (suc d))) (below_v_follow vs (p + payload_of v) d)

pub nodes_follow : (v : Value) → Follows (value_preorder v)
unfolding value_preorder
nodes_follow v = tree_follows v 0 0 1 (below_follow v 0 2)

-- ---- children

-- the first child is the first node below
first_below : (v u : Value) (p d : ℕ) → FirstChild v u → (c : ValueNode) × (NodeIs (nodes_below v p d) 0 c × (c.value ≡ u))
unfolding FirstChild nodes_below NodeIs
first_below nothing u p d h = absurd h
first_below (boolean x) u p d h = absurd h
first_below (number k x) u p d h = absurd h
first_below (wide k x) u p d h = absurd h
first_below (blob k x) u p d h = absurd h
first_below (variant t v) u p d h = (value_node v t p d, (refl, h))
first_below (repeated done) u p d h = absurd h
first_below (repeated (item t v is)) u p d h = (value_node v t p d, (refl, h))
first_below (tuple none) u p d h = absurd h
first_below (tuple (more v vs)) u p d h = (value_node v 0 p d, (refl, h))

-- field k of a tuple is below it, past the nodes of the fields before it
field_below : (vs : Values) (k : ℕ) (u : Value) (p d : ℕ) → FieldIs vs k u → (c : ValueNode) × (NodeIs (nodes_below_v vs p d) (nodes_before vs k) c × (c.value ≡ u))
unfolding FieldIs nodes_before nodes_below
field_below none k u p d h = absurd h
field_below (more v vs) zero u p d h = (value_node v 0 p d, (unfold NodeIs in refl, h))
field_below (more v vs) (suc k) u p d h =
    let a = field_below vs k u (p + payload_of v) d h in
    let l = node_right (value_node v 0 p d ∷ nodes_below v p (suc d)) (nodes_below_v vs (p + payload_of v) d) (nodes_before vs k) a.0 a.1.0 in
    (a.0, (rw (length-value_node v 0 p d) at l, a.1.1))

-- The first child of node i is node i + 1.
pub first_child : (v : Value) (i : ℕ) (n : ValueNode) (u : Value) → NodeIs (value_preorder v) i n → FirstChild n.value u → (c : ValueNode) × (NodeIs (value_preorder v) (i + 1) c × (c.value ≡ u))
first_child v i n u h f =
    let a = first_below n.value u n.before (suc n.depth) f in
    let e : suc (i + 0) ≡ i + 1 = omega arith in
    (a.0, (rw e at (nodes_follow v i n h 0 a.0 a.1.0), a.1.1))

-- Field k of node i, a tuple, is the node that is past node i and the nodes of the fields before it.
pub field_node : (v : Value) (i : ℕ) (n : ValueNode) (vs : Values) (k : ℕ) (u : Value) → NodeIs (value_preorder v) i n → n.value ≡ tuple vs → FieldIs vs k u →
    (c : ValueNode) × (NodeIs (value_preorder v) ((i + 1) + nodes_before vs k) c × (c.value ≡ u))
unfolding nodes_below
field_node v i n vs k u h t f =
    let a = field_below vs k u n.before (suc n.depth) f in
    let b : NodeIs (nodes_under n) (nodes_before vs k) a.0 = rw t a.1.0 in
    let e : suc (i + nodes_before vs k) ≡ (i + 1) + nodes_before vs k = omega arith in
    (a.0, (rw e at (nodes_follow v i n h (nodes_before vs k) a.0 b), a.1.1))

-- the fields before the next one are those before this one, and this one
pub before_next : (vs : Values) (k : ℕ) (u : Value) → FieldIs vs k u → nodes_before vs (suc k) ≡ nodes_before vs k + records_of u
unfolding FieldIs nodes_before
before_next none k u h = absurd h
before_next (more v none) zero u h = rw (← h) (omega arith)
before_next (more v (more w vs)) zero u h = rw (← h) (omega arith)
before_next (more v vs) (suc k) u h = omega (arith, before_next vs k u h)
