-- The nodes of a value in preorder, and the records of its table: node i is what record i is the head of.
-- Assumes nothing.
use Prim.Native.Nat.{ℕ, zero, suc, ◌+◌, ◌^◌, ◌≤◌, ◌<◌}
use mathlib.Core.Path.{◌≡◌, refl}
use mathlib.Core.List.{List, [], ◌∷◌, ◌++◌}
use mathlib.Core.Logic.{◌⊎◌, inl, inr, ⊎_elim}
use native.Mathlib.Omega.{arith}
use native.Mathlib.Nat.{add-zero}
use lib.ListN.{length, length-append}
use Rattle.rules.specs.Value.{Value, nothing, boolean, number, wide, blob, variant, repeated, tuple, Items, done, item, Values, none, more, Fits, FitsI, FitsV, tally, tally_i, tally_v, records_of, payload_of}
use Rattle.rules.specs.ValueTable.{below, below_i, below_v, heads}
use Rattle.rules.specs.Preorder.{ValueNode, value_node, nodes_below, nodes_below_i, nodes_below_v, value_preorder, NodeIs}
use Rattle.value_laws.proofs.Records.{Shows, shows_left, shows_right}
use Rattle.value_laws.proofs.Sizes.{length-heads}

-- ---- lists of nodes

-- a node of two lists one after the other is in the first or in the second
pub node_split : (xs ys : List ValueNode) (j : ℕ) (n : ValueNode) → NodeIs (xs ++ ys) j n → NodeIs xs j n ⊎ ((k : ℕ) × ((j ≡ length xs + k) × NodeIs ys k n))
unfolding NodeIs
node_split [] ys j n h = inr (j, (omega arith, h))
node_split (x ∷ xs) ys zero n h = inl h
node_split (x ∷ xs) ys (suc j) n h = ⊎_elim (λ a. inl a) (λ b. inr (b.0, (omega (arith, b.1.0), b.1.1))) (node_split xs ys j n h)

-- and the other way round
pub node_left : (xs ys : List ValueNode) (j : ℕ) (n : ValueNode) → NodeIs xs j n → NodeIs (xs ++ ys) j n
unfolding NodeIs
node_left [] ys j n h = absurd h
node_left (x ∷ xs) ys zero n h = h
node_left (x ∷ xs) ys (suc j) n h = node_left xs ys j n h

pub node_right : (xs ys : List ValueNode) (k : ℕ) (n : ValueNode) → NodeIs ys k n → NodeIs (xs ++ ys) (length xs + k) n
unfolding NodeIs
node_right [] ys k n h = let e : 0 + k ≡ k = omega arith in rw e h
node_right (x ∷ xs) ys k n h = let e : suc (length xs) + k ≡ suc (length xs + k) = omega arith in rw e (node_right xs ys k n h)

-- each number below the length has a node
pub some_node : (ns : List ValueNode) (i : ℕ) → i < length ns → (n : ValueNode) × NodeIs ns i n
unfolding NodeIs
some_node [] i l = absurd (omega arith)
some_node (m ∷ ms) zero l = (m, refl)
some_node (m ∷ ms) (suc i) l = some_node ms i (omega arith)

pub no_node : {A : Type 0} (j : ℕ) (n : ValueNode) → NodeIs [] j n → A
unfolding NodeIs
no_node j n h = absurd h

-- ---- as many as records

mutual
  unfolding nodes_below records_of tally

  length-nodes : (v : Value) (p d : ℕ) → 1 + length (nodes_below v p d) ≡ records_of v
  length-nodes nothing p d = refl
  length-nodes (boolean x) p d = refl
  length-nodes (number k x) p d = refl
  length-nodes (wide k x) p d = omega arith
  length-nodes (blob k x) p d = omega arith
  length-nodes (variant t v) p d = omega (arith, length-nodes v p (suc d))
  length-nodes (repeated is) p d = omega (arith, length_nodes_i is p d)
  length-nodes (tuple vs) p d = omega (arith, length_nodes_v vs p d)

  length_nodes_i : (is : Items) (p d : ℕ) → length (nodes_below_i is p d) ≡ tally_i is 1 0 0
  length_nodes_i done p d = refl
  length_nodes_i (item t v is) p d = simp length-append (omega (arith, length-nodes v p (suc d), length_nodes_i is (p + payload_of v) d))

  length_nodes_v : (vs : Values) (p d : ℕ) → length (nodes_below_v vs p d) ≡ tally_v vs 1 0 0
  length_nodes_v none p d = refl
  length_nodes_v (more v vs) p d = simp length-append (omega (arith, length-nodes v p (suc d), length_nodes_v vs (p + payload_of v) d))

-- a node and those below it are as many as its records
pub length-value_node : (v : Value) (tag p d : ℕ) → length (value_node v tag p d ∷ nodes_below v p (suc d)) ≡ records_of v
length-value_node v tag p d = omega (arith, length-nodes v p (suc d))

pub length-all : (v : Value) → length (value_preorder v) ≡ records_of v
unfolding value_preorder
length-all v = length-value_node v 0 0 1

-- ---- a node's records stand where it counts

-- from record i on stand the records of a node, which ends within so many payload bytes
pub record Grown (table : List ℕ) (most i : ℕ) (n : ValueNode) : Type 0 where
  pub rows : Shows table i (heads n.value n.tag n.before)
  pub fits : Fits n.value
  pub tag_fits : n.tag < 256 ^ 2
  pub ends : n.before + payload_of n.value ≤ most

module _ (table : List ℕ) (most : ℕ) where
  -- of a node and those below it, one
  pub at_node : (v : Value) (tag p d i : ℕ) → Grown table most i (value_node v tag p d) →
      ((j : ℕ) (n : ValueNode) → NodeIs (nodes_below v p (suc d)) j n → Grown table most ((i + 1) + j) n) →
      (j : ℕ) (n : ValueNode) → NodeIs (value_node v tag p d ∷ nodes_below v p (suc d)) j n → Grown table most (i + j) n
  unfolding NodeIs
  at_node v tag p d i g rec zero n h = rw (add-zero i, ← h) g
  at_node v tag p d i g rec (suc j) n h = let e : i + suc j ≡ (i + 1) + j = omega arith in rw e (rec j n h)

  -- of such a tree and the nodes after it, one
  two : (v : Value) (tag p d i : ℕ) → Grown table most i (value_node v tag p d) →
      ((j : ℕ) (n : ValueNode) → NodeIs (nodes_below v p (suc d)) j n → Grown table most ((i + 1) + j) n) →
      (rest : List ValueNode) → ((j : ℕ) (n : ValueNode) → NodeIs rest j n → Grown table most ((i + records_of v) + j) n) →
      (j : ℕ) (n : ValueNode) → NodeIs (value_node v tag p d ∷ (nodes_below v p (suc d) ++ rest)) j n → Grown table most (i + j) n
  two v tag p d i g rec rest after j n h =
      ⊎_elim (λ a. at_node v tag p d i g rec j n a)
      (λ (b : (k : ℕ) × ((j ≡ length (value_node v tag p d ∷ nodes_below v p (suc d)) + k) × NodeIs rest k n)).
      let e : i + j ≡ (i + records_of v) + b.0 = omega (arith, b.1.0, length-value_node v tag p d) in
      rw e (after b.0 n b.1.1))
      (node_split (value_node v tag p d ∷ nodes_below v p (suc d)) rest j n h)

  mutual
    unfolding Shows below heads Fits nodes_below payload_of tally

    pub below_grown : (v : Value) (p d i : ℕ) → Shows table i (below v p) → Fits v → p + payload_of v ≤ most → (j : ℕ) (n : ValueNode) → NodeIs (nodes_below v p d) j n → Grown table most (i + j) n
    below_grown nothing p d i s f l j n h = no_node j n h
    below_grown (boolean x) p d i s f l j n h = no_node j n h
    below_grown (number k x) p d i s f l j n h = no_node j n h
    below_grown (wide k x) p d i s f l j n h = no_node j n h
    below_grown (blob k x) p d i s f l j n h = no_node j n h
    below_grown (variant t v) p d i s f l j n h =
        at_node v t p d i (record { rows = s; fits = f.1; tag_fits = f.0; ends = omega arith })
        (λ k m z. below_grown v p (suc d) (i + 1) s.1 f.1 (omega arith) k m z) j n h
    below_grown (repeated is) p d i s f l j n h = below_i_grown is p d i s f (omega arith) j n h
    below_grown (tuple vs) p d i s f l j n h = below_v_grown vs p d i s f (omega arith) j n h

    below_i_grown : (is : Items) (p d i : ℕ) → Shows table i (below_i is p) → FitsI is → p + tally_i is 0 1 1 ≤ most → (j : ℕ) (n : ValueNode) → NodeIs (nodes_below_i is p d) j n → Grown table most (i + j) n
    below_i_grown done p d i s f l j n h = no_node j n h
    below_i_grown (item t v is) p d i s f l j n h =
        let a : Shows table i (heads v t p) = shows_left table i (heads v t p) (below_i is (p + payload_of v)) s in
        let b : Shows table (i + records_of v) (below_i is (p + payload_of v)) = rw (length-heads v t p) at (shows_right table i (heads v t p) (below_i is (p + payload_of v)) s) in
        two v t p d i (record { rows = a; fits = f.1.0; tag_fits = f.0; ends = omega arith })
        (λ k m z. below_grown v p (suc d) (i + 1) a.1 f.1.0 (omega arith) k m z)
        (nodes_below_i is (p + payload_of v) d)
        (λ k m z. below_i_grown is (p + payload_of v) d (i + records_of v) b f.1.1 (omega arith) k m z) j n h

    below_v_grown : (vs : Values) (p d i : ℕ) → Shows table i (below_v vs p) → FitsV vs → p + tally_v vs 0 1 1 ≤ most → (j : ℕ) (n : ValueNode) → NodeIs (nodes_below_v vs p d) j n → Grown table most (i + j) n
    below_v_grown none p d i s f l j n h = no_node j n h
    below_v_grown (more v vs) p d i s f l j n h =
        let a : Shows table i (heads v 0 p) = shows_left table i (heads v 0 p) (below_v vs (p + payload_of v)) s in
        let b : Shows table (i + records_of v) (below_v vs (p + payload_of v)) = rw (length-heads v 0 p) at (shows_right table i (heads v 0 p) (below_v vs (p + payload_of v)) s) in
        two v 0 p d i (record { rows = a; fits = f.0; tag_fits = omega arith; ends = omega arith })
        (λ k m z. below_grown v p (suc d) (i + 1) a.1 f.0 (omega arith) k m z)
        (nodes_below_v vs (p + payload_of v) d)
        (λ k m z. below_v_grown vs (p + payload_of v) d (i + records_of v) b f.1 (omega arith) k m z) j n h
