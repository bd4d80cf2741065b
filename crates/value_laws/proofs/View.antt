-- In the table of a value the steps of the row view answer what the tree says.
-- Assumes nothing.
use Rattle.rules.specs.declared.refusal.Refusal.{Refusal}
use Rattle.std.proofs.Common.{Result, Ok, Err}
use Prim.Native.Nat.{ℕ, zero, suc, ◌+◌, ◌-◌, ◌≤◌, ◌<◌}
use mathlib.Core.Path.{◌≡◌, refl, sym, ap, ◌∙◌}
use mathlib.Core.List.{List, ◌++◌}
use native.Mathlib.Omega.{arith}
use native.Mathlib.Nat.{add-zero}
use borrow.Author.Tests.{lt-ltb, le-leb}
use lib.ListN.{length, length-append}
use Rattle.rules.specs.Choice.{pick, ◌and◌}
use Rattle.rules.specs.Value.{Value, nothing, boolean, number, wide, blob, variant, repeated, tuple, Items, done, item, Values, none, more, items, values, Fits, FitsI, FitsV, tally, tally_i, tally_v, records_of, payload_of}
use Rattle.rules.specs.ValueRecord.{value_records_in}
use Rattle.rules.specs.ValueTable.{value_kind, size_of, head_of, below, below_i, below_v, heads, TableOf}
use Rattle.rules.specs.Query.{record_there, record_good}
use Rattle.rules.specs.View.{past_trees, records_from, after_seen, after_rule, if_there, has_field, field_rule}
use Rattle.rules.specs.Preorder.{ValueNode, value_node, value_preorder, NodeIs, FieldIs, nodes_before, value_children}
use Rattle.value_laws.proofs.Records.{Shows, shows_left, shows_right, shows_end}
use Rattle.value_laws.proofs.Sizes.{length-heads, one_record}
use Rattle.value_laws.proofs.Nodes.{Grown}
use Rattle.value_laws.proofs.Query.{head_alone, head_children, reads_head, table_whole, node_grown, node_seen}
use Rattle.value_laws.proofs.Steps.{past_none, past_record}
use Rattle.value_laws.proofs.Subtrees.{field_node, before_next}

-- ---- past the trees of nodes whose records stand

module _ (table : List ℕ) (most : ℕ) (short : length table ≤ 4294967295) (small : most ≤ 4294967295) where
  -- past a node's own record, with its children left
  past_head : (left trees i : ℕ) (n : ValueNode) → Grown table most i n → past_trees table (suc left) (suc trees) i ≡ past_trees table left (trees + value_children n.value) (i + 1)
  past_head left trees i n g =
      let e = reads_head table most short small i n g in
      rw (← (head_children n.value n.tag n.before g.fits), ← e) (past_record table left trees i (rw e (head_alone n.value n.tag n.before g.fits)))

  -- past the records below a node, which are its children's trees
  abbrev Passes : Value → ℕ → ℕ → Type 0
  Passes v p i = (left trees : ℕ) → past_trees table (left + length (below v p)) (trees + value_children v) i ≡ past_trees table left trees (i + length (below v p))

  -- past a tree
  past_tree : (v : Value) (tag p d i : ℕ) → Grown table most i (value_node v tag p d) → Passes v p (i + 1) → (left trees : ℕ) → past_trees table (left + records_of v) (suc trees) i ≡ past_trees table left trees (i + records_of v)
  unfolding heads
  past_tree v tag p d i g rec left trees =
      let l : suc (length (below v p)) ≡ records_of v = length-heads v tag p in
      let a : left + records_of v ≡ suc (left + length (below v p)) = omega (arith, l) in
      let b : (i + 1) + length (below v p) ≡ i + records_of v = omega (arith, l) in
      rw a (past_head (left + length (below v p)) trees i (value_node v tag p d) g ∙ rec left trees ∙ rw b)

  -- past a tree and the trees after it
  past_more : (v : Value) (tag p d i l n : ℕ) → Grown table most i (value_node v tag p d) → Passes v p (i + 1) →
      ((left trees : ℕ) → past_trees table (left + l) (trees + n) (i + records_of v) ≡ past_trees table left trees ((i + records_of v) + l)) →
      (left trees : ℕ) → past_trees table (left + (records_of v + l)) (trees + suc n) i ≡ past_trees table left trees (i + (records_of v + l))
  past_more v tag p d i l n g rec after left trees =
      let a : left + (records_of v + l) ≡ (left + l) + records_of v = omega arith in
      let b : trees + suc n ≡ suc (trees + n) = omega arith in
      let c : (i + records_of v) + l ≡ i + (records_of v + l) = omega arith in
      rw (a, b) (past_tree v tag p d i g rec (left + l) (trees + n) ∙ after left trees ∙ rw c)

  here : (left trees i : ℕ) → past_trees table (left + 0) (trees + 0) i ≡ past_trees table left trees (i + 0)
  here left trees i = rw (add-zero left, add-zero trees, add-zero i)

  mutual
    unfolding Shows below heads Fits payload_of tally value_children items values

    past_below : (v : Value) (p i : ℕ) → Shows table i (below v p) → Fits v → p + payload_of v ≤ most → (left trees : ℕ) →
        past_trees table (left + length (below v p)) (trees + value_children v) i ≡ past_trees table left trees (i + length (below v p))
    past_below nothing p i s f l left trees = here left trees i
    past_below (boolean x) p i s f l left trees = here left trees i
    past_below (number k x) p i s f l left trees = here left trees i
    past_below (wide k x) p i s f l left trees = here left trees i
    past_below (blob k x) p i s f l left trees = here left trees i
    past_below (variant t v) p i s f l left trees =
        let e : suc (length (below v p)) ≡ records_of v = length-heads v t p in
        let a : trees + 1 ≡ suc trees = omega arith in
        rw (e, a) (past_tree v t p 0 i (record { rows = s; fits = f.1; tag_fits = f.0; ends = omega arith })
        (λ x y. past_below v p (i + 1) s.1 f.1 (omega arith) x y) left trees)
    past_below (repeated is) p i s f l left trees = past_below_i is p i s f (omega arith) left trees
    past_below (tuple vs) p i s f l left trees = past_below_v vs p i s f (omega arith) left trees

    past_below_i : (is : Items) (p i : ℕ) → Shows table i (below_i is p) → FitsI is → p + tally_i is 0 1 1 ≤ most → (left trees : ℕ) →
        past_trees table (left + length (below_i is p)) (trees + items is) i ≡ past_trees table left trees (i + length (below_i is p))
    past_below_i done p i s f l left trees = here left trees i
    past_below_i (item t v is) p i s f l left trees =
        let a : Shows table i (heads v t p) = shows_left table i (heads v t p) (below_i is (p + payload_of v)) s in
        let b : Shows table (i + records_of v) (below_i is (p + payload_of v)) = rw (length-heads v t p) at (shows_right table i (heads v t p) (below_i is (p + payload_of v)) s) in
        let e : length (heads v t p ++ below_i is (p + payload_of v)) ≡ records_of v + length (below_i is (p + payload_of v)) = length-append (heads v t p) (below_i is (p + payload_of v)) ∙ rw (length-heads v t p) in
        rw e (past_more v t p 0 i (length (below_i is (p + payload_of v))) (items is) (record { rows = a; fits = f.1.0; tag_fits = f.0; ends = omega arith })
        (λ x y. past_below v p (i + 1) a.1 f.1.0 (omega arith) x y)
        (λ x y. past_below_i is (p + payload_of v) (i + records_of v) b f.1.1 (omega arith) x y) left trees)

    past_below_v : (vs : Values) (p i : ℕ) → Shows table i (below_v vs p) → FitsV vs → p + tally_v vs 0 1 1 ≤ most → (left trees : ℕ) →
        past_trees table (left + length (below_v vs p)) (trees + values vs) i ≡ past_trees table left trees (i + length (below_v vs p))
    past_below_v none p i s f l left trees = here left trees i
    past_below_v (more v vs) p i s f l left trees =
        let a : Shows table i (heads v 0 p) = shows_left table i (heads v 0 p) (below_v vs (p + payload_of v)) s in
        let b : Shows table (i + records_of v) (below_v vs (p + payload_of v)) = rw (length-heads v 0 p) at (shows_right table i (heads v 0 p) (below_v vs (p + payload_of v)) s) in
        let e : length (heads v 0 p ++ below_v vs (p + payload_of v)) ≡ records_of v + length (below_v vs (p + payload_of v)) = length-append (heads v 0 p) (below_v vs (p + payload_of v)) ∙ rw (length-heads v 0 p) in
        rw e (past_more v 0 p 0 i (length (below_v vs (p + payload_of v))) (values vs) (record { rows = a; fits = f.0; tag_fits = omega arith; ends = omega arith })
        (λ x y. past_below v p (i + 1) a.1 f.0 (omega arith) x y)
        (λ x y. past_below_v vs (p + payload_of v) (i + records_of v) b f.1 (omega arith) x y) left trees)

  -- past a node's whole tree
  pub past_node : (i : ℕ) (n : ValueNode) → Grown table most i n → (left trees : ℕ) → past_trees table (left + records_of n.value) (suc trees) i ≡ past_trees table left trees (i + records_of n.value)
  unfolding Shows heads
  past_node i n g = past_tree n.value n.tag n.before n.depth i g (past_below n.value n.before (i + 1) g.rows.1 g.fits g.ends)

  -- past the first k fields
  pub past_fields : (vs : Values) (k p i : ℕ) → Shows table i (below_v vs p) → FitsV vs → p + tally_v vs 0 1 1 ≤ most → k ≤ values vs → (left : ℕ) →
      past_trees table (left + nodes_before vs k) k i ≡ Ok (i + nodes_before vs k)
  unfolding below_v FitsV tally_v payload_of values nodes_before heads
  past_fields none zero p i s f l m left = rw (add-zero i) (past_none table (left + 0) i)
  past_fields none (suc k) p i s f l m left = absurd (omega arith)
  past_fields (more v vs) zero p i s f l m left = rw (add-zero i) (past_none table (left + 0) i)
  past_fields (more v vs) (suc k) p i s f l m left =
      let a : Shows table i (heads v 0 p) = shows_left table i (heads v 0 p) (below_v vs (p + payload_of v)) s in
      let b : Shows table (i + records_of v) (below_v vs (p + payload_of v)) = rw (length-heads v 0 p) at (shows_right table i (heads v 0 p) (below_v vs (p + payload_of v)) s) in
      let e : left + (records_of v + nodes_before vs k) ≡ (left + nodes_before vs k) + records_of v = omega arith in
      let c : (i + records_of v) + nodes_before vs k ≡ i + (records_of v + nodes_before vs k) = omega arith in
      rw e (past_node i (value_node v 0 p 0) (record { rows = a; fits = f.0; tag_fits = omega arith; ends = omega arith }) (left + nodes_before vs k) k
      ∙ past_fields vs k (p + payload_of v) (i + records_of v) b f.1 (omega arith) (omega arith) left ∙ rw c)

-- a field begins before the last node below its tuple
before_within : (vs : Values) (k : ℕ) → k < values vs → nodes_before vs k < tally_v vs 1 0 0
unfolding values nodes_before tally_v records_of
before_within none k l = absurd (omega arith)
before_within (more v vs) zero l = omega (arith, one_record v)
before_within (more v vs) (suc k) l = omega (arith, before_within vs k (omega arith))

field_counts : (vs : Values) (k : ℕ) (u : Value) → FieldIs vs k u → k < values vs
unfolding FieldIs values
field_counts none k u h = absurd h
field_counts (more v vs) zero u h = omega arith
field_counts (more v vs) (suc k) u h = omega (arith, field_counts vs k u h)

some_field : (vs : Values) (k : ℕ) → k < values vs → (u : Value) × FieldIs vs k u
unfolding FieldIs values
some_field none k l = absurd (omega arith)
some_field (more v vs) zero l = (v, refl)
some_field (more v vs) (suc k) l = some_field vs k (omega arith)

-- the number that a getter answers is one
same_number : (a b : ℕ) → ◌≡◌ {A = Result ℕ Refusal} (Ok a) (Ok b) → a ≡ b
same_number a b e = ap told e
  where
    told : Result ℕ Refusal → ℕ
    told (Ok n) = n
    told (Err r) = 0

-- ---- the table of a value

module _ (v : Value) (table store : List ℕ) (is : TableOf v table store) (short : length table ≤ 4294967295) (small : length store ≤ 4294967295) where
  module _ (i : ℕ) (n : ValueNode) (h : NodeIs (value_preorder v) i n) where
    grown : Grown table (length store) i n
    grown = node_grown v table store is short small i n h

    -- its tree lies in the table
    tree_in : i + records_of n.value ≤ value_records_in (length table)
    unfolding heads
    tree_in = omega (arith, shows_end table i _ _ grown.rows, length-heads n.value n.tag n.before)

    -- The record behind node i's tree is that many nodes on.
    pub after_says : after_rule table i ≡ Ok (i + records_of n.value)
    unfolding after_rule after_seen
    after_says =
        let e : records_from table i ≡ (value_records_in (length table) - (i + records_of n.value)) + records_of n.value = omega (arith, tree_in) in
        rw (node_seen v table store is short small i n h, e)
        (past_node table (length store) short small i n grown (value_records_in (length table) - (i + records_of n.value)) 0 ∙ past_none table _ _)

    module _ (vs : Values) (t : n.value ≡ tuple vs) (k : ℕ) where
      -- Field k of node i, a tuple, is past node i and the nodes of the fields before it.
      pub field_says : k < values vs → field_rule table i k ≡ Ok ((i + 1) + nodes_before vs k)
      unfolding field_rule record_there record_good has_field if_there head_of value_kind size_of Shows heads below Fits payload_of tally records_of pick ◌and◌
      field_says l =
          let g : Grown table (length store) i n = grown in
          let r = reads_head table (length store) short small i n g in
          let rows : Shows table (i + 1) (below_v vs n.before) = rw t at g.rows.1 in
          let fits : FitsV vs = rw t at g.fits in
          let ends : n.before + (0 + tally_v vs 0 1 1) ≤ length store = rw t at g.ends in
          let in_table : i + (1 + tally_v vs 1 0 0) ≤ value_records_in (length table) = rw t at tree_in in
          let w = before_within vs k l in
          let e : records_from table (i + 1) ≡ (value_records_in (length table) - ((i + 1) + nodes_before vs k)) + nodes_before vs k = omega (arith, in_table, w) in
          rw (
            le-leb (length table) 4294967295 short,
            lt-ltb i (value_records_in (length table)) (omega (arith, in_table)),
            table_whole v table store is short small,
            r,
            head_alone n.value n.tag n.before g.fits,
            t,
            lt-ltb k (values vs) l,
            e,
            past_fields table (length store) short small vs k n.before (i + 1) rows fits (omega (arith, ends)) (omega arith) (value_records_in (length table) - ((i + 1) + nodes_before vs k)),
            lt-ltb ((i + 1) + nodes_before vs k) (value_records_in (length table)) (omega (arith, in_table, w)),
          )

      -- There stands node k of the tuple,
      pub field_is : (u : Value) → FieldIs vs k u → (m : ℕ) × ((c : ValueNode) × ((field_rule table i k ≡ Ok m) × (NodeIs (value_preorder v) m c × (c.value ≡ u))))
      field_is u f = let c = field_node v i n vs k u h t f in ((i + 1) + nodes_before vs k, (c.0, (field_says (field_counts vs k u f), c.1)))

  -- and the next field is behind it.
  pub next_field : (i : ℕ) (n : ValueNode) (h : NodeIs (value_preorder v) i n) (vs : Values) → n.value ≡ tuple vs → (k m : ℕ) → suc k < values vs → field_rule table i k ≡ Ok m → field_rule table i (suc k) ≡ after_rule table m
  next_field i n h vs t k m l e =
      let q = some_field vs k (omega arith) in
      let c = field_node v i n vs k q.0 h t q.1 in
      let z : (i + 1) + nodes_before vs k ≡ m = same_number _ _ (sym (field_says i n h vs t k (omega arith)) ∙ e) in
      let y : (i + 1) + nodes_before vs (suc k) ≡ m + records_of c.0.value = rw c.1.1 (omega (arith, z, before_next vs k q.0 q.1)) in
      rw (field_says i n h vs t (suc k) l, y, after_says m c.0 (rw z at c.1.0))
