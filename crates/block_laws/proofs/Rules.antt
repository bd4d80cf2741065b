-- The schema rules on a block accept it just if its tree is valid, and refuse it for the first node in preorder that breaks them.
-- Assumes nothing.
use Rattle.rules.specs.declared.refusal.Refusal.{Refusal}
use Rattle.std.specs.Prelude.{⊤}
use Rattle.std.proofs.Common.{Result, Ok}
use Prim.Native.Nat.{ℕ, zero, suc, ◌+◌, ◌-◌, ◌<◌}
use mathlib.Core.Path.{◌≡◌, refl, sym, ap}
use mathlib.Core.List.{List, [], ◌∷◌, ◌++◌}
use mathlib.Core.Logic.{◌↔◌}
use native.Mathlib.Omega.{arith}
use borrow.Author.Tests.{leb-true, eqb-true, le-leb, eq-eqb}
use Rattle.rules.specs.Choice.{pick}
use Rattle.rules.specs.Wire.{form, written_if, type_of, type_in, wire_types, maximum}
use Rattle.rules.specs.Refusals.{◌then◌, in_order}
use Rattle.rules.specs.Schema.{Schema, count, Allows, Valid, valid, ValidAll, no_schemas, a_schema}
use Rattle.rules.specs.Block.{node_at, name_in, trees_from, tree_at}
use Rattle.rules.specs.SchemaRules.{node_rule, rule_at, schema_rule, first_of, listed, preorder}
use Rattle.rules.specs.declared.table_record.Node.{Node}
use Rattle.rules.specs.declared.wire_type.Children.{Children}
use Rattle.rules.specs.declared.wire_type.Children.TheVariants.{Zero, UpTo, Any, Unknown}
use Rattle.rules.proofs.Checks.{refused_not, then_both, then_assoc, pick_accepted}
use Rattle.block_laws.proofs.Levels.{Shallow}

-- one level
pub schema_rule_suc : (s : List ℕ) (base d i : ℕ) → (d ≡ 0 → ⊥) → schema_rule s base d i ≡ node_rule (base + i) (node_at s i) (maximum (form (node_at s i).code)) then in_order (schema_rule s base (d - 1)) (node_at s i).first (node_at s i).children
unfolding schema_rule rule_at
schema_rule_suc s base zero i h = absurd (h refl)
schema_rule_suc s base (suc d) i h = let e : suc d - 1 ≡ d = omega arith in rw e

pub node_allows : (place : ℕ) (n : Node) (k : Children) → node_rule place n k ≡ Ok tt → Allows k n.children
unfolding node_rule Allows
node_allows place n Zero e = eqb-true _ _ (pick_accepted _ _ _ e).0
node_allows place n (UpTo most) e = leb-true _ _ (pick_accepted _ _ _ e).0
node_allows place n Any e = tt
node_allows place n Unknown e = refused_not _ e

pub allows_node : (place : ℕ) (n : Node) (k : Children) → Allows k n.children → node_rule place n k ≡ Ok tt
unfolding node_rule Allows pick
allows_node place n Zero a = rw (eq-eqb _ _ a)
allows_node place n (UpTo most) a = rw (le-leb _ _ a)
allows_node place n Any a = refl
allows_node place n Unknown a = absurd a

pub count_trees : (tree : ℕ → Schema) (i n : ℕ) → count (trees_from tree i n) ≡ n
unfolding count trees_from
count_trees tree i zero = refl
count_trees tree i (suc n) = ap suc (count_trees tree (i + 1) n)

module _ (s store : List ℕ) (base : ℕ) where
  pub sound : (d i : ℕ) → schema_rule s base d i ≡ Ok tt → Valid (tree_at s store d i)
  unfolding schema_rule rule_at tree_at trees_from in_order
  sound zero i e = absurd (refused_not _ e)
  sound (suc d) i e =
      let p = then_both _ _ e in
      valid {k = (node_at s i).code} {m = name_in store (node_at s i)} {ss = trees_from (tree_at s store d) (node_at s i).first (node_at s i).children} (rw (count_trees (tree_at s store d) (node_at s i).first (node_at s i).children) (node_allows _ _ _ p.0)) (all (sound d) (node_at s i).first (node_at s i).children p.1)
    where
      all : ((i : ℕ) → schema_rule s base d i ≡ Ok tt → Valid (tree_at s store d i)) → (j n : ℕ) → in_order (schema_rule s base d) j n ≡ Ok tt → ValidAll (trees_from (tree_at s store d) j n)
      all ok j zero e = no_schemas
      all ok j (suc n) e = let q = then_both _ _ e in a_schema (ok j q.0) (all ok (j + 1) n q.1)

  pub complete : (d i : ℕ) → Valid (tree_at s store d i) → schema_rule s base d i ≡ Ok tt
  unfolding schema_rule rule_at tree_at trees_from in_order ◌then◌ Allows maximum form written_if type_of type_in wire_types
  complete zero i (valid a v) = absurd a
  complete (suc d) i (valid a v) = rw (allows_node (base + i) (node_at s i) _ (rw (count_trees (tree_at s store d) (node_at s i).first (node_at s i).children) at a)) (all (complete d) (node_at s i).first (node_at s i).children v)
    where
      all : ((i : ℕ) → Valid (tree_at s store d i) → schema_rule s base d i ≡ Ok tt) → (j n : ℕ) → ValidAll (trees_from (tree_at s store d) j n) → in_order (schema_rule s base d) j n ≡ Ok tt
      all ok j zero v = refl
      all ok j (suc n) (a_schema x y) = rw (ok j x) (all ok (j + 1) n y)

  -- no refusal, just if the tree is valid
  pub accepted : (d i : ℕ) → (schema_rule s base d i ≡ Ok tt) ↔ Valid (tree_at s store d i)
  accepted d i = (sound d i, complete d i)

-- ---- the first refusal in preorder
first_append : (rule : ℕ → Result ⊤ Refusal) (xs ys : List ℕ) → first_of rule (xs ++ ys) ≡ first_of rule xs then first_of rule ys
unfolding first_of ◌then◌
first_append rule [] ys = refl
first_append rule (x ∷ xs) ys = rw (first_append rule xs ys) (sym (then_assoc (rule x) (first_of rule xs) (first_of rule ys)))

pub first_refusal : (s : List ℕ) (base d i : ℕ) → Shallow s d i → schema_rule s base d i ≡ first_of (rule_at s base) (preorder s d i)
unfolding schema_rule first_of preorder Shallow in_order listed
first_refusal s base zero i h = absurd h
first_refusal s base (suc d) i h = rw (all (node_at s i).first (node_at s i).children (λ t b. first_refusal s base d ((node_at s i).first + t) (h t b)))
  where
    all : (j n : ℕ) → ((t : ℕ) → t < n → schema_rule s base d (j + t) ≡ first_of (rule_at s base) (preorder s d (j + t))) → in_order (schema_rule s base d) j n ≡ first_of (rule_at s base) (listed (preorder s d) j n)
    all j zero f = refl
    all j (suc n) f =
        let z : j + 0 ≡ j = omega arith in
        let a : schema_rule s base d j ≡ first_of (rule_at s base) (preorder s d j) = rw z at (f 0 (omega arith)) in
        let b = all (j + 1) n (λ t l. let e : j + suc t ≡ (j + 1) + t = omega arith in rw e at (f (suc t) (omega arith))) in
        rw (a, b) (sym (first_append (rule_at s base) (preorder s d j) (listed (preorder s d) (j + 1) n)))
