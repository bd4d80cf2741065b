-- One block of the record table by itself: what the check of a schema and the encoder's check accept.
-- Assumes nothing.
use Rattle.std.proofs.Common.{Ok}
use Prim.Native.Nat.{ℕ, ◌+◌, ◌≤◌}
use mathlib.Core.Path.{◌≡◌, refl}
use mathlib.Core.Bool.{true}
use mathlib.Core.List.{List}
use mathlib.Core.Logic.{◌↔◌}
use borrow.Author.Tests.{leb-true, eqb-true, le-leb, eq-eqb}
use lib.ListN.{length}
use Rattle.rules.specs.Refusals.{◌then◌}
use Rattle.rules.specs.Schema.{Name, unnamed, named, deep, Valid, TableRoot}
use Rattle.rules.specs.Block.{records, block, Formed, is_name_utf8, NameUtf8, names_utf8, NamesUtf8, tree_at, block_tree, Ordered}
use Rattle.rules.specs.SchemaRules.{table_rule}
use Rattle.rules.specs.Good.{GoodBlock, GoodSchema, GoodTable}
use Rattle.rules.specs.Format.{block_form_ok, block_depth_ok, block_utf8, block_rule, one_block, schema_answer, encoder_rules, encoder_rule}
use Rattle.rules.specs.declared.answer.Purpose.{Purpose}
use Rattle.rules.proofs.Tests.{and_both, and_true, all_each, all_true}
use Rattle.rules.proofs.Checks.{then_both, pick_accepted}
use Rattle.block_laws.proofs.Turns.{then_accepted, accepted_pick, pick_then, Passes, in_turn}
use Rattle.block_laws.proofs.Form.{formed}
use Rattle.block_laws.proofs.Utf8.{utf8_exactly}
use Rattle.block_laws.proofs.Levels.{block_denotes}
use Rattle.block_laws.proofs.Trees.{denotes_tree, same_depth}
use Rattle.block_laws.proofs.Rules.{accepted}
use Rattle.block_laws.proofs.Roots.{table_accepts}

-- A formed block lies in the record table and has the form of a schema.
pub record FormedBlock (table names : List ℕ) (first n : ℕ) : Type 0 where
  pub inside : first + n ≤ records table
  pub formed : Formed (block table first n) (length names)

-- ---- the tree of a block that is not too deep
pub tree_within : (s store : List ℕ) → Ordered s → deep (block_tree s store) ≤ 64 → tree_at s store 64 0 ≡ block_tree s store
tree_within s store o h = denotes_tree s store (block_denotes s store o) 64 h

-- ---- a name that is there or not
pub name_accepts : (m : Name) → (is_name_utf8 m ≡ true) ↔ NameUtf8 m
unfolding is_name_utf8 NameUtf8
name_accepts unnamed = (λ e. tt, λ u. refl)
name_accepts (named s) = utf8_exactly s

module _ (table names : List ℕ) (first n : ℕ) where
  -- A block passes the test of its form just if it is formed,
  pub form_accepts : (block_form_ok table (length names) first n ≡ true) ↔ FormedBlock table names first n
  unfolding block_form_ok
  form_accepts = (
    λ e. let a = and_both _ _ e in record { inside = leb-true _ _ a.0; formed = (formed _ _).0 a.1 },
    λ g. and_true _ _ (le-leb _ _ g.inside) ((formed _ _).1 g.formed),
  )

  -- the test of its depth just if its schema is at most 64 deep,
  pub depth_accepts : (block_depth_ok table first n ≡ true) ↔ (deep (block_tree (block table first n) names) ≤ 64)
  unfolding block_depth_ok
  depth_accepts = rw (same_depth (block table first n) names) (leb-true _ _, le-leb _ _)

  -- the test of its names just if each of them is well-formed UTF-8,
  pub names_accept : (block_utf8 table names first n ≡ true) ↔ NamesUtf8 (block table first n) names
  unfolding block_utf8 names_utf8
  names_accept = (λ e i h. (name_accepts _).0 (all_each _ _ i e h), λ g. all_true _ _ (λ i h. (name_accepts _).1 (g i h)))

  -- and then the schema rules just if its schema is valid.
  pub rule_accepts : FormedBlock table names first n → deep (block_tree (block table first n) names) ≤ 64 → (block_rule table first n ≡ Ok tt) ↔ Valid (block_tree (block table first n) names)
  unfolding block_rule
  rule_accepts g d = rw (← tree_within (block table first n) names g.formed.order d) (accepted (block table first n) names first 64 0)

  -- So it passes all four just if it is good.
  pub passes : Passes (block_form_ok table (length names) first n) (block_depth_ok table first n) (block_utf8 table names first n) (block_rule table first n) ↔ GoodBlock table names first n
  passes = (
    λ p.
        let f = form_accepts.0 p.form_ok in
        let d = depth_accepts.0 p.depth_ok in
        record { inside = f.inside; formed = f.formed; depth = d; utf8 = names_accept.0 p.names_ok; valid = (rule_accepts f d).0 p.rules_ok },
    λ g.
        let f : FormedBlock table names first n = record { inside = g.inside; formed = g.formed } in
        record { form_ok = form_accepts.1 f; depth_ok = depth_accepts.1 g.depth; names_ok = names_accept.1 g.utf8; rules_ok = (rule_accepts f g.depth).1 g.valid },
  )

  -- A good block's root and names are accepted just if its schema is fit for a table.
  pub root_accepts : (purpose : Purpose) → GoodBlock table names first n → (table_rule purpose (block table first n) first ≡ Ok tt) ↔ TableRoot (block_tree (block table first n) names)
  root_accepts purpose g = table_accepts (block table first n) names first (block_denotes (block table first n) names g.formed.order) purpose

  -- The check of a schema accepts just the good ones.
  pub schema_accepts : (schema_answer table names first n ≡ Ok tt) ↔ GoodSchema table names first n
  unfolding schema_answer one_block
  schema_accepts = (
    λ e.
        let a = pick_accepted _ _ _ e in
        let s = and_both _ _ a.0 in
        let p = (in_turn _ _ _ _ _ _ _).0 a.1 in
        let w = and_both _ _ p.form_ok in
        record {
          table_size = leb-true _ _ s.0;
          names_size = leb-true _ _ s.1;
          whole = eqb-true _ _ w.0;
          good = passes.0 (record { form_ok = w.1; depth_ok = p.depth_ok; names_ok = p.names_ok; rules_ok = p.rules_ok });
        },
    λ g.
        let p = passes.1 g.good in
        accepted_pick _ _ _ (and_true _ _ (le-leb _ _ g.table_size) (le-leb _ _ g.names_size))
        ((in_turn _ _ _ _ _ _ _).1 (record { form_ok = and_true _ _ (eq-eqb _ _ g.whole) p.form_ok; depth_ok = p.depth_ok; names_ok = p.names_ok; rules_ok = p.rules_ok })),
  )

  -- The encoder's check is the check of the schema, and then of root and names.
  pub encoder_is : encoder_rule table names first n ≡ schema_answer table names first n then table_rule Purpose.Encoder (block table first n) first
  unfolding encoder_rule encoder_rules schema_answer one_block
  encoder_is = simp pick_then

  -- The encoder's check accepts just the good schemas that are fit for a table.
  pub encoder_accepts : (encoder_rule table names first n ≡ Ok tt) ↔ GoodTable table names first n
  encoder_accepts = rw encoder_is (
    λ e.
        let p = then_both _ _ e in
        let g = schema_accepts.0 p.0 in
        record { schema = g; root = (root_accepts Purpose.Encoder g.good).0 p.1 },
    λ g. then_accepted _ _ (schema_accepts.1 g.schema) ((root_accepts Purpose.Encoder g.schema.good).1 g.root),
  )
