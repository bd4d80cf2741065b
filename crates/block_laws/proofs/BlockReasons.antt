-- What the refusals of one block by itself say is so: of the check of a schema, and of the encoder's.
-- Assumes nothing.
use Rattle.std.specs.Prelude.{⊤}
use Rattle.std.proofs.Common.{Result, Ok, Err}
use Prim.Native.Nat.{ℕ, zero, suc, ◌+◌, ◌-◌, ◌%◌, ◌≤◌, ◌<◌, max}
use mathlib.Core.Path.{◌≡◌, refl}
use mathlib.Core.Bool.{Bool, true, false}
use mathlib.Core.List.{List}
use mathlib.Core.Logic.{◌⊎◌, inl, inr, ⊎_elim}
use native.Mathlib.Omega.{arith}
use borrow.Author.Tests.{le-leb, eq-eqb, eqb-false}
use lib.ListN.{length}
use Rattle.rules.specs.Choice.{pick, ◌and◌, all}
use Rattle.rules.specs.Refusals.{line_of, refusal_number, in_order, Setting, BadSchemaTable, TooDeep, NameNotUtf8, TableSchemaMustBeTuple, TableSchemaChildMissingName}
use Rattle.rules.specs.Schema.{deep, NonEmpty}
use Rattle.rules.specs.Block.{node_size, records, block, node_at, name_in, node_name, NameUtf8, names_utf8, block_tree}
use Rattle.rules.specs.SchemaRules.{not_tuple, root_rule, name_rule, child_rule, table_rule}
use Rattle.rules.specs.Format.{block_depth_ok, block_utf8, block_rule, one_block, schema_answer, encoder_rule}
use Rattle.rules.specs.declared.table_record.Node.{Node}
use Rattle.rules.specs.declared.refusal.Refusal.{Refusal}
use Rattle.rules.specs.declared.answer.Purpose.{Purpose}
use Rattle.rules.proofs.Tests.{and_both, and_true}
use Rattle.rules.proofs.Checks.{pick_accepted}
use Rattle.block_laws.proofs.Levels.{block_denotes, deep_shallow}
use Rattle.block_laws.proofs.Honest.{Broken, unexpected, too_many, CheckSays, silent, says, said as reason, says_then, honest}
use Rattle.block_laws.proofs.Roots.{name_rule_lem}
use Rattle.block_laws.proofs.Good.{FormedBlock, name_accepts, form_accepts, depth_accepts, encoder_is}

-- A name of a block that is not well-formed UTF-8.
pub record BadName (s store : List ℕ) : Type 0 where
  pub node : ℕ
  pub inside : node < records s
  pub bad : NameUtf8 (node_name s store node) → ⊥

module _ (table names : List ℕ) (first n : ℕ) where
  -- What each refusal of the check of a schema says.
  pub data SchemaReason : Refusal → Type 0 where
    -- 1: the longer of the two slices has more than 4,294,967,295 bytes
    too_long : 4294967295 < max (length table) (length names) →
        SchemaReason Setting
    -- 2: the table has no whole records, or the block is not formed
    bad_form : (length table % node_size ≡ 0 → FormedBlock table names first n → ⊥) →
        SchemaReason BadSchemaTable
    -- 3: the block is more than 64 deep
    too_deep : 64 < deep (block_tree (block table first n) names) →
        SchemaReason TooDeep
    -- 33: a name of the block is not well-formed UTF-8
    bad_name : BadName (block table first n) names →
        SchemaReason NameNotUtf8
    -- 4 and 5: a record of the block breaks the schema rules
    broken : {r : Refusal} →
        Broken (block table first n) first r →
        SchemaReason r

  -- What each refusal of the encoder's check says.
  pub data TableReason : Refusal → Type 0 where
    -- 1 to 5 and 33: as the check of the schema
    of_schema : {r : Refusal} →
        SchemaReason r →
        TableReason r
    -- 9: the schema's root is no tuple; the place is its record
    root_not_tuple : ((node_at (block table first n) 0).code ≡ 19 → ⊥) →
        TableReason (TableSchemaMustBeTuple (node_at (block table first n) 0).code first)
    -- 10: child k of the root has no name, or an empty one; the place is its record
    no_name : {k : ℕ} →
        k < (node_at (block table first n) 0).children →
        (NonEmpty (name_in names (node_at (block table first n) ((node_at (block table first n) 0).first + k))) → ⊥) →
        TableReason (TableSchemaChildMissingName k (first + ((node_at (block table first n) 0).first + k)))

-- ---- laws of tests that fail, and of checks that say why

pub refuted : {A : Type 0} (b : Bool) → (A → b ≡ true) → b ≡ false → A → ⊥
refuted b g e a =
    let t = g a in
    let z : ◌≡◌ {A = ℕ} 0 1 = cc in
    omega arith

pub and_fails : (a b : Bool) → (a and b) ≡ false → (a ≡ false) ⊎ (b ≡ false)
unfolding ◌and◌
and_fails true b e = inr e
and_fails false b e = inl refl

-- some test among n fails
pub all_fails : (test : ℕ → Bool) (n : ℕ) → all test n ≡ false → (i : ℕ) × ((i < n) × (test i ≡ false))
unfolding all
all_fails test zero e = absurd (refuted {A = Unit} _ (λ h. refl) e tt)
all_fails test (suc n) e = ⊎_elim
    (λ (p : all test n ≡ false). let r = all_fails test n p in (r.0, (omega (arith, r.1.0), r.1.1)))
    (λ (p : test n ≡ false). (n, (omega arith, p)))
    (and_fails _ _ e)

pub says_map : {P Q : Refusal → Type 0} {c : Result ⊤ Refusal} → ((r : Refusal) → P r → Q r) → CheckSays P c → CheckSays Q c
says_map g silent = silent
says_map g (says {r = r} p) = says (g r p)

says_of : (P : Refusal → Type 0) (c : Result ⊤ Refusal) → ((r : Refusal) → c ≡ Err r → P r) → CheckSays P c
says_of P (Ok tt) g = silent
says_of P (Err r) g = says (g r refl)

-- a choice between a check and a refusal
pub says_else : (P : Refusal → Type 0) (b : Bool) (x : Result ⊤ Refusal) (r : Refusal) → (b ≡ true → CheckSays P x) → (b ≡ false → P r) → CheckSays P (pick b x (Err r))
unfolding pick
says_else P true x r g h = g refl
says_else P false x r g h = says (h refl)

says_from : (P : Refusal → Type 0) (check : ℕ → Result ⊤ Refusal) (i n : ℕ) → ((k : ℕ) → k < n → CheckSays P (check (i + k))) → CheckSays P (in_order check i n)
unfolding in_order
says_from P check i zero g = silent
says_from P check i (suc n) g =
    let z : i + 0 ≡ i = omega arith in
    says_then _ _ _ (rw z at (g 0 (omega arith))) (says_from P check (i + 1) n (λ k l. let e : i + suc k ≡ (i + 1) + k = omega arith in rw e at (g (suc k) (omega arith))))

-- checks of n things
pub says_each : (P : Refusal → Type 0) (check : ℕ → Result ⊤ Refusal) (n : ℕ) → ((k : ℕ) → k < n → CheckSays P (check k)) → CheckSays P (in_order check 0 n)
says_each P check n g = says_from P check 0 n (λ k l. let z : 0 + k ≡ k = omega arith in rw z (g k l))

-- ---- the rules of a block, its root and its names

-- the rules 4 and 5 of a formed block that is not too deep
pub block_says : (table names : List ℕ) (first n : ℕ) → FormedBlock table names first n → block_depth_ok table first n ≡ true → CheckSays (Broken (block table first n) first) (block_rule table first n)
unfolding block_rule
block_says table names first n g b =
    let s = block table first n in
    let o = g.formed.order in
    says_of _ _ (λ r e. honest s first (length names) 64 0 r g.formed (omega (arith, o.size)) (deep_shallow s names (block_denotes s names o) 64 ((depth_accepts table names first n).0 b)) e)

pub deep_says : (table names : List ℕ) (first n : ℕ) → block_depth_ok table first n ≡ false → 64 < deep (block_tree (block table first n) names)
deep_says table names first n e = let h = refuted _ (depth_accepts table names first n).1 e in omega arith

pub names_say : (table names : List ℕ) (first n : ℕ) → block_utf8 table names first n ≡ false → BadName (block table first n) names
unfolding block_utf8 names_utf8
names_say table names first n e = let r = all_fails _ _ e in record { node = r.0; inside = r.1.0; bad = refuted _ (name_accepts _).1 r.1.1 }

name_says : (P : Refusal → Type 0) (store : List ℕ) (place index : ℕ) (n : Node) → ((NonEmpty (name_in store n) → ⊥) → P (TableSchemaChildMissingName index place)) → CheckSays P (name_rule place index n)
unfolding name_rule
name_says P store place index n g = says_else _ _ _ _ (λ e. silent) (λ e. g (refuted _ (λ h. (pick_accepted _ _ _ (name_rule_lem store place index n h)).0) e))

-- root and names of a table
pub root_says : (P : Refusal → Type 0) (purpose : Purpose) (s store : List ℕ) (base : ℕ) →
    (((node_at s 0).code ≡ 19 → ⊥) → P (not_tuple purpose (node_at s 0).code base)) →
    ((k : ℕ) → k < (node_at s 0).children → (NonEmpty (name_in store (node_at s ((node_at s 0).first + k))) → ⊥) → P (TableSchemaChildMissingName k (base + ((node_at s 0).first + k)))) →
    CheckSays P (table_rule purpose s base)
unfolding table_rule root_rule child_rule
root_says P purpose s store base g h = says_then _ _ _ (says_else _ _ _ _ (λ e. silent) (λ e. g (eqb-false _ _ e)))
    (says_from _ _ _ _ (λ k l.
    let z : ((node_at s 0).first + k) - (node_at s 0).first ≡ k = omega arith in
    name_says P store _ _ (node_at s ((node_at s 0).first + k)) (λ e. rw z (h k l e))))

-- ---- the two checks
module _ (table names : List ℕ) (first n : ℕ) where
  schema_says : CheckSays (SchemaReason table names first n) (schema_answer table names first n)
  unfolding schema_answer one_block
  schema_says = says_else _ _ _ _
      (λ s. says_else _ _ _ _
      (λ form. says_else _ _ _ _
      (λ depth. says_else _ _ _ _
      (λ named. says_map (λ r b. broken b) (block_says table names first n ((form_accepts table names first n).0 (and_both _ _ form).1) depth))
      (λ e. bad_name (names_say table names first n e)))
      (λ e. too_deep (deep_says table names first n e)))
      (λ e. bad_form (λ w g. refuted _ (λ (h : FormedBlock table names first n). and_true _ _ (eq-eqb (length table % node_size) 0 w) ((form_accepts table names first n).1 h)) e g)))
      (λ e.
      let h : (max (length table) (length names) ≤ 4294967295) → ⊥ = refuted _ (λ h. and_true _ _ (le-leb (length table) 4294967295 (omega arith)) (le-leb (length names) 4294967295 (omega arith))) e in
      too_long (omega arith))

  -- A schema that is refused is refused with reason.
  pub schema_honest : (r : Refusal) → schema_answer table names first n ≡ Err r → SchemaReason table names first n r
  schema_honest r e = reason (rw e at schema_says)

  encoder_says : CheckSays (TableReason table names first n) (encoder_rule table names first n)
  unfolding not_tuple
  encoder_says = rw (encoder_is table names first n)
      (says_then _ _ _ (says_map (λ r b. of_schema b) schema_says) (root_says _ Purpose.Encoder (block table first n) names first root_not_tuple (λ k l h. no_name {k = k} l h)))

  -- So is a block for the encoder.
  pub encoder_honest : (r : Refusal) → encoder_rule table names first n ≡ Err r → TableReason table names first n r
  encoder_honest r e = reason (rw e at encoder_says)

-- ---- the numbers alone
module _ (table names : List ℕ) (first n : ℕ) where
  schema_number : (r : Refusal) → SchemaReason table names first n r → (refusal_number r ≤ 5) ⊎ (refusal_number r ≡ 33)
  unfolding line_of
  schema_number _ (too_long h) = inl (omega arith)
  schema_number _ (bad_form h) = inl (omega arith)
  schema_number _ (too_deep h) = inl (omega arith)
  schema_number _ (bad_name h) = inr refl
  schema_number _ (broken (unexpected i m h)) = inl (omega arith)
  schema_number _ (broken (too_many i m h)) = inl (omega arith)

  table_number : (r : Refusal) → TableReason table names first n r →
      ((refusal_number r ≤ 5) ⊎ (refusal_number r ≡ 33)) ⊎ ((refusal_number r ≡ 9) ⊎ (refusal_number r ≡ 10))
  unfolding line_of
  table_number r (of_schema h) = inl (schema_number r h)
  table_number _ (root_not_tuple h) = inr (inl refl)
  table_number _ (no_name l h) = inr (inr refl)

  -- A schema is refused by 1 to 5 and 33 alone.
  pub schema_numbers : (r : Refusal) → schema_answer table names first n ≡ Err r → (refusal_number r ≤ 5) ⊎ (refusal_number r ≡ 33)
  schema_numbers r e = schema_number r (schema_honest table names first n r e)

  -- The encoder's block is refused by 1 to 5, 33, 9 and 10 alone.
  pub encoder_numbers : (r : Refusal) → encoder_rule table names first n ≡ Err r →
      ((refusal_number r ≤ 5) ⊎ (refusal_number r ≡ 33)) ⊎ ((refusal_number r ≡ 9) ⊎ (refusal_number r ≡ 10))
  encoder_numbers r e = table_number r (encoder_honest table names first n r e)
