-- What the refusals of a format say is so, and a format is refused by 1 to 8, 10 and 33 alone.
-- Assumes nothing.
use Rattle.std.proofs.Common.{Err}
use Prim.Native.Nat.{ℕ, ◌+◌, ◌≤◌, ◌<◌, max}
use mathlib.Core.Path.{◌≡◌, refl}
use mathlib.Core.Bool.{Bool, true, false}
use mathlib.Core.List.{List}
use mathlib.Core.Logic.{◌⊎◌, inl, inr, ⊎_elim}
use native.Mathlib.Omega.{arith}
use borrow.Author.Tests.{lt-ltb, le-leb, eqb-true, eq-eqb, ne_eqb}
use lib.ListN.{length}
use lib.Dec.{eqb}
use Rattle.rules.specs.Choice.{pick, all}
use Rattle.rules.specs.Bytes.{part}
use Rattle.rules.specs.Refusals.{line_of, refusal_number, ◌then◌, in_order, Setting, BadSchemaTable, TooDeep, NameNotUtf8, EmptyTableSchemas, UnknownRegistryReference, TableSchemaRootMustBeTuple, TableSchemaChildMissingName}
use Rattle.rules.specs.Utf8.{Utf8, is_utf8}
use Rattle.rules.specs.Schema.{deep, NonEmpty}
use Rattle.rules.specs.Block.{block, node_at, name_in}
use Rattle.rules.specs.SchemaRules.{not_tuple}
use Rattle.rules.specs.Format.{entry_count, Format, block_depth_ok, block_utf8, reference_at, entry_at, entry_name, resolved, tables, table_schema, entry_depth_ok, reference_depth_ok, depths_ok, entry_utf8, reference_utf8, format_utf8, entry_rule, root_of, inline_rule, reference_rule, rules_order, sizes_ok, format_rules, format_rule}
use Rattle.rules.specs.Good.{schema_from}
use Rattle.rules.specs.declared.table_record.Located.{Located}
use Rattle.rules.specs.declared.table_record.Located.TheVariants.{Block, NoTable, NoEntry}
use Rattle.rules.specs.declared.refusal.Refusal.{Refusal}
use Rattle.rules.specs.declared.answer.Purpose.{Purpose}
use Rattle.rules.proofs.Tests.{and_both, and_true, all_each}
use Rattle.block_laws.proofs.Honest.{Broken, broken_number, broken_stays, CheckSays, silent, says, said as reason, says_then}
use Rattle.block_laws.proofs.BlockReasons.{BadName, refuted, and_fails, all_fails, says_map, says_else, says_each, block_says, deep_says, names_say, root_says}
use Rattle.block_laws.proofs.Utf8.{utf8_exactly}
use Rattle.block_laws.proofs.Lookup.{lookup_there, lookup_misses}
use Rattle.block_laws.proofs.Forms.{FormedInline, FormedName, FormedReference, Forms, forms_accept}

module _ (f : Format) where
  -- The blocks of a format: those of its registry entries, and those of its inline references.
  pub data BlockOf : ℕ → ℕ → Type 0 where
    of_entry : {j : ℕ} →
        j < entry_count f.registry →
        BlockOf (entry_at f.registry j).first (entry_at f.registry j).count
    of_table : {t : ℕ} →
        t < tables f → (reference_at f.references t).kind ≡ 0 →
        BlockOf (reference_at f.references t).start (reference_at f.references t).len

  -- What each refusal of a format says.
  pub data FormatReason : Refusal → Type 0 where
    -- 1: the longest of the four slices has more than 4,294,967,295 bytes
    too_long : 4294967295 < max (max (length f.table) (length f.names)) (max (length f.references) (length f.registry)) →
        FormatReason Setting
    -- 2: some flat form is not right
    bad_form : (Forms f → ⊥) →
        FormatReason BadSchemaTable
    -- 3: a block is more than 64 deep
    too_deep : {first n : ℕ} →
        BlockOf first n → 64 < deep (schema_from f first n) →
        FormatReason TooDeep
    -- 33: a name of a block, of an entry, or that a reference gives is not well-formed UTF-8
    bad_node_name : {first n : ℕ} →
        BlockOf first n → BadName (block f.table first n) f.names →
        FormatReason NameNotUtf8
    bad_entry_name : {j : ℕ} →
        j < entry_count f.registry → (Utf8 (entry_name f.names f.registry j) → ⊥) →
        FormatReason NameNotUtf8
    bad_reference_name : {t : ℕ} →
        t < tables f → (reference_at f.references t).kind ≡ 1 → (Utf8 (part f.names (reference_at f.references t).start (reference_at f.references t).len) → ⊥) →
        FormatReason NameNotUtf8
    -- 4 and 5: a record of a block breaks the schema rules
    broken : {first n : ℕ} {r : Refusal} →
        BlockOf first n → Broken (block f.table first n) first r →
        FormatReason r
    -- 6: there are no tables
    no_tables : tables f ≡ 0 →
        FormatReason EmptyTableSchemas
    -- 7: table t refers to a name that no entry has
    unknown : {t : ℕ} →
        t < tables f → (reference_at f.references t).kind ≡ 1 →
        ((j : ℕ) → j < entry_count f.registry → entry_name f.names f.registry j ≡ part f.names (reference_at f.references t).start (reference_at f.references t).len → ⊥) →
        FormatReason (UnknownRegistryReference t)
    -- 8: the root of table t's schema is no tuple; the place is its record
    root_not_tuple : {t first n : ℕ} →
        t < tables f → table_schema f t ≡ Block first n → ((node_at (block f.table first n) 0).code ≡ 19 → ⊥) →
        FormatReason (TableSchemaRootMustBeTuple (node_at (block f.table first n) 0).code first)
    -- 10: child k of the root of table t's schema has no name, or an empty one; the place is its record
    no_name : {t first n k : ℕ} →
        t < tables f → table_schema f t ≡ Block first n → k < (node_at (block f.table first n) 0).children →
        (NonEmpty (name_in f.names (node_at (block f.table first n) ((node_at (block f.table first n) 0).first + k))) → ⊥) →
        FormatReason (TableSchemaChildMissingName k (first + ((node_at (block f.table first n) 0).first + k)))

module _ (f : Format) where
  depths_reason : depths_ok f ≡ false → FormatReason f TooDeep
  unfolding depths_ok entry_depth_ok reference_depth_ok pick
  depths_reason e = ⊎_elim
      (λ (p : all (entry_depth_ok f) (entry_count f.registry) ≡ false). let r = all_fails _ _ p in too_deep (of_entry {j = r.0} r.1.0) (deep_says _ _ _ _ r.1.1))
      (λ (p : all (reference_depth_ok f) (tables f) ≡ false). let r = all_fails _ _ p in by r.0 r.1.0 (eqb (reference_at f.references r.0).kind 0) refl r.1.1)
      (and_fails _ _ e)
    where
      by : (t : ℕ) → t < tables f → (b : Bool) → eqb (reference_at f.references t).kind 0 ≡ b → pick b (block_depth_ok f.table (reference_at f.references t).start (reference_at f.references t).len) true ≡ false → FormatReason f TooDeep
      by t l true k e = too_deep (of_table {t = t} l (eqb-true _ _ k)) (deep_says _ _ _ _ e)
      by t l false k e = absurd (refuted {A = Unit} _ (λ h. refl) e tt)

  not_utf8 : (s : List ℕ) → is_utf8 s ≡ false → Utf8 s → ⊥
  not_utf8 s = refuted _ (utf8_exactly s).1

  reference_name_reason : (t : ℕ) → t < tables f → FormedReference f (reference_at f.references t) → reference_utf8 f t ≡ false → FormatReason f NameNotUtf8
  unfolding reference_utf8 pick
  reference_name_reason t h w e = ⊎_elim
      (λ (i : FormedInline f (reference_at f.references t)). bad_node_name (of_table {t = t} h i.kind) (names_say _ _ _ _ (rw (eq-eqb (reference_at f.references t).kind 0 i.kind) at e)))
      (λ (n : FormedName f (reference_at f.references t)). bad_reference_name {t = t} h n.kind (not_utf8 _ (rw (ne_eqb (reference_at f.references t).kind 0 (λ z. omega (arith, n.kind))) at e)))
      w.either

  names_reason : Forms f → format_utf8 f ≡ false → FormatReason f NameNotUtf8
  unfolding format_utf8 entry_utf8
  names_reason w e = ⊎_elim
      (λ (p : all (entry_utf8 f) (entry_count f.registry) ≡ false). let r = all_fails _ _ p in ⊎_elim
      (λ (q : is_utf8 (entry_name f.names f.registry r.0) ≡ false). bad_entry_name {j = r.0} r.1.0 (not_utf8 _ q))
      (λ (q : block_utf8 f.table f.names (entry_at f.registry r.0).first (entry_at f.registry r.0).count ≡ false). bad_node_name (of_entry {j = r.0} r.1.0) (names_say _ _ _ _ q))
      (and_fails _ _ r.1.1))
      (λ (p : all (reference_utf8 f) (tables f) ≡ false). let r = all_fails _ _ p in reference_name_reason r.0 r.1.0 (w.references r.0 r.1.0) r.1.1)
      (and_fails _ _ e)

  sizes_reason : sizes_ok f ≡ false → FormatReason f Setting
  unfolding sizes_ok
  sizes_reason e =
      let h : (max (max (length f.table) (length f.names)) (max (length f.references) (length f.registry)) ≤ 4294967295) → ⊥ = refuted _ (λ h.
      and_true _ _ (and_true _ _ (and_true _ _ (le-leb (length f.table) 4294967295 (omega arith)) (le-leb (length f.names) 4294967295 (omega arith))) (le-leb (length f.references) 4294967295 (omega arith))) (le-leb (length f.registry) 4294967295 (omega arith))) e in
      too_long (omega arith)

  rooted_says : (t : ℕ) → t < tables f → (l : Located) → table_schema f t ≡ l → (l ≡ NoTable → ⊥) → (l ≡ NoEntry → FormatReason f (UnknownRegistryReference t)) → CheckSays (FormatReason f) (root_of f t l)
  unfolding root_of not_tuple
  rooted_says t h (Block first n) e a b = root_says _ Purpose.Format (block f.table first n) f.names first (λ q. root_not_tuple {t = t} {first = first} {n = n} h e q) (λ k l q. no_name {t = t} {first = first} {n = n} h e l q)
  rooted_says t h NoTable e a b = absurd (a refl)
  rooted_says t h NoEntry e a b = says (b refl)

  reference_says : (t : ℕ) → t < tables f → FormedReference f (reference_at f.references t) → reference_depth_ok f t ≡ true → CheckSays (FormatReason f) (reference_rule f t)
  unfolding reference_depth_ok reference_rule inline_rule resolved table_schema pick
  reference_says t h w d = ⊎_elim
      (λ (i : FormedInline f (reference_at f.references t)).
      let z = eq-eqb (reference_at f.references t).kind 0 i.kind in
      rw z
      (says_then _ _ _
      (says_map (λ q b. broken (of_table {t = t} h i.kind) b) (block_says f.table f.names _ _ i.formed (rw z at d)))
      (rooted_says t h (Block (reference_at f.references t).start (reference_at f.references t).len) (rw (lt-ltb t (tables f) h, z)) (λ p. let o : ◌≡◌ {A = ℕ} 0 1 = cc in omega arith) (λ p. let o : ◌≡◌ {A = ℕ} 0 1 = cc in absurd (omega arith)))))
      (λ (n : FormedName f (reference_at f.references t)).
      let z = ne_eqb (reference_at f.references t).kind 0 (λ e. omega (arith, n.kind)) in
      rw z
      (says_then _ _ _ silent
      (rooted_says t h _ (rw (lt-ltb t (tables f) h, z)) (lookup_there _ _ _) (λ p. unknown {t = t} h n.kind ((lookup_misses _ _ _).0 p)))))
      w.either

  order_says : Forms f → depths_ok f ≡ true → CheckSays (FormatReason f) (rules_order f)
  unfolding depths_ok rules_order entry_depth_ok entry_rule pick
  order_says w depth = by (eqb (tables f) 0) refl
    where
      by : (b : Bool) → eqb (tables f) 0 ≡ b → CheckSays (FormatReason f) (pick b (Err EmptyTableSchemas) (in_order (entry_rule f) 0 (entry_count f.registry) then in_order (reference_rule f) 0 (tables f)))
      by true e = says (no_tables (eqb-true _ _ e))
      by false e =
          let d = and_both _ _ depth in
          says_then _ _ _
          (says_each _ _ _ (λ j h. says_map (λ q b. broken (of_entry {j = j} h) b) (block_says f.table f.names _ _ (w.entries j h).formed (all_each _ _ j d.0 h))))
          (says_each _ _ _ (λ t h. reference_says t h (w.references t h) (all_each _ _ t d.1 h)))

  rules_says : CheckSays (FormatReason f) (format_rules f)
  unfolding format_rules
  rules_says = says_else _ _ _ _
      (λ form. let w = (forms_accept f).0 form in says_else _ _ _ _ (λ depth. says_else _ _ _ _ (λ names. order_says w depth) (names_reason w)) depths_reason)
      (λ e. bad_form (refuted _ (forms_accept f).1 e))

  format_says : CheckSays (FormatReason f) (format_rule f)
  unfolding format_rule
  format_says = says_else _ _ _ _ (λ s. rules_says) sizes_reason

  -- A format that is refused is refused with reason.
  pub format_honest : (r : Refusal) → format_rule f ≡ Err r → FormatReason f r
  format_honest r e = reason (rw e at format_says)

  number : (r : Refusal) → FormatReason f r → (refusal_number r ≤ 8) ⊎ ((refusal_number r ≡ 10) ⊎ (refusal_number r ≡ 33))
  unfolding line_of
  number _ (too_long h) = inl (omega arith)
  number _ (bad_form h) = inl (omega arith)
  number _ (too_deep b h) = inl (omega arith)
  number _ (bad_node_name b h) = inr (inr refl)
  number _ (bad_entry_name l h) = inr (inr refl)
  number _ (bad_reference_name l k h) = inr (inr refl)
  number r (broken b w) = let n = broken_number r w in inl (omega arith)
  number _ (no_tables h) = inl (omega arith)
  number _ (unknown h k n) = inl (omega arith)
  number _ (root_not_tuple h s c) = inl (omega arith)
  number _ (no_name h s k c) = inr (inl refl)

  -- So a format is refused by 1 to 8, 10 and 33 alone.
  pub format_numbers : (r : Refusal) → format_rule f ≡ Err r → (refusal_number r ≤ 8) ⊎ ((refusal_number r ≡ 10) ⊎ (refusal_number r ≡ 33))
  format_numbers r e = number r (format_honest r e)

  stays : (r : Refusal) → FormatReason f r → (line_of r.why).moves ≡ false
  unfolding line_of
  stays _ (too_long h) = refl
  stays _ (bad_form h) = refl
  stays _ (too_deep b h) = refl
  stays _ (bad_node_name b h) = refl
  stays _ (bad_entry_name l h) = refl
  stays _ (bad_reference_name l k h) = refl
  stays r (broken b w) = broken_stays r w
  stays _ (no_tables h) = refl
  stays _ (unknown h k n) = refl
  stays _ (root_not_tuple h s c) = refl
  stays _ (no_name h s k c) = refl

  -- Where a format is refused, the place does not move with the stream.
  pub format_stays : (r : Refusal) → format_rule f ≡ Err r → (line_of r.why).moves ≡ false
  format_stays r e = stays r (format_honest r e)
