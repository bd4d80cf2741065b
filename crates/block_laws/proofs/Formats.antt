-- Which formats the check accepts.
-- Assumes nothing.
use Rattle.std.proofs.Common.{Ok}
use Prim.Native.Nat.{ℕ, ◌<◌}
use mathlib.Core.Path.{◌≡◌, refl}
use mathlib.Core.Bool.{true}
use mathlib.Core.Logic.{inl, inr, ⊎_elim, ◌↔◌}
use native.Mathlib.Omega.{arith}
use borrow.Author.Tests.{leb-true, eqb-false, le-leb, eq-eqb, ne_eqb}
use lib.Dec.{eqb}
use Rattle.rules.specs.Choice.{pick, all}
use Rattle.rules.specs.Bytes.{part}
use Rattle.rules.specs.Refusals.{◌then◌, in_order}
use Rattle.rules.specs.Utf8.{is_utf8}
use Rattle.rules.specs.Schema.{TableRoot}
use Rattle.rules.specs.Block.{block}
use Rattle.rules.specs.SchemaRules.{table_rule}
use Rattle.rules.specs.Format.{entry_count, Format, block_depth_ok, block_utf8, reference_at, entry_at, entry_name, resolved, tables, entry_depth_ok, reference_depth_ok, depths_ok, entry_utf8, reference_utf8, format_utf8, entry_rule, root_of, inline_rule, reference_rule, rules_order, sizes_ok, format_rules, format_rule}
use Rattle.rules.specs.Good.{GoodBlock, Ascending, schema_from, GoodEntry, Inline, ByName, GoodReference, GoodTables, GoodFormat}
use Rattle.rules.specs.declared.table_record.Reference.{Reference}
use Rattle.rules.specs.declared.table_record.Located.{Located}
use Rattle.rules.specs.declared.table_record.Located.TheVariants.{Block, NoTable, NoEntry}
use Rattle.rules.specs.declared.answer.Purpose.{Purpose}
use Rattle.rules.proofs.Tests.{and_both, and_true, all_each, all_true}
use Rattle.rules.proofs.Checks.{refused_not, then_both, pick_accepted}
use Rattle.block_laws.proofs.Utf8.{utf8_exactly}
use Rattle.block_laws.proofs.Turns.{then_accepted, accepted_pick, none_refused, in_order_iff, in_turn}
use Rattle.block_laws.proofs.Good.{form_accepts, passes, root_accepts}
use Rattle.block_laws.proofs.Lookup.{lookup_finds}
use Rattle.block_laws.proofs.Forms.{FormedInline, FormedName, FormedReference, Forms, forms_accept}

module _ (f : Format) where
  record Rooted (l : Located) : Type 0 where
    first : ℕ
    count : ℕ
    is : l ≡ Block first count
    accepts : table_rule Purpose.Format (block f.table first count) first ≡ Ok tt

  rooted : (t : ℕ) (l : Located) → root_of f t l ≡ Ok tt → Rooted l
  unfolding root_of
  rooted t (Block first n) e = record { first = first; count = n; is = refl; accepts = e }
  rooted t NoTable e = absurd (refused_not _ e)
  rooted t NoEntry e = absurd (refused_not _ e)

  -- where a good reference's schema stands
  pub record Placed (r : Reference) : Type 0 where
    pub first : ℕ
    pub count : ℕ
    pub is : resolved f.names f.registry r ≡ Block first count
    pub good : GoodBlock f.table f.names first count
    pub root : TableRoot (schema_from f first count)

  module _ (r : Reference) where
    good_formed : GoodReference f r → FormedReference f r
    good_formed g = record {
      spare = g.spare;
      rest = g.rest;
      either = ⊎_elim
          (λ (i : Inline f r). inl (record { kind = i.kind; formed = record { inside = i.good.inside; formed = i.good.formed } }))
          (λ (n : ByName f r). inr (record { kind = n.kind; name = n.name }))
          g.either;
    }

    good_passes : GoodReference f r → (pick (eqb r.kind 0) (block_depth_ok f.table r.start r.len) true ≡ true) × (inline_rule f r ≡ Ok tt)
    unfolding inline_rule pick
    good_passes g = ⊎_elim
        (λ (i : Inline f r).
        let p = (passes _ _ _ _).1 i.good in
        let z = eq-eqb r.kind 0 i.kind in
        (rw z p.depth_ok, rw z p.rules_ok))
        (λ (n : ByName f r). let z = ne_eqb r.kind 0 (λ e. omega (arith, n.kind)) in (rw z, rw z))
        g.either

  module _ (entries : (j : ℕ) → j < entry_count f.registry → GoodEntry f j) (up : Ascending (entry_name f.names f.registry) (entry_count f.registry)) (r : Reference) where
    pub placed : GoodReference f r → Placed r
    unfolding resolved pick
    placed g = ⊎_elim
        (λ (i : Inline f r). record { first = r.start; count = r.len; is = rw (eq-eqb r.kind 0 i.kind); good = i.good; root = i.root })
        (λ (n : ByName f r).
        let l = (lookup_finds f.names f.registry (part f.names r.start r.len) up _ _).1 (record { entry = n.entry; below = n.below; same = n.same; first_is = refl; count_is = refl }) in
        record {
          first = (entry_at f.registry n.entry).first;
          count = (entry_at f.registry n.entry).count;
          is = rw (ne_eqb r.kind 0 (λ e. omega (arith, n.kind))) l;
          good = (entries n.entry n.below).good;
          root = n.root;
        })
        g.either

    -- what depths, names and rules say of a formed reference
    reference_good : (t : ℕ) → FormedReference f r → pick (eqb r.kind 0) (block_depth_ok f.table r.start r.len) true ≡ true →
        pick (eqb r.kind 0) (block_utf8 f.table f.names r.start r.len) (is_utf8 (part f.names r.start r.len)) ≡ true → inline_rule f r then root_of f t (resolved f.names f.registry r) ≡ Ok tt → GoodReference f r
    unfolding inline_rule resolved pick root_of
    reference_good t w d m e = record {
      spare = w.spare;
      rest = w.rest;
      either = ⊎_elim
          (λ (i : FormedInline f r).
          let z = eq-eqb r.kind 0 i.kind in
          let q = then_both _ _ (rw z at e) in
          let g = (passes _ _ _ _).0 (record { form_ok = (form_accepts _ _ _ _).1 i.formed; depth_ok = rw z at d; names_ok = rw z at m; rules_ok = q.0 }) in
          inl (record { kind = i.kind; good = g; root = (root_accepts _ _ _ _ Purpose.Format g).0 q.1 }))
          (λ (n : FormedName f r).
          let z = ne_eqb r.kind 0 (λ e. omega (arith, n.kind)) in
          let q = rooted t _ (then_both _ _ (rw z at e)).1 in
          let h = (lookup_finds _ _ _ up _ _).0 q.is in
          inr (record { kind = n.kind; name = n.name; entry = h.entry; below = h.below; same = h.same; root = (root_accepts _ _ _ _ Purpose.Format (entries h.entry h.below).good).0 (rw (h.first_is, h.count_is) q.accepts) }))
          w.either;
    }

    good_root : (t : ℕ) → GoodReference f r → root_of f t (resolved f.names f.registry r) ≡ Ok tt
    unfolding root_of
    good_root t g = let p = placed g in rw p.is ((root_accepts _ _ _ _ Purpose.Format p.good).1 p.root)

  -- a reference by name has the name of an entry
  good_names : ((j : ℕ) → j < entry_count f.registry → GoodEntry f j) → (r : Reference) → GoodReference f r →
      pick (eqb r.kind 0) (block_utf8 f.table f.names r.start r.len) (is_utf8 (part f.names r.start r.len)) ≡ true
  unfolding pick
  good_names entries r g = ⊎_elim
      (λ (i : Inline f r). rw (eq-eqb r.kind 0 i.kind) ((passes _ _ _ _).1 i.good).names_ok)
      (λ (n : ByName f r). rw (ne_eqb r.kind 0 (λ e. omega (arith, n.kind)), ← n.same) ((utf8_exactly _).1 (entries n.entry n.below).utf8))
      g.either

  -- ---- the whole

  rules_good : format_rules f ≡ Ok tt → GoodTables f
  unfolding format_rules depths_ok format_utf8 rules_order entry_depth_ok entry_utf8 entry_rule reference_depth_ok reference_utf8 reference_rule
  rules_good e =
      let p = (in_turn _ _ _ _ _ _ _).0 e in
      let w = (forms_accept f).0 p.form_ok in
      let d = and_both _ _ p.depth_ok in
      let m = and_both _ _ p.names_ok in
      let u = none_refused _ _ _ p.rules_ok in
      let v = then_both _ _ u.1 in
      record {
        whole_table = w.whole_table;
        whole_references = w.whole_references;
        whole_registry = w.whole_registry;
        some = omega (arith, eqb-false (tables f) 0 u.0);
        entries = good w d m v;
        ascends = w.ascends;
        references = λ t h. reference_good (good w d m v) w.ascends (reference_at f.references t) t (w.references t h) (all_each _ _ t d.1 h) (all_each _ _ t m.1 h) ((in_order_iff _ _).0 v.1 t h);
      }
    where
      good : Forms f → (all (entry_depth_ok f) (entry_count f.registry) ≡ true) × (all (reference_depth_ok f) (tables f) ≡ true) →
          (all (entry_utf8 f) (entry_count f.registry) ≡ true) × (all (reference_utf8 f) (tables f) ≡ true) → (in_order (entry_rule f) 0 (entry_count f.registry) ≡ Ok tt) × (in_order (reference_rule f) 0 (tables f) ≡ Ok tt) →
          (j : ℕ) → j < entry_count f.registry → GoodEntry f j
      good w d m v j h = let n = and_both _ _ (all_each _ _ j m.0 h) in record {
        name = (w.entries j h).name;
        utf8 = (utf8_exactly _).0 n.0;
        good = (passes _ _ _ _).0 (record { form_ok = (form_accepts _ _ _ _).1 (w.entries j h).formed; depth_ok = all_each _ _ j d.0 h; names_ok = n.1; rules_ok = (in_order_iff _ _).0 v.0 j h });
      }

  good_rules : GoodTables f → format_rules f ≡ Ok tt
  unfolding format_rules depths_ok format_utf8 rules_order entry_depth_ok entry_utf8 entry_rule reference_depth_ok reference_utf8 reference_rule pick
  good_rules g = (in_turn _ _ _ _ _ _ _).1 (record {
    form_ok = (forms_accept f).1 (record {
      whole_table = g.whole_table;
      whole_references = g.whole_references;
      whole_registry = g.whole_registry;
      entries = λ j h. let e = g.entries j h in record { name = e.name; formed = record { inside = e.good.inside; formed = e.good.formed } };
      ascends = g.ascends;
      references = λ t h. good_formed _ (g.references t h);
    });
    depth_ok = and_true _ _ (all_true _ _ (λ j h. ((passes _ _ _ _).1 (g.entries j h).good).depth_ok)) (all_true _ _ (λ t h. (good_passes _ (g.references t h)).0));
    names_ok = and_true _ _
        (all_true _ _ (λ j h. let e = g.entries j h in and_true _ _ ((utf8_exactly _).1 e.utf8) ((passes _ _ _ _).1 e.good).names_ok))
        (all_true _ _ (λ t h. good_names g.entries _ (g.references t h)));
    rules_ok = rw (ne_eqb (tables f) 0 (λ e. omega (arith, g.some)))
        (then_accepted _ _ ((in_order_iff _ _).1 (λ j h. ((passes _ _ _ _).1 (g.entries j h).good).rules_ok))
        ((in_order_iff _ _).1 (λ t h. let r = g.references t h in then_accepted _ _ (good_passes _ r).1 (good_root g.entries g.ascends _ t r))));
  })

  -- The check of a format, its sizes left aside, accepts just the good ones.
  pub rules_accept : (format_rules f ≡ Ok tt) ↔ GoodTables f
  rules_accept = (rules_good, good_rules)

  -- The check of a format accepts just the good ones.
  pub format_accepts : (format_rule f ≡ Ok tt) ↔ GoodFormat f
  unfolding format_rule sizes_ok
  format_accepts = (
    λ e.
        let a = pick_accepted _ _ _ e in
        let b = and_both _ _ a.0 in
        let c = and_both _ _ b.0 in
        let d = and_both _ _ c.0 in
        record {
          table_size = leb-true _ _ d.0;
          names_size = leb-true _ _ d.1;
          references_size = leb-true _ _ c.1;
          registry_size = leb-true _ _ b.1;
          good = rules_good a.1;
        },
    λ g. accepted_pick _ _ _
        (and_true _ _ (and_true _ _ (and_true _ _ (le-leb _ _ g.table_size) (le-leb _ _ g.names_size)) (le-leb _ _ g.references_size)) (le-leb _ _ g.registry_size))
        (good_rules g.good),
  )
