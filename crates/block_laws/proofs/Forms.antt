-- All flat forms of a format, as facts.
-- Assumes nothing.
use Prim.Native.Nat.{ℕ, zero, suc, ◌+◌, ◌%◌, ◌≤◌, ◌<◌}
use mathlib.Core.Path.{◌≡◌, refl}
use mathlib.Core.Bool.{true, false}
use mathlib.Core.Logic.{◌⊎◌, inl, inr, ⊎_elim, ◌↔◌}
use native.Mathlib.Omega.{arith}
use native.Mathlib.Numerals.{add-one}
use borrow.Author.Tests.{leb-true, eqb-true, le-leb, eq-eqb, ne_eqb}
use lib.ListN.{length}
use lib.Dec.{leb, eqb}
use Rattle.rules.specs.Choice.{pick, ◌and◌}
use Rattle.rules.specs.Bytes.{is_less}
use Rattle.rules.specs.Block.{node_size}
use Rattle.rules.specs.Format.{reference_size, entry_size, entry_count, Format, block_form_ok, reference_at, entry_at, entry_name, tables, reference_ok, ascending, entry_ok, reference_form_ok, forms_ok}
use Rattle.rules.specs.Good.{Ascending}
use Rattle.rules.specs.declared.table_record.Reference.{Reference}
use Rattle.rules.proofs.Tests.{and_both, and_true, all_each, all_true, pick_either}
use Rattle.rules.proofs.Orders.{is_less_lem}
use Rattle.block_laws.proofs.Good.{FormedBlock, form_accepts}

module _ (f : Format) where
  -- A registry entry: its name lies in the store, and its block is formed.
  pub record FormedEntry (j : ℕ) : Type 0 where
    pub name : (entry_at f.registry j).start + (entry_at f.registry j).len ≤ length f.names
    pub formed : FormedBlock f.table f.names (entry_at f.registry j).first (entry_at f.registry j).count

  -- An inline reference: kind 0, and a formed block.
  pub record FormedInline (r : Reference) : Type 0 where
    pub kind : r.kind ≡ 0
    pub formed : FormedBlock f.table f.names r.start r.len

  -- A reference by name: kind 1, and a name that lies in the store.
  pub record FormedName (r : Reference) : Type 0 where
    pub kind : r.kind ≡ 1
    pub name : r.start + r.len ≤ length f.names

  -- A table reference: the bytes that have to be 0 are, and it is of one of the two kinds.
  pub record FormedReference (r : Reference) : Type 0 where
    pub spare : r.spare ≡ 0
    pub rest : r.rest ≡ 0
    pub either : FormedInline r ⊎ FormedName r

  -- Whole records in table, references and registry; formed entries, their names strictly ascending; formed references.
  pub record Forms : Type 0 where
    pub whole_table : length f.table % node_size ≡ 0
    pub whole_references : length f.references % reference_size ≡ 0
    pub whole_registry : length f.registry % entry_size ≡ 0
    pub entries : (j : ℕ) → j < entry_count f.registry → FormedEntry j
    pub ascends : Ascending (entry_name f.names f.registry) (entry_count f.registry)
    pub references : (t : ℕ) → t < tables f → FormedReference (reference_at f.references t)

module _ (f : Format) where
  pub ascending_iff : (n : ℕ) → ((j : ℕ) → j < n → ascending f j ≡ true) ↔ Ascending (entry_name f.names f.registry) n
  unfolding ascending is_less
  ascending_iff n = (λ h j l. rw add-one (is_less_lem _ (rw add-one at (h (j + 1) l))), test)
    where
      test : Ascending (entry_name f.names f.registry) n → (j : ℕ) → j < n → ascending f j ≡ true
      test h zero l = refl
      test h (suc j) l = rw (rw add-one at (h j (omega arith)))

  entry_formed : (j : ℕ) → (entry_ok f j ≡ true) ↔ (FormedEntry f j × (ascending f j ≡ true))
  unfolding entry_ok
  entry_formed j = (
    λ e.
        let a = and_both _ _ e in
        let b = and_both _ _ a.0 in
        (record { name = leb-true _ _ b.0; formed = (form_accepts _ _ _ _).0 b.1 }, a.1),
    λ g. and_true _ _ (and_true _ _ (le-leb _ _ g.0.name) ((form_accepts _ _ _ _).1 g.0.formed)) g.1,
  )

  reference_formed : (r : Reference) → (reference_ok f r ≡ true) ↔ FormedReference f r
  unfolding reference_ok pick
  reference_formed r = (
    λ e.
        let a = and_both _ _ e in
        let b = and_both _ _ a.0 in
        record {
          spare = eqb-true _ _ b.0;
          rest = eqb-true _ _ b.1;
          either = ⊎_elim
              (λ (p : (eqb r.kind 0 ≡ true) × (block_form_ok f.table (length f.names) r.start r.len ≡ true)). inl (record { kind = eqb-true _ _ p.0; formed = (form_accepts _ _ _ _).0 p.1 }))
              (λ (p : (eqb r.kind 0 ≡ false) × ((eqb r.kind 1 and leb (r.start + r.len) (length f.names)) ≡ true)).
              let q = and_both _ _ p.1 in
              inr (record { kind = eqb-true _ _ q.0; name = leb-true _ _ q.1 }))
              (pick_either _ _ _ a.1);
        },
    λ g. and_true _ _ (and_true _ _ (eq-eqb _ _ g.spare) (eq-eqb _ _ g.rest))
        (⊎_elim
        (λ (i : FormedInline f r). rw (eq-eqb r.kind 0 i.kind) ((form_accepts _ _ _ _).1 i.formed))
        (λ (n : FormedName f r). rw (ne_eqb r.kind 0 (λ e. omega (arith, n.kind))) (and_true _ _ (eq-eqb _ _ n.kind) (le-leb _ _ n.name)))
        g.either),
  )

  -- The test of all flat forms says just this.
  pub forms_accept : (forms_ok f ≡ true) ↔ Forms f
  unfolding forms_ok reference_form_ok
  forms_accept = (
    λ e.
        let a = and_both _ _ e in
        let b = and_both _ _ a.0 in
        let c = and_both _ _ b.0 in
        let d = and_both _ _ c.0 in
        record {
          whole_table = eqb-true _ _ d.0;
          whole_references = eqb-true _ _ d.1;
          whole_registry = eqb-true _ _ c.1;
          entries = λ j h. ((entry_formed j).0 (all_each _ _ j b.1 h)).0;
          ascends = (ascending_iff _).0 (λ j h. ((entry_formed j).0 (all_each _ _ j b.1 h)).1);
          references = λ t h. (reference_formed _).0 (all_each _ _ t a.1 h);
        },
    λ g. and_true _ _
        (and_true _ _ (and_true _ _ (and_true _ _ (eq-eqb _ _ g.whole_table) (eq-eqb _ _ g.whole_references)) (eq-eqb _ _ g.whole_registry))
        (all_true _ _ (λ j h. (entry_formed j).1 (g.entries j h, (ascending_iff _).1 g.ascends j h))))
        (all_true _ _ (λ t h. (reference_formed _).1 (g.references t h))),
  )
