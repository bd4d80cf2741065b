-- What the forms of a format give, and its parts over the slices that each looks at.
-- Assumes nothing.
use Rattle.rules.specs.declared.refusal.Refusal.{Refusal}
use Rattle.std.specs.declared.cmp.Ordering.{Ordering}
use Rattle.std.specs.Prelude.{⊤}
use Rattle.std.proofs.Common.{Result}
use Prim.Native.Nat.{ℕ, zero, suc, ◌+◌, ◌-◌, ◌≤◌, ◌<◌}
use mathlib.Core.Path.{◌≡◌, refl}
use mathlib.Core.Bool.{Bool, true}
use mathlib.Core.List.{List, []}
use native.Mathlib.Omega.{arith}
use borrow.Author.Tests.{leb-true, eq-eqb, ne_eqb}
use lib.ListN.{length}
use lib.Dec.{eqb}
use Rattle.rules.specs.Choice.{pick, ◌and◌, all}
use Rattle.rules.specs.Bytes.{part, order, is_less}
use Rattle.rules.specs.Block.{whole_nodes}
use Rattle.rules.specs.Format.{reference_count, whole_references, entry_count, whole_entries, block_form_ok, block_depth_ok, block_rule, entry_at, reference_at, entry_name, reference_ok, ascending, entry_ok, reference_form_ok, forms_ok, entry_depth_ok, reference_depth_ok, depths_ok, entry_rule}
use Rattle.rules.specs.declared.table_record.Entry.{Entry}
use Rattle.rules.specs.declared.table_record.Reference.{Reference}
use Rattle.rules.proofs.Tests.{and_both, all_each}
use Rattle.block_laws.proofs.Forms.{ascending_iff}
use Rattle.block.specs.Sound.{SoundBlock}
use Rattle.schema.specs.Slices.{slices, entries_ok, references_ok, entries_shallow, references_shallow, EntriesSound, InlineSound, EntriesNamed, ReferencesNamed}
use Rattle.block.proofs.Parts.{form_sound}

all_same : (f g : ℕ → Bool) → ((i : ℕ) → f i ≡ g i) → (n : ℕ) → all f n ≡ all g n
unfolding all
all_same f g h zero = refl
all_same f g h (suc n) = rw (all_same f g h n, h n)

-- ---- a test looks at its slices alone
pub ascending_any : (table references names registry : List ℕ) (j : ℕ) → ascending (slices table names references registry) j ≡ ascending (slices [] names [] registry) j
unfolding ascending
ascending_any table references names registry zero = refl
ascending_any table references names registry (suc j) = refl

entry_any : (table names references registry : List ℕ) (j : ℕ) → entry_ok (slices table names references registry) j ≡ entry_ok (slices table names [] registry) j
unfolding entry_ok
entry_any table names references registry j = rw (ascending_any table references names registry j, ascending_any table [] names registry j)

pub forms_is : (table names references registry : List ℕ) → forms_ok (slices table names references registry) ≡ whole_nodes table and whole_references references and whole_entries registry and entries_ok table names registry and references_ok table names references
unfolding forms_ok reference_form_ok reference_ok
forms_is table names references registry = rw (all_same _ _ (entry_any table names references registry) (entry_count registry))

pub depths_is : (table names references registry : List ℕ) → depths_ok (slices table names references registry) ≡ entries_shallow table registry and references_shallow table references
unfolding depths_ok entry_depth_ok reference_depth_ok
depths_is table names references registry = refl

pub depths_any : (table names references registry : List ℕ) → depths_ok (slices table names references registry) ≡ depths_ok (slices table [] references registry)
unfolding depths_ok entry_depth_ok reference_depth_ok
depths_any table names references registry = refl

-- ---- a test of the code is the rules' test of that entry or reference
pub ascending_suc : (names registry : List ℕ) (j : ℕ) → (j ≡ 0 → ⊥) → (last e : Entry) → last ≡ entry_at registry (j - 1) → e ≡ entry_at registry j → (o : Ordering) → o ≡ order (part names last.start last.len) (part names e.start e.len) → (b : Bool) → b ≡ is_less o → b ≡ ascending (slices [] names [] registry) j
unfolding ascending entry_name
ascending_suc names registry zero h last e a c o p b q = absurd (h refl)
ascending_suc names registry (suc j) h last e a c o p b q =
    let k : suc j - 1 ≡ j = omega arith in
    rw (← k, ← a, k, ← c, ← p) q

module _ (table registry : List ℕ) (j : ℕ) (e : Entry) (is : e ≡ entry_at registry j) where
  pub entry_shallow : (b : Bool) → b ≡ block_depth_ok table e.first e.count → b ≡ entry_depth_ok (slices table [] [] registry) j
  unfolding entry_depth_ok
  entry_shallow b h = rw (← is) h

  pub entry_rule_lem : (r : Result ⊤ Refusal) → r ≡ block_rule table e.first e.count → r ≡ entry_rule (slices table [] [] registry) (0 + j)
  unfolding entry_rule
  entry_rule_lem r h = let z : 0 + j ≡ j = omega arith in rw (z, ← is) h

module _ (table references : List ℕ) (t : ℕ) (r : Reference) (is : r ≡ reference_at references t) where
  pub reference_form : (names : List ℕ) (b : Bool) → b ≡ reference_ok (slices table names [] []) r → b ≡ reference_form_ok (slices table names references []) t
  unfolding reference_form_ok reference_ok
  reference_form names b h = rw (← is) h

  pub reference_deep : (b : Bool) → b ≡ pick (eqb r.kind 0) (block_depth_ok table r.start r.len) true → b ≡ reference_depth_ok (slices table [] references []) t
  unfolding reference_depth_ok
  reference_deep b h = rw (← is) h

-- ---- what the forms give
module _ (table names registry : List ℕ) where
  pub entry_form : (j : ℕ) → entry_ok (slices table names [] registry) j ≡ true →
      ((entry_at registry j).start + (entry_at registry j).len ≤ length names) × (block_form_ok table (length names) (entry_at registry j).first (entry_at registry j).count ≡ true)
  unfolding entry_ok
  entry_form j e = let p = and_both _ _ (and_both _ _ e).0 in (leb-true _ _ p.0, p.1)

  pub entry_gives : (j : ℕ) → entry_ok (slices table names [] registry) j ≡ true → ((entry_at registry j).start + (entry_at registry j).len ≤ length names) × SoundBlock table (entry_at registry j).first (entry_at registry j).count
  entry_gives j e = let p = entry_form j e in (p.0, form_sound _ _ _ _ p.1)

  entry_ascends : (j : ℕ) → entry_ok (slices table names [] registry) j ≡ true → ascending (slices table names [] registry) j ≡ true
  unfolding entry_ok
  entry_ascends j e = (and_both _ _ e).1

  pub entries_named : entries_ok table names registry ≡ true → EntriesNamed names registry
  entries_named e = record {
    inside = λ j h. (entry_gives j (all_each _ _ j e h)).0;
    ascend = (ascending_iff (slices table names [] registry) (entry_count registry)).0 (λ j h. entry_ascends j (all_each _ _ j e h));
  }

  pub entries_sound : entries_ok table names registry ≡ true → EntriesSound table registry
  entries_sound e j h = (entry_gives j (all_each _ _ j e h)).1

module _ (table names : List ℕ) (r : Reference) (ok : reference_ok (slices table names [] []) r ≡ true) where
  pub inline_form : r.kind ≡ 0 → block_form_ok table (length names) r.start r.len ≡ true
  unfolding reference_ok pick
  inline_form z = rw (eq-eqb _ _ z) at (and_both _ _ ok).1

  pub name_inside : (r.kind ≡ 0 → ⊥) → r.start + r.len ≤ length names
  unfolding reference_ok pick
  name_inside z = leb-true _ _ (and_both _ _ (rw (ne_eqb _ _ z) at (and_both _ _ ok).1)).1

module _ (table names references : List ℕ) (ok : references_ok table names references ≡ true) where
  pub each_reference : (t : ℕ) → t < reference_count references → reference_ok (slices table names [] []) (reference_at references t) ≡ true
  unfolding reference_form_ok reference_ok
  each_reference t h = all_each _ _ t ok h

  pub inline_sound : InlineSound table references
  inline_sound t h z = form_sound _ _ _ (length names) (inline_form table names _ (each_reference t h) z)

  pub references_named : ReferencesNamed names references
  references_named t h z = name_inside table names _ (each_reference t h) z

-- what a test of one entry or reference asks, of each that is read
pub entry_sound : (table registry : List ℕ) → EntriesSound table registry → (j : ℕ) → j < entry_count registry → (e : Entry) → e ≡ entry_at registry j → SoundBlock table e.first e.count
entry_sound table registry h j l e is = rw is (h j l)

module _ (table names registry : List ℕ) (ok : entries_ok table names registry ≡ true) (j : ℕ) (l : j < entry_count registry) (e : Entry) (is : e ≡ entry_at registry j) where
  pub entry_named : e.start + e.len ≤ length names
  entry_named = rw is (entry_form table names registry j (all_each _ _ _ ok l)).0

  pub entry_formed : block_form_ok table (length names) e.first e.count ≡ true
  entry_formed = rw is (entry_form table names registry j (all_each _ _ _ ok l)).1

pub reference_sound : (table references : List ℕ) → InlineSound table references → (t : ℕ) → t < reference_count references → (r : Reference) → r ≡ reference_at references t → r.kind ≡ 0 → SoundBlock table r.start r.len
reference_sound table references h t l r is = rw is (h t l)

pub reference_asked : (table names references : List ℕ) → references_ok table names references ≡ true → (t : ℕ) → t < reference_count references → (r : Reference) → r ≡ reference_at references t → reference_ok (slices table names [] []) r ≡ true
reference_asked table names references h t l r is = rw is (each_reference table names references h t l)
