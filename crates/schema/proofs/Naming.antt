-- The names of a format over the slices that each test looks at; and a store that is ASCII alone.
-- Assumes nothing.
use Prim.Native.Nat.{ℕ}
use mathlib.Core.Path.{◌≡◌, refl}
use mathlib.Core.Bool.{Bool, true}
use mathlib.Core.List.{List, []}
use lib.Dec.{eqb}
use Rattle.rules.specs.Choice.{pick, ◌and◌}
use Rattle.rules.specs.Bytes.{part}
use Rattle.rules.specs.Utf8.{is_utf8}
use Rattle.rules.specs.Format.{block_utf8, entry_at, reference_at, entry_name, forms_ok, entry_utf8, reference_utf8, format_utf8}
use Rattle.rules.specs.declared.table_record.Entry.{Entry}
use Rattle.rules.specs.declared.table_record.Reference.{Reference}
use Rattle.rules.proofs.Tests.{and_both, and_true, all_true, either}
use Rattle.utf8.specs.Ascii.{short_ascii}
use Rattle.utf8.proofs.Stores.{store_utf8}
use Rattle.block.proofs.Spans.{ascii_names}
use Rattle.schema.specs.Slices.{slices, entries_ok, references_ok, entries_utf8, references_utf8}
use Rattle.schema.proofs.Given.{forms_is}

module _ (table names references registry : List ℕ) where
  pub names_is : format_utf8 (slices table names references registry) ≡ entries_utf8 table names registry and references_utf8 table names references
  unfolding format_utf8 entry_utf8 reference_utf8
  names_is = refl

  pub forms_both : forms_ok (slices table names references registry) ≡ true → (entries_ok table names registry ≡ true) × (references_ok table names references ≡ true)
  forms_both e = let p = and_both _ _ (rw (forms_is table names references registry) at e) in ((and_both _ _ p.0).1, p.1)

  -- of a store that is ASCII alone every name is well formed
  pub all_ascii : (most : ℕ) → short_ascii names most ≡ true → format_utf8 (slices table names references registry) ≡ true
  unfolding format_utf8 entry_utf8 reference_utf8 entry_name
  all_ascii most e = and_true _ _
      (all_true _ _ (λ j h. and_true _ _ (store_utf8 names most e _ _) (ascii_names table names most e _ _)))
      (all_true _ _ (λ t h. either (λ (b : Bool). b ≡ true) _ (λ z. ascii_names table names most e _ _) (λ z. store_utf8 names most e _ _)))

-- ---- a test of the code is the rules' test of that entry or reference
pub entry_names : (table names registry : List ℕ) (j : ℕ) (e : Entry) → e ≡ entry_at registry j →
    (b : Bool) → b ≡ is_utf8 (part names e.start e.len) and block_utf8 table names e.first e.count → b ≡ entry_utf8 (slices table names [] registry) j
unfolding entry_utf8 entry_name
entry_names table names registry j e is b h = rw (← is) h

pub reference_names : (table names references : List ℕ) (t : ℕ) (r : Reference) → r ≡ reference_at references t →
    (b : Bool) → b ≡ pick (eqb r.kind 0) (block_utf8 table names r.start r.len) (is_utf8 (part names r.start r.len)) → b ≡ reference_utf8 (slices table names references []) t
unfolding reference_utf8
reference_names table names references t r is b h = rw (← is) h
