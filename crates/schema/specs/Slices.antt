-- A format as the four slices that a call is given: its parts by the slices that each looks at, and what the check of the
-- forms lets the steps after it rely on.
-- Assumes nothing: these are definitions.
use Rattle.rules.specs.declared.refusal.Refusal.{Refusal}
use Rattle.std.specs.declared.cmp.Ordering.{Ordering}
use Rattle.std.specs.Prelude.{ℕ, ◌+◌, ◌≤◌, ◌<◌, ◌≡◌, Bool, List, [], length, Result, ⊤}
use Rattle.rules.specs.Choice.{all}
use Rattle.rules.specs.Refusals.{in_order}
use Rattle.rules.specs.Bytes.{order}
use Rattle.rules.specs.Format.{reference_count, entry_count, Format, entry_at, entry_name, reference_at, entry_ok, reference_form_ok, entry_depth_ok, reference_depth_ok, entry_utf8, reference_utf8, entry_rule}
use Rattle.block.specs.Sound.{SoundBlock}

abbrev pub slices : List ℕ → List ℕ → List ℕ → List ℕ → Format
slices table names references registry = record { table = table; names = names; references = references; registry = registry }

-- ---- the parts of a format's check, over the slices that they look at

abbrev pub entries_ok : List ℕ → List ℕ → List ℕ → Bool
entries_ok table names registry = all (entry_ok (slices table names [] registry)) (entry_count registry)

abbrev pub references_ok : List ℕ → List ℕ → List ℕ → Bool
references_ok table names references = all (reference_form_ok (slices table names references [])) (reference_count references)

abbrev pub entries_shallow : List ℕ → List ℕ → Bool
entries_shallow table registry = all (entry_depth_ok (slices table [] [] registry)) (entry_count registry)

abbrev pub references_shallow : List ℕ → List ℕ → Bool
references_shallow table references = all (reference_depth_ok (slices table [] references [])) (reference_count references)

abbrev pub entries_utf8 : List ℕ → List ℕ → List ℕ → Bool
entries_utf8 table names registry = all (entry_utf8 (slices table names [] registry)) (entry_count registry)

abbrev pub references_utf8 : List ℕ → List ℕ → List ℕ → Bool
references_utf8 table names references = all (reference_utf8 (slices table names references [])) (reference_count references)

abbrev pub entries_rule : List ℕ → List ℕ → Result ⊤ Refusal
entries_rule table registry = in_order (entry_rule (slices table [] [] registry)) 0 (entry_count registry)

-- ---- what the forms give

-- the blocks of the registry, and the inline ones
abbrev pub EntriesSound : List ℕ → List ℕ → Type 0
EntriesSound table registry = (j : ℕ) → j < entry_count registry → SoundBlock table (entry_at registry j).first (entry_at registry j).count

abbrev pub InlineSound : List ℕ → List ℕ → Type 0
InlineSound table references = (t : ℕ) → t < reference_count references → (reference_at references t).kind ≡ 0 → SoundBlock table (reference_at references t).start (reference_at references t).len

-- the names of the registry lie in the store, and ascend
pub record EntriesNamed (names registry : List ℕ) : Type 0 where
  pub inside : (j : ℕ) → j < entry_count registry → (entry_at registry j).start + (entry_at registry j).len ≤ length names
  pub ascend : (j : ℕ) → j + 1 < entry_count registry → order (entry_name names registry j) (entry_name names registry (j + 1)) ≡ Ordering.Less

-- those that references give lie there too
abbrev pub ReferencesNamed : List ℕ → List ℕ → Type 0
ReferencesNamed names references = (t : ℕ) → t < reference_count references → ((reference_at references t).kind ≡ 0 → ⊥) → (reference_at references t).start + (reference_at references t).len ≤ length names

-- what all forms of a format give
pub record Forms (f : Format) : Type 0 where
  pub entries : EntriesSound f.table f.registry
  pub inline : InlineSound f.table f.references
  pub entry_names : EntriesNamed f.names f.registry
  pub reference_names : ReferencesNamed f.names f.references
