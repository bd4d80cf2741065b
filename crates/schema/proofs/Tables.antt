-- Where a table's schema stands over a checked format, and the rules of one table.
-- Assumes nothing.
use Rattle.std.specs.Prelude.{⊤}
use Rattle.std.proofs.Common.{Result, Ok, Err}
use Prim.Native.Nat.{ℕ, ◌+◌, ◌<◌}
use mathlib.Core.Path.{◌≡◌, refl, sym, ◌∙◌}
use mathlib.Core.Bool.{Bool, true, false}
use mathlib.Core.List.{List, []}
use native.Mathlib.Omega.{arith}
use borrow.Author.Tests.{eqb-true}
use lib.Dec.{eqb}
use Rattle.rules.specs.Choice.{pick}
use Rattle.rules.specs.Refusals.{◌then◌, in_order, EmptyTableSchemas}
use Rattle.rules.specs.Bytes.{part}
use Rattle.rules.specs.Format.{reference_count, entry_count, Format, reference_at, entry_at, lookup, resolved, forms_ok, inline_rule, root_of, reference_rule, entry_rule, rules_order}
use Rattle.rules.specs.declared.table_record.Reference.{Reference}
use Rattle.rules.specs.declared.refusal.Refusal.{Refusal}
use Rattle.rules.specs.declared.table_record.Located.{Located}
use Rattle.rules.specs.declared.table_record.Located.TheVariants.{Block, NoTable, NoEntry}
use Rattle.rules.proofs.Tests.{and_both}
use Rattle.schema.specs.Slices.{slices, entries_rule, Forms}
use Rattle.schema.proofs.Lookups.{lookup_in}
use Rattle.schema.proofs.Given.{forms_is, entries_sound, entries_named, inline_sound, references_named}

-- what the test of the forms gives
pub forms : (table names references registry : List ℕ) → forms_ok (slices table names references registry) ≡ true → Forms (slices table names references registry)
forms table names references registry e =
    let p = and_both _ _ (rw (forms_is table names references registry) at e) in
    let q = and_both _ _ p.0 in
    record {
      entries = entries_sound _ _ _ q.1;
      inline = inline_sound _ _ _ p.1;
      entry_names = entries_named _ _ _ q.1;
      reference_names = references_named _ _ _ p.1;
    }

-- what holds of each entry's block and of an inline block holds of the block that is found
pub resolved_in : (names registry : List ℕ) (r : Reference) (P : ℕ → ℕ → Type 0) → ((j : ℕ) → j < entry_count registry → P (entry_at registry j).first (entry_at registry j).count) → (r.kind ≡ 0 → P r.start r.len) → (first n : ℕ) → resolved names registry r ≡ Block first n → P first n
unfolding resolved pick
resolved_in names registry r P h i first n e = by (eqb r.kind 0) refl e
  where
    by : (b : Bool) → eqb r.kind 0 ≡ b → pick b (Block r.start r.len) (lookup names registry (part names r.start r.len) 0 (entry_count registry)) ≡ Block first n → P first n
    by true q e =
        let x : first ≡ r.start = cc in
        let y : n ≡ r.len = cc in
        rw (x, y) (i (eqb-true _ _ q))
    by false q e = lookup_in _ _ _ P 0 (entry_count registry) first n (λ k l. h k (omega arith)) e

-- ---- a table's rule by its steps
root_any : (table names references registry : List ℕ) (t : ℕ) (l : Located) → root_of (slices table names references registry) t l ≡ root_of (slices table [] [] []) t l
unfolding root_of
root_any table names references registry t (Block first n) = refl
root_any table names references registry t NoTable = refl
root_any table names references registry t NoEntry = refl

module _ (table names references registry : List ℕ) (t : ℕ) (r : Reference) (is : r ≡ reference_at references t) (a : Result ⊤ Refusal) (says : a ≡ inline_rule (slices table [] [] []) r) where
  pub rule_inline : {x : Refusal} → a ≡ Err x → a ≡ reference_rule (slices table names references registry) t
  unfolding reference_rule inline_rule ◌then◌
  rule_inline e = rw (← is, ← says, e)

  pub rule_root : a ≡ Ok tt → (l : Located) → l ≡ resolved names registry r → (b : Result ⊤ Refusal) → b ≡ root_of (slices table [] [] []) t l → b ≡ reference_rule (slices table names references registry) t
  unfolding reference_rule inline_rule ◌then◌
  rule_root e l found b q = rw (← is, ← says, e, ← found) (q ∙ sym (root_any table names references registry t l))

-- tables are counted from 0
pub table_turn : (f : Format) (t : ℕ) (r : Result ⊤ Refusal) → r ≡ reference_rule f t → r ≡ reference_rule f (0 + t)
table_turn f t r e = let z : 0 + t ≡ t = omega arith in rw z e

pub rules_is : (table names references registry : List ℕ) → rules_order (slices table names references registry) ≡ pick (eqb (reference_count references) 0) (Err EmptyTableSchemas) (entries_rule table registry then in_order (reference_rule (slices table names references registry)) 0 (reference_count references))
unfolding rules_order entry_rule
rules_is table names references registry = refl
