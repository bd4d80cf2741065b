-- What the answers of the check say of records and payload store.
-- Assumes nothing.
use Rattle.rules.specs.declared.refusal.Refusal.{Refusal}
use Rattle.std.specs.Prelude.{⊤}
use Rattle.std.proofs.Common.{Result, Ok, Err}
use Prim.Native.Nat.{ℕ, ◌≤◌}
use mathlib.Core.Path.{◌≡◌, refl, ap, ◌∙◌}
use mathlib.Core.Bool.{Bool, true, false}
use mathlib.Core.List.{List}
use mathlib.Core.Logic.{◌↔◌}
use native.Mathlib.Omega.{arith}
use borrow.Author.Tests.{le-leb, leb-true}
use lib.ListN.{length}
use Rattle.rules.specs.Choice.{pick, ◌and◌}
use Rattle.rules.specs.Refusals.{Setting, BadValueTable, line_of}
use Rattle.rules.specs.Format.{short_ok}
use Rattle.rules.specs.Value.{Value}
use Rattle.rules.specs.ValueTable.{TableOf, Parsed, Whole, Broken, table_value}
use Rattle.rules.specs.ValueCheck.{form_checked, table_form, value_table_rule}
use Rattle.rules.specs.Answers.{said, none_said, checked_said}
use Rattle.rules.proofs.Tests.{and_both, and_true}
use Rattle.value_laws.proofs.Parse.{is_table}
use Rattle.value_laws.proofs.Flat.{accepted, no_table}

-- both slices are inside the bounds
pub record Short (records payload : List ℕ) : Type 0 where
  pub records_size : length records ≤ 4294967295
  pub payload_size : length payload ≤ 4294967295

-- answers with two numbers are two answers
apart : {A : Type 0} (a b : Result ⊤ Refusal) → a ≡ b → ((checked_said a).number ≡ (checked_said b).number → ⊥) → A
apart a b e n = absurd (n (ap (λ x. (checked_said x).number) e))

module _ (records payload : List ℕ) where
  in_bounds : Short records payload → value_table_rule records payload ≡ table_form records payload
  unfolding value_table_rule pick
  in_bounds s = rw (and_true (short_ok records) (short_ok payload) (le-leb _ _ s.records_size) (le-leb _ _ s.payload_size))

  -- an answer that is not 1 comes from slices inside the bounds, and from the form
  judged : (a : Result ⊤ Refusal) → (Err Setting ≡ a → ⊥) → value_table_rule records payload ≡ a → Short records payload × (table_form records payload ≡ a)
  unfolding value_table_rule pick
  judged a n = by (short_ok records and short_ok payload) refl
    where
      by : (b : Bool) → short_ok records and short_ok payload ≡ b → pick b (table_form records payload) (Err Setting) ≡ a → Short records payload × (table_form records payload ≡ a)
      by true t e = let p = and_both _ _ t in (record { records_size = leb-true _ _ p.0; payload_size = leb-true _ _ p.1 }, e)
      by false t e = absurd (n e)

  -- Accepted just where they are the table of a value.
  pub accepts_tables : (value_table_rule records payload ≡ Ok tt) ↔ (Short records payload × ((v : Value) × TableOf v records payload))
  unfolding table_form form_checked line_of said none_said checked_said
  accepts_tables = (
    λ e.
        let j = judged (Ok tt) (λ x. apart (Err Setting) (Ok tt) x (λ n. omega arith)) e in
        (j.0, by (table_value records payload) refl j.1),
    λ h. in_bounds h.0 ∙ rw (accepted records payload h.1.0 h.0.records_size h.1.1),
  )
    where
      by : (x : Parsed Value) → table_value records payload ≡ x → form_checked x ≡ Ok tt → (v : Value) × TableOf v records payload
      by (Whole v q) t e = (v, is_table records payload v q t)
      by Broken t e = apart (Err BadValueTable) (Ok tt) e (λ n. omega arith)

  -- Refused by 18 just where they are that of none.
  pub refuses_others : (value_table_rule records payload ≡ Err BadValueTable) ↔ (Short records payload × ((v : Value) → TableOf v records payload → ⊥))
  unfolding table_form form_checked line_of said none_said checked_said
  refuses_others = (
    λ e.
        let j = judged (Err BadValueTable) (λ x. apart (Err Setting) (Err BadValueTable) x (λ n. omega arith)) e in
        (j.0, (no_table records payload j.0.records_size).0 (by (table_value records payload) j.1)),
    λ h. in_bounds h.0 ∙ rw ((no_table records payload h.0.records_size).1 h.1),
  )
    where
      by : (x : Parsed Value) → form_checked x ≡ Err BadValueTable → x ≡ Broken
      by (Whole v q) e = apart (Ok tt) (Err BadValueTable) e (λ n. omega arith)
      by Broken e = refl
