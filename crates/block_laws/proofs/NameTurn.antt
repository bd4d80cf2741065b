-- When names are refused: a format by 33 just where its sizes, forms and depths stand and a name is not well-formed UTF-8.
-- Assumes nothing.
use Rattle.std.specs.Prelude.{⊤}
use Rattle.std.proofs.Common.{Result, Ok, Err}
use Prim.Native.Nat.{ℕ, ◌≤◌}
use mathlib.Core.Path.{◌≡◌, refl}
use mathlib.Core.Bool.{Bool, true, false}
use mathlib.Core.List.{List}
use mathlib.Core.Logic.{◌↔◌}
use native.Mathlib.Omega.{arith}
use borrow.Author.Tests.{leb-true, le-leb, eq-eqb, ne_eqb}
use lib.ListN.{length}
use Rattle.rules.specs.Choice.{pick}
use Rattle.rules.specs.Bytes.{longest_slice}
use Rattle.rules.specs.Refusals.{line_of, refusal_number, Setting, BadSchemaTable, TooDeep, NameNotUtf8}
use Rattle.rules.specs.Answers.{said, none_said, checked_said}
use Rattle.rules.specs.Utf8.{Utf8}
use Rattle.rules.specs.Format.{Format, reference_at, depths_ok, forms_ok, sizes_ok, block_utf8, entry_utf8, reference_utf8, format_utf8, rules_order, format_rules, format_rule, name_answer}
use Rattle.rules.specs.declared.refusal.Refusal.{Refusal}
use Rattle.rules.proofs.Tests.{and_both, all_each}
use Rattle.rules.proofs.Checks.{pick_accepted}
use Rattle.block_laws.proofs.Utf8.{utf8_exactly}
use Rattle.block_laws.proofs.Turns.{accepted_pick}
use Rattle.block_laws.proofs.Good.{names_accept}
use Rattle.block_laws.proofs.Honest.{broken_number}
use Rattle.block_laws.proofs.FormatReasons.{BlockOf, of_entry, of_table, FormatReason, too_long, bad_form, too_deep, bad_node_name, bad_entry_name, bad_reference_name, broken, no_tables, unknown, root_not_tuple, no_name, format_honest}

-- a name by itself
pub one_name : (name : List ℕ) → (name_answer name ≡ Ok tt) ↔ ((length name ≤ longest_slice) × Utf8 name)
unfolding name_answer
one_name name = (
  λ e.
      let a = pick_accepted _ _ _ e in
      let b = pick_accepted _ _ _ a.1 in
      (leb-true _ _ a.0, (utf8_exactly name).0 b.0),
  λ p. accepted_pick _ _ _ (le-leb _ _ p.0) (accepted_pick _ _ _ ((utf8_exactly name).1 p.1) refl),
)

module _ (f : Format) (ok : format_utf8 f ≡ true) where
  -- where all names stand, those of each block do
  block_named : {first n : ℕ} → BlockOf f first n → block_utf8 f.table f.names first n ≡ true
  unfolding format_utf8 entry_utf8 reference_utf8 pick
  block_named (of_entry {j = j} h) = (and_both _ _ (all_each _ _ j (and_both _ _ ok).0 h)).1
  block_named (of_table {t = t} h k) = rw (eq-eqb _ _ k) at (all_each _ _ t (and_both _ _ ok).1 h)

  -- so no reason is a name
  no_bad_name : (r : Refusal) → FormatReason f r → refusal_number r ≡ 33 → ⊥
  unfolding line_of format_utf8 entry_utf8 reference_utf8 pick
  no_bad_name _ (bad_node_name b n) e = n.bad ((names_accept _ _ _ _).0 (block_named b) n.node n.inside)
  no_bad_name _ (bad_entry_name {j = j} h u) e = u ((utf8_exactly _).0 (and_both _ _ (all_each _ _ j (and_both _ _ ok).0 h)).0)
  no_bad_name _ (bad_reference_name {t = t} h k u) e =
      u ((utf8_exactly _).0 (rw (ne_eqb (reference_at f.references t).kind 0 (λ z. omega (arith, k))) at (all_each _ _ t (and_both _ _ ok).1 h)))
  no_bad_name _ (too_long h) e = omega arith
  no_bad_name _ (bad_form h) e = omega arith
  no_bad_name _ (too_deep b h) e = omega arith
  no_bad_name r (broken b w) e = let n = broken_number r w in omega arith
  no_bad_name _ (no_tables h) e = omega arith
  no_bad_name _ (unknown h k n) e = omega arith
  no_bad_name _ (root_not_tuple h s c) e = omega arith
  no_bad_name _ (no_name h s k c) e = omega arith

-- after sizes, forms and depths, and before all the rest
pub turn_of_names : (f : Format) → ((checked_said (format_rule f)).number ≡ 33) ↔ ((sizes_ok f ≡ true) × (forms_ok f ≡ true) × (depths_ok f ≡ true) × (format_utf8 f ≡ false))
unfolding format_rule format_rules checked_said said none_said line_of pick
turn_of_names f = (λ e. by (sizes_ok f) (forms_ok f) (depths_ok f) (format_utf8 f) refl refl refl refl e, λ (s, w, d, n). rw (s, w, d, n))
  where
    refused : (c : Result ⊤ Refusal) → format_rule f ≡ c → format_utf8 f ≡ true → (checked_said c).number ≡ 33 → ⊥
    refused (Ok tt) p n e = omega arith
    refused (Err r) p n e = no_bad_name f n r (format_honest f r p) e

    by : (s w d n : Bool) → sizes_ok f ≡ s → forms_ok f ≡ w → depths_ok f ≡ d → format_utf8 f ≡ n →
        (checked_said (pick s (pick w (pick d (pick n (rules_order f) (Err NameNotUtf8)) (Err TooDeep)) (Err BadSchemaTable)) (Err Setting))).number ≡ 33 →
        (s ≡ true) × (w ≡ true) × (d ≡ true) × (n ≡ false)
    by false w d n p q r t e = absurd (omega arith)
    by true false d n p q r t e = absurd (omega arith)
    by true true false n p q r t e = absurd (omega arith)
    by true true true false p q r t e = (refl, refl, refl, refl)
    by true true true true p q r t e = absurd (refused (rules_order f) (rw (p, q, r, t)) t e)
