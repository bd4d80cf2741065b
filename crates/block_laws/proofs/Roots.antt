-- A table's root and names are accepted just if the schema's root is a tuple whose children have non-empty names.
-- Assumes nothing.
use Rattle.std.proofs.Common.{Ok}
use Prim.Native.Nat.{ℕ, zero, suc, ◌+◌, ◌-◌, ◌<◌}
use mathlib.Core.Path.{◌≡◌, refl, sym, ◌∙◌}
use mathlib.Core.Bool.{Bool, true, false}
use mathlib.Core.List.{List}
use mathlib.Core.Logic.{◌↔◌}
use native.Mathlib.Omega.{arith}
use borrow.Author.Tests.{ltb-true, eqb-true, lt-ltb, eq-eqb}
use lib.Dec.{eqb, ltb}
use Rattle.rules.specs.Choice.{pick, ◌and◌}
use Rattle.rules.specs.Bytes.{part}
use Rattle.rules.specs.Refusals.{◌then◌, in_order}
use Rattle.rules.specs.Schema.{unnamed, named, Schema, Schemas, NonEmpty, AllNamed, TableRoot}
use Rattle.rules.specs.Block.{node_at, name_in, Denotes, denotes, DenoteAll, no_node, a_node}
use Rattle.rules.specs.SchemaRules.{name_rule, root_rule, child_rule, table_rule}
use Rattle.rules.specs.declared.table_record.Node.{Node}
use Rattle.rules.specs.declared.answer.Purpose.{Purpose}
use Rattle.rules.proofs.Tests.{and_both, and_true}
use Rattle.rules.proofs.Checks.{then_both, pick_accepted}

part-some : (store : List ℕ) (at n : ℕ) → 0 < n → NonEmpty (named (part store at n))
unfolding part NonEmpty
part-some store at zero h = absurd (omega arith)
part-some store at (suc n) h = tt

some_part : (store : List ℕ) (at n : ℕ) → NonEmpty (named (part store at n)) → 0 < n
unfolding part NonEmpty
some_part store at zero h = absurd h
some_part store at (suc n) h = omega arith

module _ (store : List ℕ) (place index : ℕ) (n : Node) where
  rule_name : name_rule place index n ≡ Ok tt → NonEmpty (name_in store n)
  unfolding name_rule name_in pick
  rule_name e =
      let p = and_both _ _ (pick_accepted (eqb n.named 1 and ltb 0 n.len) _ _ e).0 in
      rw p.0 (part-some store n.start n.len (ltb-true _ _ p.1))

  pub name_rule_lem : NonEmpty (name_in store n) → name_rule place index n ≡ Ok tt
  unfolding name_rule name_in pick NonEmpty
  name_rule_lem h = by (eqb n.named 1) refl h
    where
      by : (b : Bool) → eqb n.named 1 ≡ b → NonEmpty (pick b (named (part store n.start n.len)) unnamed) → name_rule place index n ≡ Ok tt
      by true e h = rw (and_true _ _ e (lt-ltb 0 n.len (some_part store n.start n.len h)))
      by false e h = absurd h

module _ (s store : List ℕ) (base : ℕ) where
  all_named : {j n : ℕ} {ts : Schemas} → DenoteAll s store j n ts → in_order (child_rule s base) j n ≡ Ok tt → AllNamed ts
  unfolding AllNamed in_order child_rule
  all_named no_node e = tt
  all_named {j = j} (a_node (denotes l k m a) y) e =
      let q = then_both _ _ e in
      (rw (← m) (rule_name store _ _ (node_at s j) q.0), all_named y q.1)

  named_all : {j n : ℕ} {ts : Schemas} → DenoteAll s store j n ts → AllNamed ts → in_order (child_rule s base) j n ≡ Ok tt
  unfolding AllNamed in_order child_rule ◌then◌
  named_all no_node h = refl
  named_all {j = j} (a_node (denotes l k m a) y) h = rw (name_rule_lem store (base + j) (j - (node_at s 0).first) (node_at s j) (rw m h.0)) (named_all y h.1)

  pub table_accepts : {t : Schema} → Denotes s store 0 t → (purpose : Purpose) → (table_rule purpose s base ≡ Ok tt) ↔ TableRoot t
  unfolding table_rule root_rule TableRoot ◌then◌ pick
  table_accepts (denotes l k m a) purpose = (
    λ e.
        let q = then_both _ _ e in
        (sym k ∙ eqb-true _ _ (pick_accepted (eqb (node_at s 0).code 19) _ _ q.0).0, all_named a q.1),
    λ h. rw (eq-eqb (node_at s 0).code 19 (k ∙ h.0)) (named_all a h.1),
  )
