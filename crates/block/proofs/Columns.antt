-- A column as a node of its block: what the rule of its name says, where the code counts columns from 0.
-- Assumes nothing.
use Rattle.rules.specs.declared.refusal.Refusal.{Refusal}
use Rattle.std.specs.Prelude.{⊤}
use Rattle.std.proofs.Common.{Result}
use Prim.Native.Nat.{ℕ, ◌+◌, ◌-◌}
use mathlib.Core.Path.{◌≡◌}
use mathlib.Core.List.{List}
use native.Mathlib.Omega.{arith}
use Rattle.rules.specs.Block.{node_at}
use Rattle.rules.specs.SchemaRules.{name_rule, child_rule}
use Rattle.rules.specs.declared.table_record.Node.{Node}

pub child_rule_lem : (s : List ℕ) (base first k : ℕ) (n : Node) (r : Result ⊤ Refusal) → n ≡ node_at s (first + k) → first ≡ (node_at s 0).first → r ≡ name_rule (base + (first + k)) k n → r ≡ child_rule s base (first + k)
unfolding child_rule
child_rule_lem s base first k n r a b e =
    let d : (first + k) - first ≡ k = omega arith in
    rw (← b, d, ← a) e
