-- A row's value, from the root of its block: charged, and entered by its children.
-- Assumes nothing.
use Rattle.std.proofs.Common.{Result, Ok, Err}
use Prim.Native.Nat.{ℕ}
use mathlib.Core.Path.{◌≡◌, sym, ◌∙◌}
use mathlib.Core.List.{List}
use native.Mathlib.Omega.{arith}
use borrow.Author.Tests.{leb-true}
use Rattle.rules.specs.Reading.{settings_ok, limits, start}
use Rattle.rules.specs.Walk.{walk}
use Rattle.rules.specs.declared.refusal.Refusal.{Refusal}
use Rattle.rules.specs.declared.settings.Settings.{Settings}
use Rattle.rules.proofs.Tests.{and_both}
use Rattle.leaves.specs.Budget.{fresh, spent}
use Rattle.leaves.specs.Leaf.{standing}
use Rattle.read.specs.Skim.{skim_pos, skimmed, skim_node, skim}
use Rattle.read.specs.Ready.{Ready, Rooted}
use Rattle.leaves.specs.declared.budget.RowBudget.{RowBudget}
use Rattle.read.proofs.Same.{skim_same}
use Rattle.read.proofs.Steps.{ready_paid}
use Rattle.read.proofs.Nodes.{skim_dear, skim_paid}

module _ (sch inp : List ℕ) (s : Settings) (at : ℕ) (b : RowBudget) (e : b ≡ fresh s.max_string32_bytes s.max_yson32_bytes s.max_row_bytes) where
  -- the whole allowance is left
  same : skim sch inp s.node_charge 64 0 (standing at b 0 0) ≡ skimmed (limits s) (walk sch inp (limits s) 64 0 (start (limits s) at))
  unfolding limits start skim_pos fresh
  same = rw e (sym (skim_same (limits s) sch inp 64 0 (start (limits s) at)))

  ready : Rooted sch inp s at → Ready inp s.node_charge (standing at b 0 0)
  unfolding settings_ok fresh
  ready k =
      let x = and_both _ _ k.accepted in
      let y = and_both _ _ x.0 in
      let z = and_both _ _ y.0 in
      let w = and_both _ _ z.0 in
      record {
        stands = record { within = k.within; short = k.short; passed = omega arith };
        costs = leb-true 1 s.node_charge w.0;
        total = rw e (omega (arith, leb-true s.max_row_bytes 4294967295 x.1));
      }

  module _ (c : Result RowBudget Refusal) (is : c ≡ spent b s.node_charge at) where
    pub root_dear : (r : Refusal) → c ≡ Err r → Err r ≡ skimmed (limits s) (walk sch inp (limits s) 64 0 (start (limits s) at))
    root_dear r f = sym (skim_dear sch inp s.node_charge 64 0 (standing at b 0 0) (λ z. omega arith) c is r f) ∙ same

    pub root_paid : (a : RowBudget) → c ≡ Ok a → skim_node sch inp (skim sch inp s.node_charge 63) 0 (standing at a 1 0) ≡ skimmed (limits s) (walk sch inp (limits s) 64 0 (start (limits s) at))
    root_paid a f = sym (skim_paid sch inp s.node_charge 64 0 (standing at b 0 0) (λ z. omega arith) c is a f) ∙ same

    pub root_ready : (a : RowBudget) → c ≡ Ok a → Rooted sch inp s at → Ready inp s.node_charge (standing at a 1 0)
    root_ready a f k = ready_paid inp s.node_charge (standing at b 0 0) c a (ready k) is f
