-- What an accepted format gives: forms to rely on.
-- Assumes nothing.
use Rattle.std.proofs.Common.{Ok}
use Prim.Native.Nat.{ℕ}
use mathlib.Core.Path.{◌≡◌}
use mathlib.Core.List.{List}
use Rattle.rules.specs.Format.{format_rules, format_rule}
use Rattle.rules.proofs.Checks.{pick_accepted}
use Rattle.schema.specs.Slices.{slices, Forms}
use Rattle.schema.proofs.Tables.{forms}

module _ (table names references registry : List ℕ) where
  -- the rules, its sizes left aside, accept it
  pub accepted_rules : format_rule (slices table names references registry) ≡ Ok tt → format_rules (slices table names references registry) ≡ Ok tt
  unfolding format_rule
  accepted_rules e = (pick_accepted _ _ _ e).1

  -- and all its forms are sound
  pub accepted_forms : format_rules (slices table names references registry) ≡ Ok tt → Forms (slices table names references registry)
  unfolding format_rules
  accepted_forms e = forms table names references registry (pick_accepted _ _ _ e).0
