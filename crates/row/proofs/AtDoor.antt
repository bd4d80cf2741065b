-- The door, test by test, and what is known behind it.
-- Assumes nothing.
use Rattle.std.specs.Prelude.{⊤}
use Rattle.std.proofs.Common.{Result, Ok, Err}
use Prim.Native.Nat.{ℕ, ◌≤◌, ◌<◌}
use mathlib.Core.Path.{◌≡◌, sym, ◌∙◌}
use mathlib.Core.Bool.{true, false}
use mathlib.Core.List.{List}
use native.Mathlib.Omega.{arith}
use borrow.Author.Tests.{le-leb, lt-leb, eq-eqb, ne_eqb}
use lib.Dec.{eqb}
use lib.ListN.{length}
use Rattle.rules.specs.Choice.{pick, ◌and◌}
use Rattle.rules.specs.Format.{Format, format_rules}
use Rattle.rules.specs.Reading.{when_accepted, bounds_ok, door}
use Rattle.rules.specs.declared.settings.Settings.{Settings}
use Rattle.rules.specs.declared.refusal.Refusal.{Refusal}
use Rattle.rules.specs.Refusals.{Setting}
use Rattle.rules.specs.declared.answer.Door.{Door}
use Rattle.row_laws.proofs.Door.{behind_open}
use Rattle.row.specs.Steps.{ThroughDoor}

module _ (f : Format) (s : Settings) (inp : List ℕ) (at : ℕ) where
  pub door_bounds : bounds_ok s f inp ≡ false → Err Setting ≡ door f s inp at
  unfolding door pick ◌and◌
  door_bounds b = rw b

  module _ (b : bounds_ok s f inp ≡ true) where
    pub door_beyond : length inp < at → Err Setting ≡ door f s inp at
    unfolding door pick ◌and◌
    door_beyond h = rw (b, lt-leb at (length inp) h)

    module _ (h : at ≤ length inp) (c : Result ⊤ Refusal) (is : c ≡ format_rules f) where
      tested : door f s inp at ≡ when_accepted Err c (pick (eqb at (length inp)) (Ok Door.End) (Ok Door.Open))
      unfolding door pick ◌and◌
      tested = rw (b, le-leb at (length inp) h, is)

      pub door_format : (r : Refusal) → c ≡ Err r → Err r ≡ door f s inp at
      unfolding when_accepted
      door_format r e = sym (tested ∙ rw e)

      pub door_end : c ≡ Ok tt → at ≡ length inp → Ok Door.End ≡ door f s inp at
      unfolding when_accepted pick
      door_end e q = sym (tested ∙ rw (e, eq-eqb at (length inp) q))

      pub door_open : c ≡ Ok tt → (at ≡ length inp → ⊥) → Ok Door.Open ≡ door f s inp at
      unfolding when_accepted pick
      door_open e q = sym (tested ∙ rw (e, ne_eqb at (length inp) q))

  -- what was tested before a row is looked at
  pub asked : (d : Result Door Refusal) → d ≡ door f s inp at → d ≡ Ok Door.Open → ThroughDoor f inp s × (at ≤ length inp)
  asked d is e =
      let o = behind_open f s inp at (sym is ∙ e) in
      (record { accepted = o.0.format; settings = o.0.settings; short = omega (arith, o.0.short) }, omega (arith, o.1))
