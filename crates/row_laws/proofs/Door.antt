-- The door: where it is open, where it says the end, and what is known behind it.
-- Assumes nothing.
use Rattle.std.specs.Prelude.{⊤}
use Rattle.std.proofs.Common.{Result, Ok, Err}
use Prim.Native.Nat.{ℕ, ◌≤◌, ◌<◌}
use mathlib.Core.Path.{◌≡◌, refl}
use mathlib.Core.Bool.{Bool, true, false}
use mathlib.Core.Logic.{◌⊎◌, inl, inr}
use mathlib.Core.List.{List}
use native.Mathlib.Omega.{arith}
use borrow.Author.Tests.{leb-true, le-leb, eqb-false}
use lib.Dec.{leb, eqb}
use lib.ListN.{length}
use Rattle.rules.specs.Choice.{pick, ◌and◌}
use Rattle.rules.specs.Format.{Format, sizes_ok, short_ok, format_rules, format_rule}
use Rattle.rules.specs.Reading.{settings_ok, when_accepted, door, through}
use Rattle.rules.specs.declared.settings.Settings.{Settings}
use Rattle.rules.specs.declared.refusal.Refusal.{Refusal}
use Rattle.rules.specs.Refusals.{Setting}
use Rattle.rules.specs.declared.answer.Door.{Door}
use Rattle.rules.proofs.Tests.{and_both}

-- behind a door that is shut for nothing but the end
pub through_end : {A : Type 0} (b : Bool) (refuse : Refusal → A) (end found : A) → through (pick b (Ok Door.End) (Ok Door.Open)) refuse end found ≡ pick b end found
unfolding through pick
through_end true refuse end found = refl
through_end false refuse end found = refl

module _ (f : Format) (s : Settings) (inp : List ℕ) where
  -- what a call may be asked: settings and slices inside document 01's bounds, and a format that is accepted
  pub record MayAsk : Type 0 where
    pub settings : settings_ok s ≡ true
    pub sizes : sizes_ok f ≡ true
    pub short : length inp ≤ 4294967295
    pub format : format_rules f ≡ Ok tt

  -- then the end alone shuts it
  pub door_asked : MayAsk → (at : ℕ) → at ≤ length inp → door f s inp at ≡ pick (eqb at (length inp)) (Ok Door.End) (Ok Door.Open)
  unfolding door pick ◌and◌ when_accepted
  door_asked ok at h = rw (ok.settings, ok.sizes, le-leb (length inp) 4294967295 ok.short, le-leb at (length inp) h, ok.format)

  module _ (at : ℕ) where
    -- the tests on the way to an answer
    abbrev Tests : Bool → Result ⊤ Refusal → Bool → Result Door Refusal
    Tests b c last = pick b (when_accepted Err c (pick last (Ok Door.End) (Ok Door.Open))) (Err Setting)

    abbrev bounds : Bool
    bounds = settings_ok s and sizes_ok f and short_ok inp and leb at (length inp)

    -- behind an open door there is a format that is accepted, and a byte
    pub behind_open : door f s inp at ≡ Ok Door.Open → MayAsk × (at < length inp)
    unfolding door pick when_accepted
    behind_open e = by bounds refl (format_rules f) refl (eqb at (length inp)) refl e
      where
        by : (b : Bool) → bounds ≡ b → (c : Result ⊤ Refusal) → format_rules f ≡ c → (last : Bool) → eqb at (length inp) ≡ last → Tests b c last ≡ Ok Door.Open → MayAsk × (at < length inp)
        by true i (Ok tt) j false k e =
            let p = and_both _ _ i in
            let q = and_both _ _ p.0 in
            let r = and_both _ _ q.0 in
            let h = leb-true at (length inp) p.1 in
            let n = eqb-false at (length inp) k in
            (record { settings = r.0; sizes = r.1; short = leb-true (length inp) 4294967295 q.1; format = j }, omega (arith, h, n))
        by true i (Ok tt) j true k e = absurd (let z : ◌≡◌ {A = ℕ} 0 1 = cc in omega arith)
        by true i (Err r) j last k e = absurd (let z : ◌≡◌ {A = ℕ} 0 1 = cc in omega arith)
        by false i c j last k e = absurd (let z : ◌≡◌ {A = ℕ} 0 1 = cc in omega arith)

    -- what is refused there is a setting, a size or a position, or the format is refused so
    pub refused_at_door : (why : Refusal) → door f s inp at ≡ Err why → (why ≡ Setting) ⊎ (format_rule f ≡ Err why)
    unfolding door pick when_accepted format_rule
    refused_at_door why e = by bounds refl (format_rules f) refl (eqb at (length inp)) e
      where
        by : (b : Bool) → bounds ≡ b → (c : Result ⊤ Refusal) → format_rules f ≡ c → (last : Bool) → Tests b c last ≡ Err why → (why ≡ Setting) ⊎ (format_rule f ≡ Err why)
        by true i (Ok tt) j true e = absurd (let z : ◌≡◌ {A = ℕ} 0 1 = cc in omega arith)
        by true i (Ok tt) j false e = absurd (let z : ◌≡◌ {A = ℕ} 0 1 = cc in omega arith)
        by true i (Err r) j last e =
            let z : r ≡ why = cc in
            let n = (and_both _ _ (and_both _ _ (and_both _ _ i).0).0).1 in
            inr (rw (n, j, z))
        by false i c j last e = let z : why ≡ Setting = cc in inl z
