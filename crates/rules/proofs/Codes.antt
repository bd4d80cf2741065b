-- Wire codes past the last one, and what holds of every code's form.
-- Assumes nothing.
use Rattle.std.proofs.Common.{None}
use Prim.Native.Nat.{ℕ, zero, suc, ◌≤◌}
use mathlib.Core.Path.{◌≡◌, refl}
use mathlib.Core.Bool.{Bool, true, false}
use mathlib.Core.List.{List, [], ◌∷◌}
use native.Mathlib.Omega.{arith}
use borrow.Author.Tests.{ltb-true, ltb-false}
use lib.Dec.{ltb}
use lib.ListN.{length}
use Rattle.rules.specs.Choice.{all}
use Rattle.rules.specs.Wire.{Form, unknown, form, written_if, type_of, type_in, wire_types}
use Rattle.rules.specs.declared.wire_type.WireType.{WireType}
use Rattle.rules.proofs.Tests.{all_each}

pub no_type : (ts : List WireType) (code : ℕ) → length ts ≤ code → type_in ts code ≡ None
unfolding type_in
no_type [] code h = refl
no_type (t ∷ ts) zero h = absurd (omega arith)
no_type (t ∷ ts) (suc code) h = no_type ts code (omega arith)

-- the codes end at 19
pub form_unknown : (code : ℕ) → 20 ≤ code → form code ≡ unknown
unfolding form written_if type_of wire_types
form_unknown code h = rw (no_type wire_types code h)

-- A test that passes the form of each of the twenty codes, and the unknown form, passes every code's.
pub every_form : (P : Form → ℕ → Bool) → all (λ i. P (form i) i) 20 ≡ true → ((code : ℕ) → P unknown code ≡ true) → (code : ℕ) → P (form code) code ≡ true
every_form P each none code = by (ltb code 20) refl
  where
    by : (b : Bool) → ltb code 20 ≡ b → P (form code) code ≡ true
    by true e = all_each (λ i. P (form i) i) 20 code each (ltb-true code 20 e)
    by false e = rw (form_unknown code (ltb-false code 20 e)) (none code)
