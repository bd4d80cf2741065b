-- The two blob limits: what is known of the one that a wire code has.
-- Assumes nothing.
use Prim.Native.Nat.{ℕ, ◌≤◌}
use mathlib.Core.Path.{◌≡◌, refl, sym, ◌∙◌}
use mathlib.Core.Bool.{Bool, true, false}
use lib.Dec.{eqb}
use Rattle.rules.specs.Choice.{pick}
use Rattle.rules.specs.Wire.{code_of}
use Rattle.rules.specs.declared.wire_type.WireType.TheVariants.{String32, Yson32}
use Rattle.rules.specs.Walk.{Limits, of_type, blob_limit}

-- each of the two types has its own
pub string32_limit : (lim : Limits) → blob_limit lim (code_of String32) ≡ lim.string32
unfolding blob_limit of_type code_of pick
string32_limit lim = refl

pub yson32_limit : (lim : Limits) → blob_limit lim (code_of Yson32) ≡ lim.yson32
unfolding blob_limit of_type code_of pick
yson32_limit lim = refl

-- where both are the same, so is every code's
pub one_limit : (lim : Limits) (n : ℕ) → lim.string32 ≡ n → lim.yson32 ≡ n → (code : ℕ) → blob_limit lim code ≡ n
unfolding blob_limit of_type pick
one_limit lim n s y code = by (eqb code (code_of Yson32))
  where
    by : (b : Bool) → pick b lim.yson32 lim.string32 ≡ n
    by true = y
    by false = s

-- so the limit goes by the type just where the two differ
pub equal_limits : (lim : Limits) → lim.string32 ≡ lim.yson32 → (a b : ℕ) → blob_limit lim a ≡ blob_limit lim b
equal_limits lim e a b = one_limit lim lim.yson32 e refl a ∙ sym (one_limit lim lim.yson32 e refl b)

pub limits_equal : (lim : Limits) → ((a b : ℕ) → blob_limit lim a ≡ blob_limit lim b) → lim.string32 ≡ lim.yson32
limits_equal lim h = sym (string32_limit lim) ∙ h (code_of String32) (code_of Yson32) ∙ yson32_limit lim

-- where neither is lower, no code's is
pub limits_rise : (a b : Limits) → a.string32 ≤ b.string32 → a.yson32 ≤ b.yson32 → (code : ℕ) → blob_limit a code ≤ blob_limit b code
unfolding blob_limit of_type pick
limits_rise a b s y code = by (eqb code (code_of Yson32))
  where
    by : (t : Bool) → pick t a.yson32 a.string32 ≤ pick t b.yson32 b.string32
    by true = y
    by false = s
