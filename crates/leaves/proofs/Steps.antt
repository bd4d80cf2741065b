-- What a number that was read tells.
-- Assumes nothing.
use Rattle.std.proofs.Common.{Result, Ok, Err}
use Prim.Native.Nat.{ℕ, ◌+◌, ◌-◌, ◌≤◌}
use mathlib.Core.Path.{◌≡◌, refl, sym, subst, ◌∙◌}
use mathlib.Core.Bool.{Bool, true, false}
use mathlib.Core.List.{List}
use native.Mathlib.Omega.{arith}
use borrow.Author.Tests.{leb-true}
use lib.ListN.{length}
use lib.Dec.{leb}
use Rattle.rules.specs.Choice.{pick}
use Rattle.rules.specs.Bytes.{le_at}
use Rattle.rules.specs.declared.refusal.Refusal.{Refusal}
use Rattle.rules.specs.Refusals.{Truncated}
use Rattle.leaves.specs.Fields.{read_number_at}

-- a number that was read lies in the input
data Read (inp : List ℕ) (at : ℕ) : Result (ℕ × ℕ) Refusal → Type 0 where
  is : {n next : ℕ} → at ≤ next → next ≤ length inp → Read inp at (Ok (n, next))
  cut : {r : Refusal} → Read inp at (Err r)

pub number_past : (inp : List ℕ) (w context at n next : ℕ) (t : Result (ℕ × ℕ) Refusal) → at ≤ length inp → t ≡ read_number_at inp w context at → t ≡ Ok (n, next) → (at ≤ next) × (next ≤ length inp)
unfolding read_number_at pick
number_past inp w context at n next t h a b = ends (subst (λ (x : Result (ℕ × ℕ) Refusal). Read inp at x) (sym a ∙ b) (fits (leb w (length inp - at)) refl))
  where
    ends : Read inp at (Ok (n, next)) → (at ≤ next) × (next ≤ length inp)
    ends (is f h) = (f, h)

    fits : (b : Bool) → leb w (length inp - at) ≡ b → Read inp at (pick b (Ok ((le_at inp at w), (at + w))) (Err (Truncated context at)))
    fits true e = is {n = le_at inp at w} {next = at + w} (omega arith) (omega (arith, leb-true w (length inp - at) e))
    fits false e = cut
