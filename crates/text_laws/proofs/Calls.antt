-- The call that writes an integer as text.
-- Assumes nothing.
use Prim.Native.Nat.{ℕ, ◌<◌}
use mathlib.Core.Path.{◌≡◌, refl}
use mathlib.Core.List.{List}
use native.Mathlib.Omega.{arith}
use Rattle.rules.specs.Answers.{text_said}
use Rattle.rules.specs.Numerals.{TextLeft, text_into, integer_text_rule}
use Rattle.rules.proofs.Tests.{either}

-- where it refuses, its slice stays
pub refused_leaves : (x s : List ℕ) → 0 < (text_said (integer_text_rule x s).answer).number → (integer_text_rule x s).text ≡ s
unfolding integer_text_rule text_into text_said
refused_leaves x s =
    either (λ (d : TextLeft). 0 < (text_said d.answer).number → d.text ≡ s) _
    (λ a. either (λ (d : TextLeft). 0 < (text_said d.answer).number → d.text ≡ s) _ (λ b h. absurd (omega (arith, h))) (λ b h. refl))
    (λ a h. refl)
