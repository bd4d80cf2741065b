-- What is told, by the number that the last read answers.
-- Assumes nothing.
use Rattle.std.proofs.Common.{Ok, Err}
use Prim.Native.Nat.{ℕ, zero, suc}
use mathlib.Core.Path.{◌≡◌, refl, sym, ap, ◌∙◌}
use mathlib.Core.Bool.{Bool, true, false}
use borrow.Author.Tests.{eq-eqb, ne_eqb}
use mir.Syntax.{w64}
use mir.Val.{SFits, of_z, to_z}
use mir.ValLaws.{to_z-of_z}
use lib.IntN.{ℤ, pos, negsuc}
use Rattle.rules.specs.Choice.{pick}
use Rattle.rules.specs.declared.answer.Ran.{Ran}
use Rattle.reads.specs.Outcomes.{outcome_of, whole_at, table_read}
use Rattle.reads.specs.declared.RunFailure.TheVariants.{NoRoom, Unreadable}
use Rattle.reads.specs.declared.TableFailure.TheVariants.{TooLong, Unreadable as Failed}

module _ (z : ℤ) where
  -- the number whose bits these are
  from_bits : (n : ℕ) → SFits w64 z → of_z w64 z ≡ n → z ≡ to_z w64 n
  from_bits n f e = sym (to_z-of_z w64 z f) ∙ ap (to_z w64) e

  module _ (ran : Ran) (full : Bool) where
    pub told : SFits w64 z → of_z w64 z ≡ 0 → Ok ran ≡ outcome_of z ran full
    unfolding outcome_of
    told f e = rw (from_bits 0 f e)

    pub no_room : SFits w64 z → of_z w64 z ≡ 1 → full ≡ true → Err (NoRoom ran.bytes) ≡ outcome_of z ran full
    unfolding outcome_of pick
    no_room f e b = rw (from_bits 1 f e, b)

    pub left_short : SFits w64 z → of_z w64 z ≡ 1 → full ≡ false → Err Unreadable ≡ outcome_of z ran full
    unfolding outcome_of pick
    left_short f e b = rw (from_bits 1 f e, b)

pub failed : (z : ℤ) (ran : Ran) (full : Bool) → (of_z w64 z ≡ 0 → ⊥) → (of_z w64 z ≡ 1 → ⊥) → Err Unreadable ≡ outcome_of z ran full
unfolding outcome_of
failed (pos zero) ran full h k = absurd (h refl)
failed (pos (suc zero)) ran full h k = absurd (k refl)
failed (pos (suc (suc n))) ran full h k = refl
failed (negsuc n) ran full h k = refl

-- ---- tables

pub table_long : (end space : ℕ) (z : ℤ) → end ≡ space → Err TooLong ≡ table_read end space z
unfolding table_read pick
table_long end space z e = rw (eq-eqb end space e)

pub table_whole : (end space : ℕ) (z : ℤ) → (end ≡ space → ⊥) → SFits w64 z → of_z w64 z ≡ 0 → Ok tt ≡ table_read end space z
unfolding table_read pick whole_at
table_whole end space z h f e = rw (ne_eqb end space h, from_bits z 0 f e)

pub table_failed : (end space : ℕ) (z : ℤ) → (end ≡ space → ⊥) → (of_z w64 z ≡ 0 → ⊥) → Err Failed ≡ table_read end space z
unfolding table_read pick whole_at
table_failed end space (pos zero) h k = absurd (k refl)
table_failed end space (pos (suc n)) h k = rw (ne_eqb end space h)
table_failed end space (negsuc n) h k = rw (ne_eqb end space h)
