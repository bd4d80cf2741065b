-- One block by itself: form, depth and names first, then what the rules say of it.
-- Assumes nothing.
use Rattle.rules.specs.declared.refusal.Refusal.{Refusal}
use Rattle.std.specs.Prelude.{⊤}
use Rattle.std.proofs.Common.{Result, Ok}
use Prim.Native.Nat.{ℕ}
use mathlib.Core.Path.{◌≡◌, refl, sym, ◌∙◌}
use mathlib.Core.Bool.{Bool, true, false}
use mathlib.Core.List.{List}
use lib.ListN.{length}
use Rattle.rules.specs.Choice.{pick, ◌and◌}
use Rattle.rules.specs.Refusals.{◌then◌}
use Rattle.rules.specs.Format.{block_form_ok, block_depth_ok, block_utf8, one_block}
use Rattle.rules.proofs.Tests.{and_both}
use Rattle.rules.proofs.Checks.{pick_accepted}
use Rattle.rules.specs.Block.{whole_nodes}
use Rattle.block.specs.Sound.{SoundBlock}
use Rattle.block.proofs.Parts.{form_sound}

module _ (table names : List ℕ) (first n : ℕ) where
  pub one_then : (rules : Result ⊤ Refusal) → one_block table names first n rules ≡ one_block table names first n (Ok tt) then rules
  unfolding one_block pick ◌then◌
  one_then rules = by (whole_nodes table and block_form_ok table (length names) first n) (block_depth_ok table first n) (block_utf8 table names first n) refl refl refl
    where
      by : (a b c : Bool) → whole_nodes table and block_form_ok table (length names) first n ≡ a → block_depth_ok table first n ≡ b → block_utf8 table names first n ≡ c →
          one_block table names first n rules ≡ one_block table names first n (Ok tt) then rules
      by false b c p q r = rw p
      by true false c p q r = rw (p, q)
      by true true false p q r = rw (p, q, r)
      by true true true p q r = rw (p, q, r)

  -- a block that stands is sound
  pub one_sound : (a : Result ⊤ Refusal) → a ≡ one_block table names first n (Ok tt) → a ≡ Ok tt → SoundBlock table first n
  unfolding one_block
  one_sound a says e = form_sound table first n (length names) (and_both _ _ (pick_accepted _ _ _ (sym says ∙ e)).0).1
