-- A block whose records are asked for form and rules in one loop: what its ends say of the block.
-- Assumes nothing.
use Rattle.std.specs.Prelude.{⊤}
use Rattle.std.proofs.Common.{Result, Ok, Err}
use Prim.Native.Nat.{ℕ, ◌+◌, ◌^◌, ◌≤◌, ◌<◌}
use mathlib.Core.Path.{◌≡◌, refl, sym}
use mathlib.Core.Bool.{Bool, true, false}
use mathlib.Core.List.{List}
use native.Mathlib.Omega.{arith}
use borrow.Author.Tests.{leb-true}
use lib.Dec.{leb}
use lib.ListN.{length}
use Rattle.rules.specs.Choice.{pick, ◌and◌}
use Rattle.rules.specs.Refusals.{in_order}
use Rattle.rules.specs.Block.{records, whole_nodes, block, block_ok}
use Rattle.rules.specs.SchemaRules.{rule_at}
use Rattle.rules.specs.Format.{block_form_ok, block_utf8, block_rule, one_block}
use Rattle.rules.specs.declared.refusal.Refusal.{Refusal}
use Rattle.rules.proofs.Tests.{and_both, and_true, and_false}
use Rattle.block.specs.Sound.{SoundBlock}
use Rattle.block.specs.Passing.{is_accepted, passing, passes_at_once}
use Rattle.block.proofs.Parts.{block_length, form_sound}
use Rattle.block.proofs.Depth.{few_records}
use Rattle.block.proofs.Level.{level_passes}

module _ (s : List ℕ) (store base : ℕ) where
  -- it is out of form
  pub form_off : block_ok s store ≡ false → false ≡ passing s store base
  unfolding passing
  form_off e = rw e (sym (and_false _))

  -- a record breaks a rule
  pub rule_off : (r : Result ⊤ Refusal) {x : Refusal} → r ≡ in_order (rule_at s base) 0 (records s) → r ≡ Err x → false ≡ passing s store base
  unfolding passing is_accepted ◌and◌
  rule_off r e a = rw (← e, a)

  -- every record passed
  pub both_end : (b : Bool) → b ≡ block_ok s store → Ok tt ≡ in_order (rule_at s base) 0 (records s) → b ≡ passing s store base
  unfolding passing is_accepted ◌and◌
  both_end b f a = rw (← a) f

accepted : (r : Result ⊤ Refusal) → is_accepted r ≡ true → r ≡ Ok tt
unfolding is_accepted
accepted (Ok tt) e = refl
accepted (Err x) e = cc

-- a block that passes so has form and depth, and its schema keeps the rules
module _ (table names : List ℕ) (first n : ℕ) (p : passes_at_once table names first n ≡ true) where
  whole : (whole_nodes table ≡ true) × ((n ≤ 64) × ((leb (first + n) (records table) ≡ true) × ((is_accepted (in_order (rule_at (block table first n) first) 0 (records (block table first n))) ≡ true) × (block_ok (block table first n) (length names) ≡ true))))
  unfolding passes_at_once passing
  whole =
      let a = and_both _ _ p in
      let b = and_both _ _ a.0 in
      let c = and_both _ _ b.0 in
      (c.0, (leb-true n 64 c.1, (b.1, and_both _ _ a.1)))

  pub form : block_form_ok table (length names) first n ≡ true
  unfolding block_form_ok
  form = and_true _ _ whole.1.1.0 whole.1.1.1.1

  pub sound : SoundBlock table first n
  sound = form_sound table first n (length names) form

  -- its names are asked apart
  pub at_once_stands : block_utf8 table names first n ≡ true → Ok tt ≡ one_block table names first n (Ok tt)
  unfolding one_block pick ◌and◌
  at_once_stands named = rw (whole.0, form, ← few_records table first n sound whole.1.0, named)

  pub at_once_keeps : Ok tt ≡ block_rule table first n
  at_once_keeps = level_passes table first n sound whole.1.0 (block table first n) refl _ refl (accepted _ whole.1.1.1.0)

-- the numbers of its records fit
pub sums : (table : List ℕ) (first n : ℕ) → first + n ≤ records table → length table < 2 ^ 64 → (s : List ℕ) → s ≡ block table first n → first + records s < 2 ^ 64
sums table first n h b s e = rw e (omega (arith, block_length table first n h))
