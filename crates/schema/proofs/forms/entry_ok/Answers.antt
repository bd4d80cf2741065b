use borrow.Author.Tests.{leb-true}
use native.Mathlib.Nat.{eq-or-lt_of_le}
use native.Mathlib.Omega.{arith}
use mathlib.Core.Logic.{⊎_elim}
use mathlib.Core.Path.{◌≡◌, sym, ◌∙◌}
use mathlib.Core.Bool.{true}
use Prim.Native.Nat.{◌<◌}
use Rattle.rules.specs.Choice.{◌and◌}
use Rattle.rules.specs.Format.{entry_ok}
use Rattle.rules.proofs.Tests.{all_each}
use Rattle.schema.proofs.Given.{entry_gives, ascending_any}
use Rattle.schema.proofs.forms.entry_ok.Goals as goal
use Rattle.schema.proofs.forms.entry_ok.Goals.{then-span_ok, else-span_ok}

pub ascending-requires : goal.ascending-requires
ascending-requires c = elim c.if-span_ok.branch [
  | then-span_ok w ↦ (c.requires.0, λ i h. ⊎_elim (λ (q : i ≡ c.args.j). rw (q, ← c.entry_at-e.ensures) (leb-true _ _ (sym c.span_ok.ensures ∙ w.if-span_ok.true))) (λ (q : i < c.args.j). (entry_gives _ _ _ i (all_each _ _ i c.requires.1 q)).0) (eq-or-lt_of_le h))
  | else-span_ok w ↦ cc (w.value-is, w.if-span_ok.false, c.if-block_form_ok.true)
]

pub returns-then-block_form_ok : goal.returns-then-block_form_ok
unfolding entry_ok ◌and◌
returns-then-block_form_ok c = elim c.if-span_ok.branch [
  | then-span_ok w ↦
      let b : w.block_form_ok.result ≡ true = sym w.value-is ∙ c.if-block_form_ok.true in
      rw (← c.entry_at-e.ensures, ← c.span_ok.ensures, w.if-span_ok.true, ← w.block_form_ok.ensures, b) (c.ascending.ensures ∙ sym (ascending_any _ _ _ _ _))
  | else-span_ok w ↦ cc (w.value-is, w.if-span_ok.false, c.if-block_form_ok.true)
]

pub returns-else-block_form_ok : goal.returns-else-block_form_ok
unfolding entry_ok ◌and◌
returns-else-block_form_ok c = grind arith
