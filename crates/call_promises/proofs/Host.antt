-- No second answer, of what a host asks about one value record: the query, the getters of the row view, and the steps below them.
-- Assumes nothing.
use mathlib.Core.Path.{◌≡◌, sym, ◌∙◌}
use seplogic.Ra.Ura.{Ura}
use base.Logic.{SProp, ent, sep, fst∗, snd∗}
use prog.Memory.{Memory}
use prog.Routine.{Routine}
use types.Logic.{Logic}
use contract.Lifetimes.{Lfts}
use contract.Monad.{Fun, fact, fact_use, fact_i}
use denote.Triple.Entry.{Args, Res}
use denote.Triple.Clauses.{Ended, Clauses, AtExit}
use Rattle.call_promises.proofs.OneAnswer.{OneAnswer}
use Rattle.value.proofs.record_alone
use Rattle.query.proofs.record_seen
use Rattle.query.proofs.value_of
use Rattle.view.proofs.children_of
use Rattle.view.proofs.kind_at
use Rattle.view.proofs.tag_at
use Rattle.view.proofs.child_count_at
use Rattle.view.proofs.after_at
use Rattle.view.proofs.field_at
use Rattle.view.specs.contracts.RowView.kind as view_kind
use Rattle.view.specs.contracts.RowView.tag as view_tag
use Rattle.view.specs.contracts.RowView.child_count as view_child_count
use Rattle.view.specs.contracts.RowView.value as view_value
use Rattle.view.specs.contracts.RowView.after as view_after
use Rattle.view.specs.contracts.RowView.field as view_field

-- ---- one record
pub record_alone_one_answer : OneAnswer record_alone.Kinds.ps record_alone.Kinds.r record_alone.Reads.Post
record_alone_one_answer κs a x y s t p q = p ∙ sym q

pub record_seen_one_answer : OneAnswer record_seen.Kinds.ps record_seen.Kinds.r record_seen.Reads.Post
record_seen_one_answer κs a x y s t p q = p ∙ sym q

pub value_of_one_answer : OneAnswer value_of.Kinds.ps value_of.Kinds.r value_of.Reads.Post
value_of_one_answer κs a x y s t p q = p ∙ sym q

-- ---- what is seen from it
pub children_of_one_answer : OneAnswer children_of.Kinds.ps children_of.Kinds.r children_of.Reads.Post
children_of_one_answer κs a x y s t p q = p ∙ sym q

pub kind_at_one_answer : OneAnswer kind_at.Kinds.ps kind_at.Kinds.r kind_at.Reads.Post
kind_at_one_answer κs a x y s t p q = p ∙ sym q

pub tag_at_one_answer : OneAnswer tag_at.Kinds.ps tag_at.Kinds.r tag_at.Reads.Post
tag_at_one_answer κs a x y s t p q = p ∙ sym q

pub child_count_at_one_answer : OneAnswer child_count_at.Kinds.ps child_count_at.Kinds.r child_count_at.Reads.Post
child_count_at_one_answer κs a x y s t p q = p ∙ sym q

pub after_at_one_answer : OneAnswer after_at.Kinds.ps after_at.Kinds.r after_at.Reads.Post
after_at_one_answer κs a x y s t p q = p ∙ sym q

pub field_at_one_answer : OneAnswer field_at.Kinds.ps field_at.Kinds.r field_at.Reads.Post
field_at_one_answer κs a x y s t p q = p ∙ sym q

-- ---- the getters of the view. A function over a struct that holds a slice has no `Post`, so that its own clauses are taken: two results
-- that both meet what it ensures, on the same arguments, are one.

module _ {M : Type 1} {𝓤 : Ura M} (𝓛 : Logic 𝓤) (mem : Memory → SProp 𝓤) (run : Routine → Fun 𝓤) where
  abbrev pub OneSaid : (T : Ended) → Clauses 𝓤 T → Type 1
  OneSaid T c = (κs : Lfts T.signature.lifetimes) (a : Args T.signature κs) (g : (c κs a).ghost) (x y : Res T.signature κs) (s t : AtExit T κs) →
      ent 𝓤 (sep 𝓤 ((c κs a).ensures g x s) ((c κs a).ensures g y t)) (fact 𝓤 (x ≡ y))

  -- what follows from two facts is a fact
  from_both : (φ ψ χ : Type 0) → (φ → ψ → χ) → ent 𝓤 (sep 𝓤 (fact 𝓤 φ) (fact 𝓤 ψ)) (fact 𝓤 χ)
  from_both φ ψ χ f = fact_use 𝓤 φ (fst∗ 𝓤 (fact 𝓤 φ) (fact 𝓤 ψ)) (λ p. fact_use 𝓤 ψ (snd∗ 𝓤 (fact 𝓤 φ) (fact 𝓤 ψ)) (λ q. fact_i 𝓤 χ _ (f p q)))

  pub view_kind_one_answer : OneSaid view_kind.ended (view_kind.clauses 𝓛 mem run)
  view_kind_one_answer κs a g x y s t = from_both _ _ _ (λ p q. p ∙ sym q)

  pub view_tag_one_answer : OneSaid view_tag.ended (view_tag.clauses 𝓛 mem run)
  view_tag_one_answer κs a g x y s t = from_both _ _ _ (λ p q. p ∙ sym q)

  pub view_child_count_one_answer : OneSaid view_child_count.ended (view_child_count.clauses 𝓛 mem run)
  view_child_count_one_answer κs a g x y s t = from_both _ _ _ (λ p q. p ∙ sym q)

  pub view_value_one_answer : OneSaid view_value.ended (view_value.clauses 𝓛 mem run)
  view_value_one_answer κs a g x y s t = from_both _ _ _ (λ p q. p ∙ sym q)

  pub view_after_one_answer : OneSaid view_after.ended (view_after.clauses 𝓛 mem run)
  view_after_one_answer κs a g x y s t = from_both _ _ _ (λ p q. p ∙ sym q)

  pub view_field_one_answer : OneSaid view_field.ended (view_field.clauses 𝓛 mem run)
  view_field_one_answer κs a g x y s t = from_both _ _ _ (λ p q. p ∙ sym q)
