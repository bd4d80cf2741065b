use mathlib.Core.Path.{◌≡◌, sym, ◌∙◌}
use native.Mathlib.Omega.{arith}
use Rattle.value_laws.proofs.Steps.{past_none, past_out, past_bad, past_on}
use Rattle.view.proofs.Fields.{count_small}
use Rattle.view.proofs.past_trees.Goals as goal

pub returns-then-count-at : goal.returns-then-count-at
returns-then-count-at c = past_out _ _ _ c.loop-left-test.true (rw c.records_in-count.ensures at c.if-count-at.true) ∙ c.loop-left.invariant.1.1

pub returns-then-not-record_alone : goal.returns-then-not-record_alone
returns-then-not-record_alone c = past_bad _ _ _ c.loop-left-test.true (rw c.records_in-count.ensures at c.if-count-at.false)
    (rw (← c.value_record_at-r.ensures, ← c.record_alone.ensures) (c.if-not-record_alone.true))
    ∙ c.loop-left.invariant.1.1

-- a slice of 2 ^ 32 bytes has less than 2 ^ 28 records
pub overflow_add-left : goal.overflow_add-left
overflow_add-left c = record { fits = omega (arith, count_small _ (λ j. omega (arith, c.type_inv.records j)) _ _ c.value_record_at-r.ensures _ c.children_of.ensures, c.records_in-count.ensures, c.if-count-at.false, c.loop-left.invariant.1.0, c.requires.0) }

pub loop-left-preserved : goal.loop-left-preserved
loop-left-preserved c = let inv = c.loop-left.invariant in (
  omega (arith, inv.0),
  (
    omega (arith, inv.0, inv.1.0, count_small _ (λ j. omega (arith, c.type_inv.records j)) _ _ c.value_record_at-r.ensures _ c.children_of.ensures),
    rw (c.children_of.ensures, c.value_record_at-r.ensures)
        (past_on _ _ _ c.loop-left-test.true (rw c.records_in-count.ensures at c.if-count-at.false)
        (rw (← c.value_record_at-r.ensures, ← c.record_alone.ensures) (c.if-not-record_alone.false)))
        ∙ inv.1.1,
  ),
)

pub returns : goal.returns
returns c = let z : c.loop-left.left ≡ 0 = omega (arith, c.loop-left-test.false) in
    sym (past_none _ _ _) ∙ rw z at c.loop-left.invariant.1.1
