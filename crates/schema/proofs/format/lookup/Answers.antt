use native.Mathlib.Omega.{arith}
use Rattle.schema.proofs.Lookups.{middle, between_none, between_later, between_earlier, lookup_hit}
use Rattle.schema.proofs.format.lookup.Goals as goal

pub returns-in-Equal : goal.returns-in-Equal
returns-in-Equal c = lookup_hit _ _ _ c.requires.0 _ (middle c.loop-low-test.true c.loop-low.invariant.1.0) _ c.entry_at-e.ensures _ c.compare-order.ensures c.in-Equal.is

pub loop-low-preserved-in-Less : goal.loop-low-preserved-in-Less
loop-low-preserved-in-Less c = (omega (arith, c.loop-low-test.true), (c.loop-low.invariant.1.0, between_later _ _ _ c.requires.0 _ (middle c.loop-low-test.true c.loop-low.invariant.1.0) _ c.entry_at-e.ensures _ c.compare-order.ensures _ _ c.loop-low.invariant.1.1 c.in-Less.is))

pub loop-low-preserved : goal.loop-low-preserved
loop-low-preserved c = (omega arith, (omega (arith, middle c.loop-low-test.true c.loop-low.invariant.1.0), between_earlier _ _ _ c.requires.0 _ (middle c.loop-low-test.true c.loop-low.invariant.1.0) _ c.entry_at-e.ensures _ c.compare-order.ensures _ _ c.loop-low.invariant.1.1 c.in-Greater.is))

pub returns : goal.returns
returns c = between_none _ _ _ _ _ c.loop-low.invariant.1.1 c.loop-low-test.false
