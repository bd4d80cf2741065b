-- From above, until a digit is not 0.
-- Assumes nothing.
use Prim.Native.Nat.{◌+◌, ◌-◌}
use mathlib.Core.Path.{◌≡◌}
use native.Mathlib.Omega.{arith}
use lib.ListN.{length}
use Rattle.rules.proofs.Stands.{le_at_lt}
use Rattle.text_hex.proofs.Digits.{two_to_a_byte, counted_here, counted_below, count_one}
use Rattle.text_hex.proofs.integers.digit_count.Goals as goal

pub loop-last-init : goal.loop-last-init
loop-last-init c = rw (two_to_a_byte (length c.args.number.now)) (le_at_lt _ (λ j. omega (arith, c.type_inv.number j)) _ _)

pub returns-then-digit_at-gt0 : goal.returns-then-digit_at-gt0
returns-then-digit_at-gt0 c =
    let e : (c.loop-last.last - 1) + 1 ≡ c.loop-last.last = omega (arith, c.loop-last-test.true) in
    rw e (counted_here _ (λ j. omega (arith, c.type_inv.number j)) _ _ _ c.loop-last.auto.last c.loop-last-test.true c.loop-last.invariant _ c.digit_at.ensures c.if-digit_at-gt0.true)

pub loop-last-preserved : goal.loop-last-preserved
loop-last-preserved c = counted_below _ (λ j. omega (arith, c.type_inv.number j)) _ _ _ c.loop-last.auto.last c.loop-last-test.true c.loop-last.invariant _ c.digit_at.ensures c.if-digit_at-gt0.false

pub returns : goal.returns
returns c = count_one _ _ c.loop-last-test.false c.loop-last.invariant
