-- By the sign.
-- Assumes nothing.
use mathlib.Core.Path.{ap}
use native.Mathlib.Omega.{arith}
use lib.ListN.{length}
use Rattle.std.proofs.lemmas.List.{length-take-le}
use Rattle.text_hex.proofs.Texts.{negative_length, negative_put, not_negative}
use Rattle.text_hex.proofs.integers.put_signed.Goals as goal

pub put_text-next-requires : goal.put_text-next-requires
put_text-next-requires c = let e = negative_length _ (λ j. omega (arith, c.type_inv.number j)) _ c.is_negative.ensures c.if-is_negative.true c.requires.1 _ c.negated-magnitude.ensures in
    omega (arith, e, c.requires.2)

pub put_digits-requires : goal.put_digits-requires
put_digits-requires c = let e = negative_length _ (λ j. omega (arith, c.type_inv.number j)) _ c.is_negative.ensures c.if-is_negative.true c.requires.1 _ c.negated-magnitude.ensures in
    let n = length-take-le (length c.args.number.now) c.negated-magnitude.result (omega (arith, c.negated-magnitude.ensures.1, c.requires.1)) in
    (omega (arith, n, c.requires.0), omega (arith, n, c.requires.1), omega (arith, e, c.requires.2, c.put_text-next.ensures.ends))

pub returns-then-is_negative : goal.returns-then-is_negative
returns-then-is_negative c = negative_put _ (λ j. omega (arith, c.type_inv.number j)) _ c.is_negative.ensures c.if-is_negative.true c.requires.1 _ c.negated-magnitude.ensures _ _ _ _ _ _ c.put_text-next.ensures c.put_digits.ensures

pub put_digits-requires-2 : goal.put_digits-requires-2
put_digits-requires-2 c = (c.requires.0, c.requires.1, let e = ap length (not_negative _ (λ j. omega (arith, c.type_inv.number j)) _ c.is_negative.ensures c.if-is_negative.false) in omega (arith, e, c.requires.2))

pub returns : goal.returns
returns c = rw (← (not_negative _ (λ j. omega (arith, c.type_inv.number j)) _ c.is_negative.ensures c.if-is_negative.false)) c.put_digits-2.ensures
