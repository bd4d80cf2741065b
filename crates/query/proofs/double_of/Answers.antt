use borrow.Author.Tests.{lt-ltb, le-ltb}
use lib.Ieee.{binary64}
use lib.Ieee.Bits.{nan_bits_above}
use Rattle.rules.specs.Choice.{pick}
use Rattle.rules.specs.Query.{double_said}
use Rattle.query.proofs.double_of.Goals as goal

pub returns-then-magnitude-gt9218868437227405312 : goal.returns-then-magnitude-gt9218868437227405312
unfolding double_said pick
returns-then-magnitude-gt9218868437227405312 c = rw (nan_bits_above binary64 c.args.bits, lt-ltb _ _ c.if-magnitude-gt9218868437227405312.true)

pub float_from_bits-result : goal.float_from_bits-result
float_from_bits-result c = rw (nan_bits_above binary64 c.args.bits, le-ltb _ _ c.if-magnitude-gt9218868437227405312.false) tt

pub returns : goal.returns
unfolding double_said pick
returns c = rw (nan_bits_above binary64 c.args.bits, le-ltb _ _ c.if-magnitude-gt9218868437227405312.false)
