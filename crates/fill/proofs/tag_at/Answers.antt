use native.Mathlib.Omega.{arith}
use Rattle.wire.proofs.Fields.{le_one, le-within}
use Rattle.wire.proofs.CodeTable.{tag_two}
use Rattle.fill.proofs.tag_at.Goals as goal

pub returns-then-tag_width-eq1 : goal.returns-then-tag_width-eq1
returns-then-tag_width-eq1 c = (rw (← c.tag_width.ensures, c.if-tag_width-eq1.true, le_one) c.wide.ensures.0, omega (arith, c.wide.ensures.1))

pub u16_at-requires : goal.u16_at-requires
u16_at-requires c = omega (arith, c.requires.2, tag_two _ c.requires.0 c.requires.1 _ c.tag_width.ensures c.if-tag_width-eq1.false)

pub returns : goal.returns
returns c =
    let bound = le-within c.args.input.now (λ j. (c.type_inv.input j).fits) c.args.at 2 2 (omega arith) in
    (rw (tag_two _ c.requires.0 c.requires.1 _ c.tag_width.ensures c.if-tag_width-eq1.false) c.u16_at.ensures, omega (arith, bound, c.u16_at.ensures))
