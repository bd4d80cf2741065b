use native.Mathlib.Omega.{arith}
use Rattle.rules.specs.Wire.{wire_types, type_in, type_of, written, written_if, form, end_tag, maximum}
use Rattle.wire.proofs.CodeTable.{leaf_maximum, unknown_maximum, past}
use Rattle.wire.proofs.codes.maximum_of.Goals as goal

pub returns-in-15 : goal.returns-in-15
unfolding wire_types type_in type_of written written_if form end_tag maximum
returns-in-15 c = rw c.in-15.is

pub returns-in-16 : goal.returns-in-16
unfolding wire_types type_in type_of written written_if form end_tag maximum
returns-in-16 c = rw c.in-16.is

pub returns-in-17 : goal.returns-in-17
unfolding wire_types type_in type_of written written_if form end_tag maximum
returns-in-17 c = rw c.in-17.is

pub returns-in-18 : goal.returns-in-18
unfolding wire_types type_in type_of written written_if form end_tag maximum
returns-in-18 c = rw c.in-18.is

pub returns-in-19 : goal.returns-in-19
unfolding wire_types type_in type_of written written_if form end_tag maximum
returns-in-19 c = rw c.in-19.is

pub returns-in-0-to-14 : goal.returns-in-0-to-14
unfolding wire_types type_in type_of written written_if form end_tag maximum
returns-in-0-to-14 c = leaf_maximum c.args.code (omega (arith, c.in-0-to-14.if-code-lt15-own.true))

pub returns-in_default : goal.returns-in_default
returns-in_default c = unknown_maximum _ (past 15 5 c.args.code (omega (arith, c.in_default.if-code-lt15-own.false)) c.in_default.in_default-own.rest)
