use mathlib.Core.Path.{◌≡◌}
use native.Mathlib.Omega.{arith}
use Rattle.rules.specs.Wire.{wire_types, type_in, type_of, written, written_if, form}
use Rattle.wire.proofs.CodeTable.{past}
use Rattle.value.specs.Records.{most_content}
use Rattle.value.proofs.most_content.Goals as goal

pub returns-in-0 : goal.returns-in-0
unfolding wire_types type_in type_of written written_if form most_content
returns-in-0 c = rw c.in-0.is

pub returns-in-1 : goal.returns-in-1
unfolding wire_types type_in type_of written written_if form most_content
returns-in-1 c = rw c.in-1.is

pub returns-in-2 : goal.returns-in-2
unfolding wire_types type_in type_of written written_if form most_content
returns-in-2 c = rw c.in-2.is

pub returns-in-3 : goal.returns-in-3
unfolding wire_types type_in type_of written written_if form most_content
returns-in-3 c = rw c.in-3.is

pub returns-in-4 : goal.returns-in-4
unfolding wire_types type_in type_of written written_if form most_content
returns-in-4 c = rw c.in-4.is

pub returns-in-5 : goal.returns-in-5
unfolding wire_types type_in type_of written written_if form most_content
returns-in-5 c = rw c.in-5.is

pub returns-in-6 : goal.returns-in-6
unfolding wire_types type_in type_of written written_if form most_content
returns-in-6 c = rw c.in-6.is

pub returns-in-7 : goal.returns-in-7
unfolding wire_types type_in type_of written written_if form most_content
returns-in-7 c = rw c.in-7.is

pub returns-in-8 : goal.returns-in-8
unfolding wire_types type_in type_of written written_if form most_content
returns-in-8 c = rw c.in-8.is

pub returns-in-9 : goal.returns-in-9
unfolding wire_types type_in type_of written written_if form most_content
returns-in-9 c = rw c.in-9.is

pub returns-in-10 : goal.returns-in-10
unfolding wire_types type_in type_of written written_if form most_content
returns-in-10 c = rw c.in-10.is

pub returns-in-11 : goal.returns-in-11
unfolding wire_types type_in type_of written written_if form most_content
returns-in-11 c = rw c.in-11.is

pub returns-in_default : goal.returns-in_default
unfolding wire_types type_in type_of written written_if form most_content
returns-in_default c = let e : c.args.kind ≡ 12 = omega (arith, c.requires, past 0 12 c.args.kind (omega arith) c.in_default.in_default-own.rest) in rw e
