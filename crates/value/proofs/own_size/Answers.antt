use Rattle.rules.specs.Wire.{wire_types, type_in, type_of, written, written_if, form}
use Rattle.value.specs.Records.{own_size}
use Rattle.value.proofs.Fields.{no_length}
use Rattle.value.proofs.own_size.Goals as goal

pub returns-in-6 : goal.returns-in-6
unfolding wire_types type_in type_of written written_if form own_size
returns-in-6 c = rw c.in-6.is

pub returns-in-7 : goal.returns-in-7
unfolding wire_types type_in type_of written written_if form own_size
returns-in-7 c = rw c.in-7.is

pub returns-in_default : goal.returns-in_default
unfolding wire_types type_in type_of written written_if form own_size
returns-in_default c = rw (no_length _ c.requires c.in_default.in_default-own.rest.0.1 c.in_default.in_default-own.rest.1)
