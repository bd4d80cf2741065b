use Rattle.rules.specs.Names.{spelling, ascii, name_of}
use Rattle.wire.proofs.names.name_of.Goals as goal

pub returns-in-Nothing : goal.returns-in-Nothing
unfolding spelling ascii name_of
returns-in-Nothing c = rw c.in-Nothing.is

pub returns-in-Boolean : goal.returns-in-Boolean
unfolding spelling ascii name_of
returns-in-Boolean c = rw c.in-Boolean.is

pub returns-in-Int8 : goal.returns-in-Int8
unfolding spelling ascii name_of
returns-in-Int8 c = rw c.in-Int8.is

pub returns-in-Int16 : goal.returns-in-Int16
unfolding spelling ascii name_of
returns-in-Int16 c = rw c.in-Int16.is

pub returns-in-Int32 : goal.returns-in-Int32
unfolding spelling ascii name_of
returns-in-Int32 c = rw c.in-Int32.is

pub returns-in-Int64 : goal.returns-in-Int64
unfolding spelling ascii name_of
returns-in-Int64 c = rw c.in-Int64.is

pub returns-in-Int128 : goal.returns-in-Int128
unfolding spelling ascii name_of
returns-in-Int128 c = rw c.in-Int128.is

pub returns-in-Int256 : goal.returns-in-Int256
unfolding spelling ascii name_of
returns-in-Int256 c = rw c.in-Int256.is

pub returns-in-Uint8 : goal.returns-in-Uint8
unfolding spelling ascii name_of
returns-in-Uint8 c = rw c.in-Uint8.is

pub returns-in-Uint16 : goal.returns-in-Uint16
unfolding spelling ascii name_of
returns-in-Uint16 c = rw c.in-Uint16.is

pub returns-in-Uint32 : goal.returns-in-Uint32
unfolding spelling ascii name_of
returns-in-Uint32 c = rw c.in-Uint32.is

pub returns-in-Uint64 : goal.returns-in-Uint64
unfolding spelling ascii name_of
returns-in-Uint64 c = rw c.in-Uint64.is

pub returns-in-Double : goal.returns-in-Double
unfolding spelling ascii name_of
returns-in-Double c = rw c.in-Double.is

pub returns-in-String32 : goal.returns-in-String32
unfolding spelling ascii name_of
returns-in-String32 c = rw c.in-String32.is

pub returns-in-Yson32 : goal.returns-in-Yson32
unfolding spelling ascii name_of
returns-in-Yson32 c = rw c.in-Yson32.is

pub returns-in-Variant8 : goal.returns-in-Variant8
unfolding spelling ascii name_of
returns-in-Variant8 c = rw c.in-Variant8.is

pub returns-in-Variant16 : goal.returns-in-Variant16
unfolding spelling ascii name_of
returns-in-Variant16 c = rw c.in-Variant16.is

pub returns-in-RepeatedVariant8 : goal.returns-in-RepeatedVariant8
unfolding spelling ascii name_of
returns-in-RepeatedVariant8 c = rw c.in-RepeatedVariant8.is

pub returns-in-RepeatedVariant16 : goal.returns-in-RepeatedVariant16
unfolding spelling ascii name_of
returns-in-RepeatedVariant16 c = rw c.in-RepeatedVariant16.is

pub returns-in-Tuple : goal.returns-in-Tuple
unfolding spelling ascii name_of
returns-in-Tuple c = rw c.in-Tuple.is
