-- The names of the wire types, and the wire type that a name names.
-- Assumes nothing: these are definitions.
use Rattle.std.specs.Prelude.{ℕ, List, [], ◌∷◌, Option, Some, None}
use Prim.Native.Char.{code}
use Prim.Native.String.{String, [] as none, ◌∷◌ as ◌then◌}
use Rattle.rules.specs.Choice.{pick}
use Rattle.rules.specs.Bytes.{order, is_equal}
use Rattle.rules.specs.Wire.{wire_types}
use Rattle.rules.specs.declared.wire_type.WireType.{WireType}
use Rattle.rules.specs.declared.wire_type.WireType.TheVariants.{Nothing, Boolean, Int8, Int16, Int32, Int64, Int128, Int256, Uint8, Uint16, Uint32, Uint64, Double, String32, Yson32, Variant8, Variant16, RepeatedVariant8, RepeatedVariant16, Tuple}

unfoldable pub spelling : WireType → String
spelling Nothing = "nothing"
spelling Boolean = "boolean"
spelling Int8 = "int8"
spelling Int16 = "int16"
spelling Int32 = "int32"
spelling Int64 = "int64"
spelling Int128 = "int128"
spelling Int256 = "int256"
spelling Uint8 = "uint8"
spelling Uint16 = "uint16"
spelling Uint32 = "uint32"
spelling Uint64 = "uint64"
spelling Double = "double"
spelling String32 = "string32"
spelling Yson32 = "yson32"
spelling Variant8 = "variant8"
spelling Variant16 = "variant16"
spelling RepeatedVariant8 = "repeated_variant8"
spelling RepeatedVariant16 = "repeated_variant16"
spelling Tuple = "tuple"

-- the bytes of a text in ASCII
unfoldable pub ascii : String → List ℕ
ascii none = []
ascii (c then s) = code c ∷ ascii s

unfoldable pub name_of : WireType → List ℕ
name_of t = ascii (spelling t)

-- the first of these wire types that has the name
unfoldable pub parse_in : List WireType → List ℕ → Option WireType
parse_in [] name = None
parse_in (t ∷ ts) name = pick (is_equal (order name (name_of t))) (Some t) (parse_in ts name)

-- the wire type of a name: its bytes exactly, nothing trimmed
unfoldable pub parsed : List ℕ → Option WireType
parsed name = parse_in wire_types name
