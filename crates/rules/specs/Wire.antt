-- The twenty wire types: their codes, and how a value of each is written.
-- Assumes nothing: these are definitions.
use Rattle.std.specs.Prelude.{ℕ, zero, suc, ◌-◌, ◌^◌, List, [], ◌∷◌, Option, Some, None}
use Rattle.rules.specs.declared.wire_type.WireType.{WireType}
use Rattle.rules.specs.declared.wire_type.WireType.TheVariants.{Nothing, Boolean, Int8, Int16, Int32, Int64, Int128, Int256, Uint8, Uint16, Uint32, Uint64, Double, String32, Yson32, Variant8, Variant16, RepeatedVariant8, RepeatedVariant16, Tuple}
use Rattle.rules.specs.declared.wire_type.Children.{Children}
use Rattle.rules.specs.declared.wire_type.Children.TheVariants.{Zero, UpTo, Any}

-- in the order of the wire codes, from 0 on
unfoldable pub wire_types : List WireType
wire_types = Nothing ∷ Boolean ∷ Int8 ∷ Int16 ∷ Int32 ∷ Int64 ∷ Int128 ∷ Int256 ∷ Uint8 ∷ Uint16 ∷ Uint32 ∷ Uint64 ∷ Double ∷ String32 ∷ Yson32 ∷ Variant8 ∷ Variant16 ∷ RepeatedVariant8 ∷ RepeatedVariant16 ∷ Tuple ∷ []

unfoldable pub type_in : List WireType → ℕ → Option WireType
type_in [] code = None
type_in (t ∷ ts) zero = Some t
type_in (t ∷ ts) (suc code) = type_in ts code

-- the wire type of a code
unfoldable pub type_of : ℕ → Option WireType
type_of code = type_in wire_types code

-- and the code of a wire type
unfoldable pub code_of : WireType → ℕ
code_of Nothing = 0
code_of Boolean = 1
code_of Int8 = 2
code_of Int16 = 3
code_of Int32 = 4
code_of Int64 = 5
code_of Int128 = 6
code_of Int256 = 7
code_of Uint8 = 8
code_of Uint16 = 9
code_of Uint32 = 10
code_of Uint64 = 11
code_of Double = 12
code_of String32 = 13
code_of Yson32 = 14
code_of Variant8 = 15
code_of Variant16 = 16
code_of RepeatedVariant8 = 17
code_of RepeatedVariant16 = 18
code_of Tuple = 19

-- how a value is written
pub data Form : Type 0 where
  empty : Form  -- no bytes
  truth : Form  -- one byte, 0 for false
  fixed : ℕ → Form  -- a number in so many bytes
  raw : ℕ → Form  -- so many bytes as they are
  sized : Form  -- a blob: a length in 4 bytes, and so many bytes
  variant_form : ℕ → Form  -- a tag in so many bytes, and the child that it names
  repeated_form : ℕ → Form  -- such pairs until the end tag
  tuple_form : Form  -- the children in order
  unknown : Form

unfoldable pub written : WireType → Form
written Nothing = empty
written Boolean = truth
written Int8 = fixed 1
written Int16 = fixed 2
written Int32 = fixed 4
written Int64 = fixed 8
written Int128 = raw 16
written Int256 = raw 32
written Uint8 = fixed 1
written Uint16 = fixed 2
written Uint32 = fixed 4
written Uint64 = fixed 8
written Double = fixed 8
written String32 = sized
written Yson32 = sized
written Variant8 = variant_form 1
written Variant16 = variant_form 2
written RepeatedVariant8 = repeated_form 1
written RepeatedVariant16 = repeated_form 2
written Tuple = tuple_form

unfoldable pub written_if : Option WireType → Form
written_if (Some t) = written t
written_if None = unknown

-- the form of a wire code
unfoldable pub form : ℕ → Form
form code = written_if (type_of code)

-- the bytes of a number, a tag or a length
unfoldable pub width_of : Form → ℕ
width_of empty = 0
width_of truth = 1
width_of (fixed w) = w
width_of (raw w) = w
width_of sized = 4
width_of (variant_form w) = w
width_of (repeated_form w) = w
width_of tuple_form = 0
width_of unknown = 0

-- the tag that ends a repeated value: 255, or 65,535
unfoldable pub end_tag : ℕ → ℕ
end_tag w = 256 ^ w - 1

-- how many bytes every value of a form has
unfoldable pub fixed_form : Form → Option ℕ
fixed_form empty = Some 0
fixed_form truth = Some 1
fixed_form (fixed w) = Some w
fixed_form (raw w) = Some w
fixed_form sized = None
fixed_form (variant_form w) = None
fixed_form (repeated_form w) = None
fixed_form tuple_form = None
fixed_form unknown = None

unfoldable pub fixed_width : WireType → Option ℕ
fixed_width t = fixed_form (written t)

-- how many children a node may have: a tag of w bytes names 256 ^ w, and one less where one tag ends a repeated value
unfoldable pub maximum : Form → Children
maximum empty = Zero
maximum truth = Zero
maximum (fixed w) = Zero
maximum (raw w) = Zero
maximum sized = Zero
maximum (variant_form w) = UpTo (256 ^ w)
maximum (repeated_form w) = UpTo (end_tag w)
maximum tuple_form = Any
maximum unknown = Children.Unknown
