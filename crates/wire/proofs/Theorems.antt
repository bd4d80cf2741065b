-- What the wire crate promises about codes, names and the order of byte strings, each by a citation.
-- Assumes nothing.
use Rattle.std.specs.declared.cmp.Ordering.{Ordering}
use Rattle.std.proofs.Common.{Some}
use Prim.Native.Nat.{ℕ}
use mathlib.Core.Path.{◌≡◌}
use mathlib.Core.Logic.{◌↔◌}
use mathlib.Core.Bool.{true, false}
use mathlib.Core.List.{List}
use Rattle.rules.specs.Bytes.{order, is_less}
use Rattle.rules.specs.Wire.{type_of, code_of}
use Rattle.rules.specs.Names.{name_of, parsed}
use Rattle.rules.specs.declared.wire_type.WireType.{WireType}
use Rattle.rules.proofs.Orders as orders
use Rattle.wire.proofs.CodeTable as codes
use Rattle.wire.proofs.NameTable as names

-- The code of a wire type names that type.
pub code_names_type : (t : WireType) → type_of (code_of t) ≡ Some t
code_names_type = codes.type_of_code

-- A code that has a type is that type's code.
pub one_code_each : (code : ℕ) (t : WireType) → type_of code ≡ Some t → code_of t ≡ code
one_code_each = codes.code_of_type

-- The name of a wire type parses as that type.
pub name_parses : (t : WireType) → parsed (name_of t) ≡ Some t
name_parses = names.parsed_name

-- Bytes that parse as a type are that type's name, and no others do.
pub parses_name_only : (name : List ℕ) (t : WireType) → parsed name ≡ Some t → name ≡ name_of t
parses_name_only = names.name_of_parsed

-- Two byte strings compare as equal if and only if they are the same.
pub equal_is_same : (xs ys : List ℕ) → (order xs ys ≡ Ordering.Equal) ↔ (xs ≡ ys)
equal_is_same = orders.order_equal_iff

-- Of two byte strings that differ one is less.
pub less_one : (xs ys : List ℕ) → is_less (order xs ys) ≡ false → is_less (order ys xs) ≡ false → xs ≡ ys
less_one = orders.order_total

-- And not both are.
pub not_both_less : (xs ys : List ℕ) → is_less (order xs ys) ≡ true → is_less (order ys xs) ≡ false
not_both_less = orders.order_asymmetric

-- What is less than a lesser one is less.
pub less_through : (xs ys zs : List ℕ) → is_less (order xs ys) ≡ true → is_less (order ys zs) ≡ true → is_less (order xs zs) ≡ true
less_through = orders.order_transitive
