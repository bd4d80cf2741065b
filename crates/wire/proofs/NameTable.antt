-- Names and wire types name each other.
-- Assumes nothing.
use Rattle.std.proofs.Common.{Option, Some, None}
use Prim.Native.Nat.{ℕ, ◌+◌, ◌≤◌, ◌<◌}
use mathlib.Core.Path.{◌≡◌, refl, sym, ap, ◌∙◌}
use mathlib.Core.Bool.{Bool, true, false}
use mathlib.Core.List.{List, [], ◌∷◌}
use native.Mathlib.Numerals.{add-one}
use borrow.Author.Tests.{eqb-true}
use lib.Dec.{eqb}
use lib.ListN.{get_or, drop, drop_of_length-le}
use lib.Seq.{drop-cons}
use Rattle.std.specs.Bool.{Decides}
use Rattle.rules.specs.Choice.{pick, ◌and◌, all}
use Rattle.rules.specs.Bytes.{order, is_equal}
use Rattle.rules.specs.Wire.{wire_types, type_of, code_of}
use Rattle.rules.specs.Names.{spelling, ascii, name_of, parse_in, parsed}
use Rattle.rules.specs.declared.wire_type.WireType.{WireType}
use Rattle.rules.specs.declared.wire_type.WireType.TheVariants.{Nothing}
use Rattle.rules.proofs.Tests.{all_each}
use Rattle.rules.proofs.Orders.{is_equal_lem, order_equal, order_same}
use Rattle.wire.proofs.CodeTable.{type_of_code, code_below, type_at}

-- the bytes of a name are a type's name where the two are in no order
pub same_name : (xs ys : List ℕ) (r : Bool) → Decides r (xs ≡ ys) → r ≡ is_equal (order xs ys)
unfolding is_equal
same_name xs ys true d = rw (d.0 refl, order_same ys)
same_name xs ys false d = by (is_equal (order xs ys)) refl
  where
    by : (b : Bool) → is_equal (order xs ys) ≡ b → false ≡ b
    by false p = refl
    by true p = d.1 (order_equal xs ys (is_equal_lem _ p))

-- ---- parsing, one wire type after another

-- what the wire types from a code on come to is what all of them do
unfoldable pub Left : List ℕ → ℕ → Type 0
Left name code = parse_in (drop code wire_types) name ≡ parsed name

pub left_all : (name : List ℕ) → Left name 0
unfolding Left parsed
left_all name = refl

pub left_none : (name : List ℕ) (code : ℕ) → Left name code → 20 ≤ code → None ≡ parsed name
unfolding Left parse_in wire_types
left_none name code left h = let none : drop code wire_types ≡ [] = drop_of_length-le wire_types h in rw none at left

-- the next one has the name or has it not
module _ (name : List ℕ) (code : ℕ) (d : WireType) (left : Left name code) (h : code < 20) (b : Bool) (named : b ≡ is_equal (order name (name_of (get_or wire_types code d)))) where
  step : pick b (Some (get_or wire_types code d)) (parse_in (drop (code + 1) wire_types) name) ≡ parsed name
  unfolding Left parse_in wire_types
  step = let front = drop-cons wire_types code d h in rw (named, add-one) (rw front at left)

  pub left_found : b ≡ true → Some (get_or wire_types code d) ≡ parsed name
  unfolding pick
  left_found e = rw e at step

  pub left_next : b ≡ false → Left name (code + 1)
  unfolding Left pick
  left_next e = rw e at step

-- ---- a name names the type whose name it is, and no other

-- the first wire type of a list that has the name has it
named_in : (ts : List WireType) (name : List ℕ) (t : WireType) → parse_in ts name ≡ Some t → name ≡ name_of t
unfolding parse_in pick
named_in [] name t e = cc
named_in (u ∷ ts) name t e = by (named_in ts name t) (is_equal (order name (name_of u))) refl e
  where
    by : (parse_in ts name ≡ Some t → name ≡ name_of t) → (b : Bool) → is_equal (order name (name_of u)) ≡ b → pick b (Some u) (parse_in ts name) ≡ Some t → name ≡ name_of t
    by below true p q = let s : u ≡ t = cc in rw (← s) (order_equal _ _ (is_equal_lem _ p))
    by below false p q = below q

pub name_of_parsed : (name : List ℕ) (t : WireType) → parsed name ≡ Some t → name ≡ name_of t
unfolding parsed
name_of_parsed name t e = named_in wire_types name t e

unfoldable is_wire : Option WireType → ℕ → Bool
is_wire (Some t) k = eqb (code_of t) k
is_wire None k = false

is_wire_lem : (k : Option WireType) (t : WireType) → is_wire k (code_of t) ≡ true → k ≡ Some t
unfolding is_wire
is_wire_lem (Some u) t e =
    sym (type_of_code u) ∙ ap type_of (eqb-true (code_of u) (code_of t) e) ∙ type_of_code t
is_wire_lem None t e = cc

-- each name names its own type, by one computed test
all_parsed : all (λ k. is_wire (parsed (name_of (get_or wire_types k Nothing))) k) 20 ≡ true
unfolding all ◌and◌ is_wire pick order is_equal wire_types code_of spelling ascii name_of parse_in parsed
all_parsed = refl

pub parsed_name : (t : WireType) → parsed (name_of t) ≡ Some t
parsed_name t =
    let each = all_each (λ k. is_wire (parsed (name_of (get_or wire_types k Nothing))) k) 20 (code_of t) all_parsed (code_below t) in
    is_wire_lem _ t (rw (type_at t Nothing) at each)
