-- Wire types and their codes name each other.
-- Assumes nothing.
use Rattle.std.proofs.Common.{Option, Some, None}
use Prim.Native.Nat.{ℕ, zero, suc, ◌+◌, ◌-◌, ◌%◌, ◌≤◌, ◌<◌}
use mathlib.Core.Path.{◌≡◌, refl, sym, ap, ◌∙◌}
use mathlib.Core.List.{List, [], ◌∷◌, map}
use mathlib.Core.Bool.{Bool, true, false}
use mathlib.Core.Logic.{◌⊎◌, inl, inr, ⊎_elim}
use native.Mathlib.Omega.{arith}
use native.Mathlib.Nat.{eq-or-lt_of_le}
use borrow.Author.Tests.{ltb-true, ltb-false, eqb-true}
use lib.Dec.{ltb, eqb}
use types.Run.{OneOf}
use lib.ListN.{length, get_or, replicate, get_or-map, get_or-append, get_or-replicate}
use lib.Seq.{get_or-append-add}
use Rattle.rules.specs.Choice.{◌and◌}
use Rattle.rules.specs.Wire.{wire_types, type_in, type_of, code_of, written, written_if, form, width_of, end_tag, fixed_form, fixed_width, maximum}
use Rattle.rules.specs.declared.wire_type.WireType.{WireType}
use Rattle.rules.specs.declared.wire_type.WireType.TheVariants.{Nothing, Boolean, Int8, Int16, Int32, Int64, Int128, Int256, Uint8, Uint16, Uint32, Uint64, Double, String32, Yson32, Variant8, Variant16, RepeatedVariant8, RepeatedVariant16, Tuple}
use Rattle.rules.specs.declared.wire_type.Children.{Children}
use Rattle.rules.specs.declared.wire_type.Children.TheVariants.{Zero, UpTo, Any}
use Rattle.rules.proofs.Tests.{and_both}
use Rattle.rules.proofs.Codes.{no_type}

pub type_in_lem : (ts : List WireType) (d : WireType) (code : ℕ) → code < length ts → Some (get_or ts code d) ≡ type_in ts code
unfolding type_in
type_in_lem [] d code h = absurd (omega arith)
type_in_lem (t ∷ ts) d zero h = refl
type_in_lem (t ∷ ts) d (suc code) h = type_in_lem ts d code (omega arith)

pub type_out : (ts : List WireType) (code : ℕ) → length ts ≤ code → None ≡ type_in ts code
type_out ts code h = sym (no_type ts code h)

-- a wire type's code names it
pub type_of_code : (t : WireType) → type_of (code_of t) ≡ Some t
unfolding type_of type_in wire_types code_of
type_of_code Nothing = refl
type_of_code Boolean = refl
type_of_code Int8 = refl
type_of_code Int16 = refl
type_of_code Int32 = refl
type_of_code Int64 = refl
type_of_code Int128 = refl
type_of_code Int256 = refl
type_of_code Uint8 = refl
type_of_code Uint16 = refl
type_of_code Uint32 = refl
type_of_code Uint64 = refl
type_of_code Double = refl
type_of_code String32 = refl
type_of_code Yson32 = refl
type_of_code Variant8 = refl
type_of_code Variant16 = refl
type_of_code RepeatedVariant8 = refl
type_of_code RepeatedVariant16 = refl
type_of_code Tuple = refl

-- the codes count the types of a list from i on
unfoldable counts_from : ℕ → List WireType → Bool
counts_from i [] = true
counts_from i (t ∷ ts) = eqb (code_of t) i and counts_from (i + 1) ts

counted : (ts : List WireType) (i k : ℕ) (t : WireType) → counts_from i ts ≡ true → type_in ts k ≡ Some t → code_of t ≡ i + k
unfolding counts_from type_in
counted [] i k t c e = cc
counted (u ∷ ts) i zero t c e =
    let s : u ≡ t = cc in
    rw (← s) (omega (arith, eqb-true (code_of u) i (and_both _ _ c).0))
counted (u ∷ ts) i (suc k) t c e = omega (arith, counted ts (i + 1) k t (and_both _ _ c).1 e)

-- and a code that has a type is that type's code
pub code_of_type : (code : ℕ) (t : WireType) → type_of code ≡ Some t → code_of t ≡ code
unfolding type_of wire_types counts_from code_of ◌and◌
code_of_type code t e = omega (arith, counted wire_types 0 code t refl e)

-- ---- what holds of a type stands in a row over all types, at its code

pub code_below : (t : WireType) → code_of t < 20
unfolding type_of wire_types
code_below t = by (ltb (code_of t) 20) refl
  where
    by : (b : Bool) → ltb (code_of t) 20 ≡ b → code_of t < 20
    by true e = ltb-true (code_of t) 20 e
    by false e =
        let none = type_out wire_types (code_of t) (ltb-false (code_of t) 20 e) ∙ type_of_code t in
        let z : ◌≡◌ {A = ℕ} 0 1 = cc in
        omega arith

pub type_at : (t d : WireType) → get_or wire_types (code_of t) d ≡ t
unfolding type_of wire_types
type_at t d = let e = type_in_lem wire_types d (code_of t) (code_below t) ∙ type_of_code t in cc

row_at : {A : Type 0} (f : WireType → A) (t : WireType) (code : ℕ) → code ≡ code_of t → f t ≡ get_or (map f wire_types) code (f Nothing)
row_at f t code e = rw e (ap f (sym (type_at t Nothing)) ∙ sym (get_or-map f wire_types (code_of t) Nothing))

-- ---- fixed widths: of the codes below 13, as the form has them, and of no other

abbrev widths : List ℕ
widths = 0 ∷ 1 ∷ 1 ∷ 2 ∷ 4 ∷ 8 ∷ 16 ∷ 32 ∷ 1 ∷ 2 ∷ 4 ∷ 8 ∷ 8 ∷ []

pub fixed_in : (t : WireType) (code : ℕ) → code ≡ code_of t → code < 13 → Some (width_of (form code)) ≡ fixed_width t
unfolding wire_types fixed_width fixed_form written width_of form written_if
fixed_in t code e h =
    ap (λ (k : Option WireType). (Some (width_of (written_if k)))) (ap type_of e ∙ type_of_code t)
    ∙ row_at (λ (u : WireType). (Some (width_of (written u)))) t code e
    ∙ get_or-append (map Some widths) (map Some (4 ∷ 4 ∷ 1 ∷ 2 ∷ 1 ∷ 2 ∷ 0 ∷ [])) (Some 0) code h
    ∙ sym (row_at fixed_width t code e ∙ get_or-append (map Some widths) (replicate 7 None) (Some 0) code h)

pub fixed_out : (t : WireType) (code : ℕ) → code ≡ code_of t → 13 ≤ code → None ≡ fixed_width t
unfolding wire_types fixed_width fixed_form written
fixed_out t code e h =
    let past : code ≡ 13 + (code - 13) = omega arith in
    let row = rw past at (row_at fixed_width t code e) in
    sym (row ∙ get_or-append-add (map Some widths) (replicate 7 None) (code - 13) (Some 0)
    ∙ get_or-replicate 7 (code - 13) None (Some 0) (omega (arith, code_below t)))

-- ---- tags

-- one of two numbers
pub two : (a n : ℕ) → a ≤ n → n < a + 2 → (a ≡ n) ⊎ (a + 1 ≡ n)
two a n h l = ⊎_elim (λ e. inl e) (λ g. inr (omega arith)) (eq-or-lt_of_le h)

-- a tag has one byte where the code is odd, else two
module _ (code : ℕ) (h : 14 < code) (l : code < 19) where
  pub tag_width_lem : width_of (form code) ≡ 2 - code % 2
  unfolding wire_types type_in type_of written written_if form width_of
  tag_width_lem = by (ltb code 17) refl
    where
      by : (b : Bool) → ltb code 17 ≡ b → width_of (form code) ≡ 2 - code % 2
      by true e = let k = ltb-true code 17 e in ⊎_elim (λ e. rw (← e)) (λ e. rw (← e)) (two 15 code h (omega arith))
      by false e = ⊎_elim (λ e. rw (← e)) (λ e. rw (← e)) (two 17 code (ltb-false code 17 e) (omega arith))

  pub tag_some : 0 < width_of (form code)
  tag_some = omega (arith, tag_width_lem)

  -- so a width that is not one byte is two
  pub tag_two : (w : ℕ) → w ≡ width_of (form code) → (w ≡ 1 → ⊥) → width_of (form code) ≡ 2
  tag_two w e n = omega (arith, tag_width_lem)

-- ---- the most children: none below code 15, and no such thing from 20 on

pub leaf_maximum : (code : ℕ) → code < 15 → Zero ≡ maximum (form code)
unfolding wire_types type_of form written written_if maximum end_tag
leaf_maximum code h =
    sym (ap (λ (k : Option WireType). maximum (written_if k)) (sym (type_in_lem wire_types Nothing code (omega arith)))
    ∙ sym (get_or-map (λ (t : WireType). maximum (written t)) wire_types code Nothing)
    ∙ get_or-append (replicate 15 Zero) (UpTo 256 ∷ UpTo 65536 ∷ UpTo 255 ∷ UpTo 65535 ∷ Any ∷ []) Zero code h
    ∙ get_or-replicate 15 code Zero Zero h)

pub unknown_maximum : (code : ℕ) → 20 ≤ code → Children.Unknown ≡ maximum (form code)
unfolding wire_types type_of form written_if maximum
unknown_maximum code h = ap (λ (k : Option WireType). maximum (written_if k)) (type_out wire_types code h)

-- the last arm of a match: none of the n numbers from a on
abbrev pub Past : ℕ → ℕ → ℕ → Type 0
Past a zero x = Unit
Past a (suc n) x = Past a n x × (OneOf ((a + n) ∷ []) x → ⊥)

pub past : (a n x : ℕ) → a ≤ x → Past a n x → a + n ≤ x
past a zero x l h = omega arith
past a (suc n) x l h =
    let other : x ≡ a + n → ⊥ = h.1 in
    omega (arith, past a n x l h.0)
