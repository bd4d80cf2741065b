-- What the form of a wire code says of the code.
-- Assumes nothing.
use Prim.Native.Nat.{ℕ, ◌≤◌, ◌<◌}
use mathlib.Core.Path.{◌≡◌, refl, sym, ap}
use mathlib.Core.Bool.{Bool, true, false}
use borrow.Author.Tests.{ltb-true, leb-true, eqb-true}
use lib.Dec.{ltb, leb, eqb}
use Rattle.rules.specs.Choice.{pick, ◌and◌, all}
use Rattle.rules.specs.Wire.{Form, empty, truth, fixed, raw, sized, variant_form, repeated_form, tuple_form, unknown, form, written, written_if, type_of, type_in, wire_types, width_of}
use Rattle.rules.specs.Writing.{kind_for}
use Rattle.rules.proofs.Tests.{and_both}
use Rattle.rules.proofs.Codes.{every_form}

-- only code 0 has no bytes, only 1 is a truth value; numbers have at most eight bytes, tags two; scalars and blobs are codes below 15
unfoldable code_ok : Form → ℕ → Bool
code_ok empty k = eqb k 0
code_ok truth k = eqb k 1
code_ok (fixed w) k = ltb k 15 and leb w 8
code_ok (raw w) k = ltb k 15
code_ok sized k = ltb k 15
code_ok (variant_form w) k = leb w 2
code_ok (repeated_form w) k = leb w 2
code_ok tuple_form k = true
code_ok unknown k = true

code_ok_lem : (k : ℕ) → code_ok (form k) k ≡ true
unfolding code_ok all form written written_if type_of type_in wire_types ◌and◌
code_ok_lem k = every_form code_ok refl (λ i. refl) k

-- only code 0 has no bytes
pub empty_code : (k : ℕ) → form k ≡ empty → k ≡ 0
unfolding code_ok
empty_code k e = eqb-true k 0 (rw e at (code_ok_lem k))

-- only code 1 is a truth value
pub truth_code : (k : ℕ) → form k ≡ truth → k ≡ 1
unfolding code_ok
truth_code k e = eqb-true k 1 (rw e at (code_ok_lem k))

-- a number is a code below 15, in at most eight bytes
pub fixed_code : (k w : ℕ) → form k ≡ fixed w → (k < 15) × (w ≤ 8)
unfolding code_ok
fixed_code k w e = let h = and_both _ _ (rw e at (code_ok_lem k)) in (ltb-true k 15 h.0, leb-true w 8 h.1)

-- int128 and int256 are codes below 15
pub raw_code : (k w : ℕ) → form k ≡ raw w → k < 15
unfolding code_ok
raw_code k w e = ltb-true k 15 (rw e at (code_ok_lem k))

-- a blob is a code below 15
pub sized_code : (k : ℕ) → form k ≡ sized → k < 15
unfolding code_ok
sized_code k e = ltb-true k 15 (rw e at (code_ok_lem k))

-- a variant's tag has at most two bytes
pub variant_width : (k w : ℕ) → form k ≡ variant_form w → w ≤ 2
unfolding code_ok
variant_width k w e = leb-true w 2 (rw e at (code_ok_lem k))

-- so has the tag of a repeated variant
pub repeated_width : (k w : ℕ) → form k ≡ repeated_form w → w ≤ 2
unfolding code_ok
repeated_width k w e = leb-true w 2 (rw e at (code_ok_lem k))

-- ---- which codes take a value of a kind

-- scalars and blobs
unfoldable pub plain : Form → Bool
plain empty = true
plain truth = true
plain (fixed w) = true
plain (raw w) = true
plain sized = true
plain (variant_form w) = false
plain (repeated_form w) = false
plain tuple_form = false
plain unknown = false

-- the forms that take kind 15, 16 and 17
unfoldable made : ℕ → ℕ → Form
made k w = pick (eqb k 15) (variant_form w) (pick (eqb k 16) (repeated_form w) (pick (eqb k 17) tuple_form unknown))

-- by the form of the code
own : (k c : ℕ) (f : Form) → plain (form k) ≡ true → form c ≡ f → k ≡ kind_for c f → c ≡ k
unfolding plain kind_for form written written_if type_of type_in wire_types
own k c empty s e q = sym q
own k c truth s e q = sym q
own k c (fixed w) s e q = sym q
own k c (raw w) s e q = sym q
own k c sized s e q = sym q
own k c (variant_form w) s e q = let z = rw q at s in cc
own k c (repeated_form w) s e q = let z = rw q at s in cc
own k c tuple_form s e q = let z = rw q at s in cc
own k c unknown s e q = let z = rw q at s in cc

-- no form is both
clash : (c : ℕ) (f g : Form) → plain (form c) ≡ false → form c ≡ f → plain f ≡ true → f ≡ g
clash c f g s e t = let z : plain f ≡ false = rw e at s in cc

-- a code that takes another kind has the form of that kind
compound : (k c : ℕ) (f : Form) → plain (form k) ≡ false → form c ≡ f → k ≡ kind_for c f → f ≡ made k (width_of f)
unfolding plain kind_for made pick width_of
compound k c empty s e q = clash c empty _ (rw q at s) e refl
compound k c truth s e q = clash c truth _ (rw q at s) e refl
compound k c (fixed w) s e q = clash c (fixed w) _ (rw q at s) e refl
compound k c (raw w) s e q = clash c (raw w) _ (rw q at s) e refl
compound k c sized s e q = clash c sized _ (rw q at s) e refl
compound k c (variant_form w) s e q = rw q
compound k c (repeated_form w) s e q = rw q
compound k c tuple_form s e q = rw q
compound k c unknown s e q = rw q

-- a code that takes the kind of a scalar or blob is that kind
pub scalar_taken : (k c : ℕ) → plain (form k) ≡ true → k ≡ kind_for c (form c) → c ≡ k
scalar_taken k c s q = own k c (form c) s refl q

-- nothing is taken by a code that has no bytes
pub nothing_taken : (c : ℕ) → 0 ≡ kind_for c (form c) → form c ≡ empty
unfolding plain form written written_if type_of type_in wire_types
nothing_taken c q = ap form (scalar_taken 0 c refl q)

-- a boolean is taken by a code that is a truth value
pub boolean_taken : (c : ℕ) → 1 ≡ kind_for c (form c) → form c ≡ truth
unfolding plain form written written_if type_of type_in wire_types
boolean_taken c q = ap form (scalar_taken 1 c refl q)

-- kind 15 is taken by a variant
pub variant_taken : (c : ℕ) → 15 ≡ kind_for c (form c) → form c ≡ variant_form (width_of (form c))
unfolding plain made pick form written written_if type_of type_in wire_types
variant_taken c q = compound 15 c (form c) refl refl q

-- kind 16 is taken by a repeated variant
pub repeated_taken : (c : ℕ) → 16 ≡ kind_for c (form c) → form c ≡ repeated_form (width_of (form c))
unfolding plain made pick form written written_if type_of type_in wire_types
repeated_taken c q = compound 16 c (form c) refl refl q

-- kind 17 is taken by a tuple
pub tuple_taken : (c : ℕ) → 17 ≡ kind_for c (form c) → form c ≡ tuple_form
unfolding plain made pick form written written_if type_of type_in wire_types
tuple_taken c q = compound 17 c (form c) refl refl q
