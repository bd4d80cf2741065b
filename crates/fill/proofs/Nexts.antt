-- A node's next child, from what the code reads of it.
-- Assumes nothing.
use Prim.Native.Nat.{ℕ, ◌+◌, ◌-◌, ◌≤◌, ◌<◌}
use mathlib.Core.Path.{◌≡◌, sym, ap, ◌∙◌}
use mathlib.Core.Bool.{Bool, true, false}
use mathlib.Core.List.{List}
use native.Mathlib.Omega.{arith}
use borrow.Author.Tests.{lt-ltb, le-ltb}
use lib.Dec.{eqb}
use lib.ListN.{length}
use Rattle.rules.specs.Choice.{pick}
use Rattle.rules.specs.Bytes.{le_at}
use Rattle.rules.specs.Wire.{variant_form, repeated_form, form, width_of, end_tag}
use Rattle.fill.specs.declared.Next.TheVariants.{Child, End}
use Rattle.leaves.specs.Shapes.{shape_of, ends_at}
use Rattle.fill.specs.Filling.{tag_length, next_of}
use Rattle.leaves.proofs.Codes.{form_variant, form_repeated, form_tuple, shape_repeated, tag_some}

-- ---- tags

-- a variant's only child has a tag
tag_of_variant : (code i : ℕ) → 14 < code → code < 17 → i ≤ 0 → tag_length (form code) i ≡ width_of (form code)
unfolding tag_length width_of
tag_of_variant code i h l z =
    let e : i ≡ 0 = omega arith in
    rw (form_variant code h l, e)

-- of a repeated type each child has one, and the end
tag_of_repeated : (code i : ℕ) → 17 ≤ code → code < 19 → tag_length (form code) i ≡ width_of (form code)
unfolding tag_length width_of
tag_of_repeated code i h l = rw (form_repeated code h l)

-- where there is room for that tag, it can be read
module _ (inp : List ℕ) (code i at : ℕ) (h : 14 < code) (r : tag_length (form code) i ≤ length inp - at) where
  abbrev TagFits : Type 0
  TagFits = (14 < code) × (code < 19) × (at + width_of (form code) ≤ length inp)

  pub variant_tag : code < 17 → i ≤ 0 → TagFits
  variant_tag l z = (h, omega arith, omega (arith, tag_of_variant code i h l z, r, tag_some code h (omega arith)))

  pub repeated_tag : code < 20 → (code ≡ 19 → ⊥) → 17 ≤ code → TagFits
  repeated_tag m n g = let l : code < 19 = omega (arith, n) in (h, l, omega (arith, tag_of_repeated code i g l, r, tag_some code h l))

-- ---- children

module _ (inp : List ℕ) (first count code i at : ℕ) where
  -- a tuple has `count` children
  pub next_in_tuple : code ≡ 19 → i < count → Child 0 (first + i) at ≡ next_of inp first count (form code) i at
  unfolding next_of pick
  next_in_tuple e h = rw (form_tuple code (omega arith) (omega arith), lt-ltb i count h)

  pub tuple_done : code ≡ 19 → count ≤ i → End at ≡ next_of inp first count (form code) i at
  unfolding next_of pick
  tuple_done e h = rw (form_tuple code (omega arith) (omega arith), le-ltb i count h)

  -- a variant has one
  pub variant_done : 14 < code → code < 17 → 0 < i → End at ≡ next_of inp first count (form code) i at
  unfolding next_of pick
  variant_done h l z = rw (form_variant code h l, lt-ltb 0 i z)

  module _ (tag w : ℕ) (is : tag ≡ le_at inp at (width_of (form code))) (wide : w ≡ width_of (form code)) where
    same_tag : tag ≡ le_at inp at w
    same_tag = is ∙ ap (le_at inp at) (sym wide)

    pub next_of_variant : 14 < code → code < 17 → i ≤ 0 → Child tag (first + tag) (at + w) ≡ next_of inp first count (form code) i at
    unfolding next_of pick
    next_of_variant h l z =
        let f : form code ≡ variant_form w = form_variant code h l ∙ ap variant_form (sym wide) in
        rw (f, le-ltb 0 i z, same_tag)

    -- a repeated type has one unless the tag is the end
    module _ (b : Bool) (h : 17 ≤ code) (m : code < 20) (n : code ≡ 19 → ⊥) (e : b ≡ ends_at (shape_of code) tag) where
      by_tag_lem : next_of inp first count (form code) i at ≡ pick b (End (at + w)) (Child tag (first + tag) (at + w))
      unfolding next_of ends_at
      by_tag_lem =
          let l : code < 19 = omega (arith, n) in
          let f : form code ≡ repeated_form w = form_repeated code h l ∙ ap repeated_form (sym wide) in
          let g : b ≡ eqb tag (end_tag w) = rw wide (rw (shape_repeated code h l) at e) in
          rw (f, g, same_tag)

      pub no_pair : b ≡ true → End (at + w) ≡ next_of inp first count (form code) i at
      unfolding pick
      no_pair q = rw (by_tag_lem, q)

      pub next_pair : b ≡ false → Child tag (first + tag) (at + w) ≡ next_of inp first count (form code) i at
      unfolding pick
      next_pair q = rw (by_tag_lem, q)
