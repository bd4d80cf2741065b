-- A value with children is written one child after another: one rule for variants, repeated ones and tuples.
-- Assumes nothing.
use Rattle.rules.specs.declared.refusal.Refusal.{Refusal}
use Rattle.std.proofs.Common.{Result, Ok, Err}
use Prim.Native.Nat.{ℕ, ◌+◌, ◌≤◌}
use mathlib.Core.Path.{◌≡◌, refl}
use mathlib.Core.Bool.{Bool, true, false}
use mathlib.Core.List.{List, [], ◌++◌, append-nil}
use native.Mathlib.Omega.{arith}
use native.Mathlib.Nat.{add-zero}
use borrow.Author.Tests.{eq-eqb, ne_eqb}
use lib.ListN.{length}
use lib.Dec.{ltb}
use Rattle.rules.specs.Choice.{pick}
use Rattle.rules.specs.Bytes.{le}
use Rattle.rules.specs.Wire.{form, width_of}
use Rattle.rules.specs.Block.{node_at}
use Rattle.rules.specs.Value as value
use Rattle.rules.specs.Value.{Value, nothing, boolean, number, wide, blob, Items, done, item, Values, none, more, records_of, Fits}
use Rattle.rules.specs.ValueTable.{value_kind, size_of}
use Rattle.rules.specs.Walk.{Limits}
use Rattle.rules.specs.Refusals.{ValueDoesNotMatchSchema, TupleLength, InvalidVariantTag}
use Rattle.rules.specs.Writing.{Wrote, Put, Refused, ◌>>=◌, kind_for, fitting, tagged, write, write_i, write_v}
use Rattle.value_laws.proofs.Children.{untagged, children}
use Rattle.leaves.specs.Shapes.{Shape, as_variant, as_repeated, as_tuple, shape_of}
use Rattle.judge.specs.Judging.{tagged_of, chosen_of, count_ok}
use Rattle.judge.specs.Tags.{tag_bytes, closing}
use Rattle.judge.proofs.Codes.{fixed_range, raw_range, sized_range, variant_shape, repeated_shape, tuple_shape}

-- what follows the choice of a child
unfoldable pub choosing : Result (ℕ × ℕ) Refusal → (ℕ → Wrote) → Wrote
choosing (Ok (c, w)) k = k c
choosing (Err r) k = Refused r

module _ (sch : List ℕ) (lim : Limits) (i : ℕ) where
  abbrev pub chosen_for : Shape → ℕ → ℕ → ℕ → Result (ℕ × ℕ) Refusal
  chosen_for s j t r = chosen_of (node_at sch i).code (node_at sch i).first (node_at sch i).children s j t r

  -- children of node i from the j-th on, whose records begin at r
  unfoldable pub kids : Shape → Items → ℕ → ℕ → Wrote
  kids s done j r = Put (closing s)
  kids s (item t v is) j r = choosing (chosen_for s j t r) (λ c.
      write sch lim v c r >>= (λ x.
      kids s is (j + 1) (r + records_of v) >>= (λ y.
      Put (tag_bytes s t ++ (x ++ y)))))

  -- the two ways to test a tag
  by_tag_lem : (w t r : ℕ) (x : Wrote) (k : ℕ → Wrote) → x ≡ k ((node_at sch i).first + t) → tagged sch lim t i r x ≡ choosing (tagged_of (node_at sch i).code (node_at sch i).first (node_at sch i).children w t r) k
  unfolding tagged tagged_of
  by_tag_lem w t r x k e = by (ltb t (node_at sch i).children)
    where
      by : (b : Bool) → pick b x (Refused (InvalidVariantTag (node_at sch i).code t (node_at sch i).children r)) ≡ choosing (pick b (Ok (((node_at sch i).first + t), w)) (Err (InvalidVariantTag (node_at sch i).code t (node_at sch i).children r))) k
      by true = unfold pick choosing in e
      by false = unfold pick choosing in refl

  -- nothing after the bytes leaves them
  last_bytes : (b : List ℕ) (x : Wrote) → (x >>= (λ y. Put (b ++ y))) ≡ (x >>= (λ y. Put (b ++ (y ++ []))))
  unfolding ◌>>=◌
  last_bytes b (Put y) = rw (append-nil y)
  last_bytes b (Refused r) = refl

  variant_kids : (w t : ℕ) (v : Value) (r : ℕ) →
      tagged sch lim t i r (write sch lim v ((node_at sch i).first + t) r >>= (λ x. Put (le w t ++ x))) ≡ kids (as_variant w) (item t v done) 0 r
  unfolding kids chosen_of tag_bytes closing ◌>>=◌
  variant_kids w t v r = by_tag_lem w t r _ _ (last_bytes (le w t) (write sch lim v ((node_at sch i).first + t) r))

  items_kids : (w : ℕ) → width_of (form (node_at sch i).code) ≡ w → (is : Items) (j r : ℕ) → write_i sch lim is i r ≡ kids (as_repeated w) is j r
  unfolding write kids chosen_of tag_bytes closing
  items_kids w e done j r = rw e
  items_kids w e (item t v is) j r = by_tag_lem w t r _ _ (rw (e, items_kids w e is (j + 1) (r + records_of v)))

  values_kids : (vs : Values) (j r : ℕ) → write_v sch lim vs ((node_at sch i).first + j) r ≡ kids as_tuple (untagged vs) j r
  unfolding write kids chosen_of tag_bytes closing untagged choosing
  values_kids none j r = refl
  values_kids (more v vs) j r =
      let e : ((node_at sch i).first + j) + 1 ≡ (node_at sch i).first + (j + 1) = omega arith in
      rw (e, values_kids vs (j + 1) (r + records_of v))

  -- a value of another kind is refused (15)
  pub unfit : (v : Value) (r : ℕ) → (value_kind v ≡ kind_for (node_at sch i).code (form (node_at sch i).code) → ⊥) → write sch lim v i r ≡ Refused (ValueDoesNotMatchSchema (node_at sch i).code (value_kind v) r)
  unfolding write fitting value_kind pick
  unfit nothing r h = rw (ne_eqb _ _ h)
  unfit (boolean x) r h = rw (ne_eqb _ _ h)
  unfit (number k x) r h = rw (ne_eqb _ _ h)
  unfit (wide k x) r h = rw (ne_eqb _ _ h)
  unfit (blob k x) r h = rw (ne_eqb _ _ h)
  unfit (value.variant t v) r h = rw (ne_eqb _ _ h)
  unfit (value.repeated is) r h = rw (ne_eqb _ _ h)
  unfit (value.tuple vs) r h = rw (ne_eqb _ _ h)

  -- a value with children that is of the right kind: a tuple's count is tested (16), then come the children
  pub opens : (v : Value) (r : ℕ) → 15 ≤ value_kind v → value_kind v ≡ kind_for (node_at sch i).code (form (node_at sch i).code) → Fits v →
      write sch lim v i r ≡ pick (count_ok (shape_of (node_at sch i).code) (size_of v) (node_at sch i).children) (kids (shape_of (node_at sch i).code) (children v) 0 (r + 1)) (Refused (TupleLength (node_at sch i).children (size_of v) r))
  unfolding write fitting value_kind pick count_ok children size_of Fits
  opens nothing r l e f = absurd (omega arith)
  opens (boolean x) r l e f = absurd (omega arith)
  opens (number k x) r l e f = absurd (omega (arith, fixed_range k f.0 f.1.0))
  opens (wide k x) r l e f = absurd (omega (arith, raw_range k (length x) f))
  opens (blob k x) r l e f = absurd (omega (arith, sized_range k f.0))
  opens (value.variant t v) r l e f = rw (eq-eqb _ _ e, variant_shape (node_at sch i).code e) (variant_kids (width_of (form (node_at sch i).code)) t v (r + 1))
  opens (value.repeated is) r l e f = rw (eq-eqb _ _ e, repeated_shape (node_at sch i).code e) (items_kids (width_of (form (node_at sch i).code)) refl is 0 (r + 1))
  opens (value.tuple vs) r l e f = rw (eq-eqb _ _ e, tuple_shape (node_at sch i).code e, ← (values_kids vs 0 (r + 1)), add-zero (node_at sch i).first)

-- a variant has one child
pub one_child : (v : Value) → Fits v → value_kind v ≡ 15 → size_of v ≡ 1
unfolding value_kind size_of Fits
one_child nothing f e = absurd (omega (arith, e))
one_child (boolean x) f e = absurd (omega (arith, e))
one_child (number k x) f e = absurd (omega (arith, e, fixed_range k f.0 f.1.0))
one_child (wide k x) f e = absurd (omega (arith, e, raw_range k (length x) f))
one_child (blob k x) f e = absurd (omega (arith, e, sized_range k f.0))
one_child (value.variant t v) f e = refl
one_child (value.repeated is) f e = absurd (omega (arith, e))
one_child (value.tuple vs) f e = absurd (omega (arith, e))
