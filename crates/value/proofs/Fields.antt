-- What the tests of a record's fields come to, by the ranges that the code tells apart.
-- Assumes nothing.
use Prim.Native.Nat.{ℕ, zero, suc, ◌+◌, ◌-◌, ◌^◌, ◌≤◌, ◌<◌}
use mathlib.Core.Path.{◌≡◌, refl, sym, ap, ◌∙◌}
use mathlib.Core.Bool.{Bool, true, false}
use mathlib.Core.Logic.{⊎_elim}
use native.Mathlib.Omega.{arith}
use native.Mathlib.Nat.{pow-suc}
use borrow.Author.Tests.{eqb-true, ltb-true, leb-true, leb-false, lt-ltb, le-ltb, le-leb, ne_eqb}
use lib.Dec.{ltb, leb, eqb}
use Rattle.rules.specs.Choice.{pick, ◌and◌, all}
use Rattle.rules.specs.Wire.{Form, empty, truth, fixed, raw, sized, variant_form, repeated_form, tuple_form, unknown, form, width_of, wire_types, type_in, type_of, written, written_if}
use Rattle.rules.specs.declared.table_record.ValueRecord.{ValueRecord}
use Rattle.rules.proofs.Tests.{all_each, and_both, and_all, false_not}
use Rattle.rules.proofs.Codes.{every_form}
use Rattle.wire.proofs.CodeTable.{two}
use Rattle.rules.specs.Query.{scalar_alone}
use Rattle.value.specs.Records.{stored_ok, own_size, most_content, has_payload, scalar_ok, value_record_ok}

-- ---- scalars

-- the codes below 13: what is wider than a record's eight bytes is payload, all else a number, the boolean being code 1
unfoldable held_ok : Form → ℕ → Bool
held_ok empty k = eqb k 0
held_ok truth k = eqb k 1
held_ok (fixed w) k = leb w 8
held_ok (raw w) k = ltb 8 w
held_ok sized k = false
held_ok (variant_form w) k = false
held_ok (repeated_form w) k = false
held_ok tuple_form k = false
held_ok unknown k = false

held_ok_lem : (k : ℕ) → k < 13 → held_ok (form k) k ≡ true
unfolding held_ok all ◌and◌ wire_types type_in type_of written written_if form
held_ok_lem k h = all_each (λ i. held_ok (form i) i) 13 k refl h

fixed_form_lem : (f : Form) (k : ℕ) → held_ok f k ≡ true → width_of f ≤ 8 → (k ≡ 0 → ⊥) → (k ≡ 1 → ⊥) → f ≡ fixed (width_of f)
unfolding held_ok width_of
fixed_form_lem empty k c l m n = absurd (m (eqb-true k 0 c))
fixed_form_lem truth k c l m n = absurd (n (eqb-true k 1 c))
fixed_form_lem (fixed w) k c l m n = refl
fixed_form_lem (raw w) k c l m n = absurd (omega (arith, ltb-true 8 w c))
fixed_form_lem sized k c l m n = false_not c
fixed_form_lem (variant_form w) k c l m n = false_not c
fixed_form_lem (repeated_form w) k c l m n = false_not c
fixed_form_lem tuple_form k c l m n = false_not c
fixed_form_lem unknown k c l m n = false_not c

raw_form : (f : Form) (k : ℕ) → held_ok f k ≡ true → 8 < width_of f → f ≡ raw (width_of f)
unfolding held_ok width_of
raw_form empty k c l = absurd (omega arith)
raw_form truth k c l = absurd (omega arith)
raw_form (fixed w) k c l = absurd (omega (arith, leb-true w 8 c))
raw_form (raw w) k c l = refl
raw_form sized k c l = false_not c
raw_form (variant_form w) k c l = false_not c
raw_form (repeated_form w) k c l = false_not c
raw_form tuple_form k c l = false_not c
raw_form unknown k c l = false_not c

module _ (k w : ℕ) (h : k ≤ 12) (e : w ≡ width_of (form k)) where
  -- a number has at most eight bytes
  pub fixed_is : w ≤ 8 → (k ≡ 0 → ⊥) → (k ≡ 1 → ⊥) → form k ≡ fixed w
  fixed_is l m n = rw e (fixed_form_lem (form k) k (held_ok_lem k (omega arith)) (omega arith) m n)

  -- int128 and int256 have more
  pub raw_is : 8 < w → form k ≡ raw w
  raw_is l = rw e (raw_form (form k) k (held_ok_lem k (omega arith)) (omega arith))

-- int128 and int256 have few bytes
unfoldable raw_ok : Form → ℕ → Bool
raw_ok empty k = true
raw_ok truth k = true
raw_ok (fixed w) k = true
raw_ok (raw w) k = leb w 32
raw_ok sized k = true
raw_ok (variant_form w) k = true
raw_ok (repeated_form w) k = true
raw_ok tuple_form k = true
raw_ok unknown k = true

pub raw_width : (k w : ℕ) → form k ≡ raw w → w ≤ 32
unfolding raw_ok all ◌and◌ wire_types type_in type_of written written_if form
raw_width k w e = leb-true w 32 (rw e at (every_form raw_ok refl (λ i. refl) k))

-- 13 and 14 are blobs
pub blob_form : (k : ℕ) → 12 < k → k < 15 → form k ≡ sized
unfolding wire_types type_in type_of written written_if form
blob_form k h l = ⊎_elim (λ e. rw (← e)) (λ e. rw (← e)) (two 13 k h (omega arith))

-- of the codes below 13 only 6 and 7 have payload
unfoldable length_ok : ℕ → Bool
length_ok k = pick (eqb k 6) true (pick (eqb k 7) true (eqb (own_size (form k)) 0))

pub no_length : (k : ℕ) → k < 13 → (k ≡ 6 → ⊥) → (k ≡ 7 → ⊥) → own_size (form k) ≡ 0
unfolding length_ok own_size pick all ◌and◌ wire_types type_in type_of written written_if form
no_length k h m n = eqb-true _ 0 (rw (ne_eqb k 6 m, ne_eqb k 7 n) at (all_each length_ok 13 k refl h))

-- below a bound is up to the number before it
up_to : (x n : ℕ) → ltb x (n + 1) ≡ leb x n
up_to x n = by (leb x n) refl
  where
    by : (b : Bool) → leb x n ≡ b → ltb x (n + 1) ≡ b
    by true e = lt-ltb x (n + 1) (omega (arith, leb-true x n e))
    by false e = le-ltb x (n + 1) (omega (arith, leb-false x n e))

power : (w : ℕ) → 0 < 256 ^ w
power zero = omega arith
power (suc w) = let h = power w in rw pow-suc (omega (arith, h))

module _ (size content : ℕ) where
  -- every scalar below 13 has its own length, and a number that is not too large
  alone_form : (f : Form) (k : ℕ) → held_ok f k ≡ true → content < 2 ^ 64 → scalar_alone f size content ≡ eqb size (own_size f) and leb content (most_content f)
  unfolding held_ok scalar_alone own_size most_content
  alone_form empty k c h = ap (λ b. eqb size 0 and b) (up_to content 0)
  alone_form truth k c h = ap (λ b. eqb size 0 and b) (up_to content 1)
  alone_form (fixed w) k c h =
      let e : 256 ^ w ≡ (256 ^ w - 1) + 1 = omega (arith, power w) in
      ap (λ b. eqb size 0 and b) (ap (ltb content) e ∙ up_to content (256 ^ w - 1))
  alone_form (raw w) k c h = rw (le-leb content (2 ^ 64 - 1) (omega (arith, h))) (sym (and_all (eqb size w)))
  alone_form sized k c h = false_not c
  alone_form (variant_form w) k c h = false_not c
  alone_form (repeated_form w) k c h = false_not c
  alone_form tuple_form k c h = false_not c
  alone_form unknown k c h = false_not c

  -- one that has a length, and no other, has payload
  kept_form : (f : Form) (k : ℕ) → held_ok f k ≡ true → scalar_alone f size content ≡ true → has_payload f ≡ ltb 0 size
  unfolding held_ok scalar_alone has_payload
  kept_form empty k c a = sym (le-ltb 0 size (omega (arith, eqb-true size 0 (and_both _ _ a).0)))
  kept_form truth k c a = sym (le-ltb 0 size (omega (arith, eqb-true size 0 (and_both _ _ a).0)))
  kept_form (fixed w) k c a = sym (le-ltb 0 size (omega (arith, eqb-true size 0 (and_both _ _ a).0)))
  kept_form (raw w) k c a = sym (lt-ltb 0 size (omega (arith, ltb-true 8 w c, eqb-true size w a)))
  kept_form sized k c a = false_not c
  kept_form (variant_form w) k c a = false_not c
  kept_form (repeated_form w) k c a = false_not c
  kept_form tuple_form k c a = false_not c
  kept_form unknown k c a = false_not c

  module _ (k : ℕ) (l : k ≤ 12) where
    pub alone_is : content < 2 ^ 64 → scalar_alone (form k) size content ≡ eqb size (own_size (form k)) and leb content (most_content (form k))
    alone_is = alone_form (form k) k (held_ok_lem k (omega arith))

    pub kept_is : scalar_alone (form k) size content ≡ true → has_payload (form k) ≡ ltb 0 size
    kept_is = kept_form (form k) k (held_ok_lem k (omega arith))

-- ---- payload

module _ (size content from store : ℕ) where
  -- the payload of a scalar lies in the store
  stored_in : from ≤ store → stored_ok size content from store ≡ true → from + size ≤ store
  unfolding stored_ok
  stored_in l c = omega (arith, leb-true size (store - from) (and_both _ _ c).1)

  none_in : (b : Bool) → from ≤ store → eqb size 0 and b ≡ true → from + size ≤ store
  none_in b l c = omega (arith, eqb-true size 0 (and_both _ _ c).0)

  scalar_in : (f : Form) → from ≤ store → scalar_ok f size content from store ≡ true → from + size ≤ store
  unfolding scalar_ok scalar_alone has_payload pick
  scalar_in empty l c = none_in _ l (and_both _ _ c).0
  scalar_in truth l c = none_in _ l (and_both _ _ c).0
  scalar_in (fixed w) l c = none_in _ l (and_both _ _ c).0
  scalar_in (raw w) l c = stored_in l (and_both _ _ c).1
  scalar_in sized l c = stored_in l (and_both _ _ c).1
  scalar_in (variant_form w) l c = false_not (and_both _ _ c).0
  scalar_in (repeated_form w) l c = false_not (and_both _ _ c).0
  scalar_in tuple_form l c = false_not (and_both _ _ c).0
  scalar_in unknown l c = false_not (and_both _ _ c).0

-- so does that of a record of a scalar kind
pub record_in : (r : ValueRecord) (tagged : Bool) (from store : ℕ) → from ≤ store → r.kind < 15 → value_record_ok r tagged from store ≡ true → from + r.size ≤ store
unfolding value_record_ok pick
record_in r tagged from store l k c = scalar_in r.size r.content from store (form r.kind) l (rw (lt-ltb r.kind 15 k) at (and_both _ _ c).1)
