-- A row's value conforms, and the canonical bytes of a value that conforms are a row of it.
-- Assumes nothing.
use Prim.Native.Nat.{ℕ, zero, suc, ◌^◌, ◌≤◌, ◌<◌}
use mathlib.Core.Path.{◌≡◌, refl, sym, ◌∙◌}
use mathlib.Core.Bool.{Bool, true, false}
use mathlib.Core.List.{List, [], ◌∷◌}
use native.Mathlib.Omega.{arith}
use borrow.Author.Tests.{leb-true}
use lib.Dec.{leb}
use lib.ListN.{length}
use Rattle.rules.specs.Choice.{◌and◌, all}
use Rattle.rules.specs.Wire.{Form, empty, truth, fixed, raw, sized, variant_form, repeated_form, tuple_form, unknown, form, written, written_if, type_of, type_in, wire_types, width_of, end_tag, maximum}
use Rattle.rules.proofs.Codes.{every_form}
use Rattle.rules.specs.Schema.{Schema, Schemas, nil, cons, count, child, Allows, Valid, valid, ValidAll, a_schema}
use Rattle.rules.specs.Value.{Value, Items, Values, boolean, number, wide, Fits, FitsI, FitsV}
use Rattle.rules.specs.ValueTable.{bit}
use Rattle.rules.specs.Grammar.{Row, row, Body, a_nothing, a_false, a_true, a_number, a_wide, a_blob, a_variant, a_repeated, a_tuple, Pairs, end, pair, Fields, no_field, field, Conforms, conforms, Suits, s_nothing, s_boolean, s_number, s_wide, s_blob, s_variant, s_repeated, s_tuple, SuitI, s_done, s_item, SuitV, s_none, s_more, form_of, children_of, bytes_v, bytes_i, bytes_f, encoded}

mutual
  pub row_conforms : {s : Schema} {v : Value} {b : List ℕ} → Row s v b → Conforms s v
  row_conforms (row h) = conforms (body_suits h)

  body_suits : {f : Form} {k : ℕ} {ss : Schemas} {v : Value} {b : List ℕ} → Body f k ss v b → Suits f k ss v
  body_suits a_nothing = s_nothing
  body_suits a_false = s_boolean
  body_suits (a_true h) = s_boolean
  body_suits (a_number h e) = s_number
  body_suits (a_wide h) = s_wide
  body_suits (a_blob h e) = s_blob
  body_suits (a_variant h l r e) = s_variant l (row_conforms r)
  body_suits (a_repeated h) = s_repeated (pairs_suit h)
  body_suits (a_tuple h) = s_tuple (fields_suit h)

  pairs_suit : {w : ℕ} {ss : Schemas} {is : Items} {b : List ℕ} → Pairs w ss is b → SuitI ss is
  pairs_suit (end e) = s_done
  pairs_suit (pair h l r p e) = s_item l (row_conforms r) (pairs_suit p)

  fields_suit : {ss : Schemas} {vs : Values} {b : List ℕ} → Fields ss vs b → SuitV ss vs
  fields_suit no_field = s_none
  fields_suit (field r h e) = s_more (row_conforms r) (fields_suit h)

boolean_body : (k : ℕ) (ss : Schemas) (x : Bool) → Body Form.truth k ss (boolean x) (bit x ∷ [])
unfolding bit
boolean_body k ss true = a_true {x = 1} (omega arith)
boolean_body k ss false = a_false

-- a form that is known twice has one width
fixed_width_lem : (a b : ℕ) → fixed a ≡ fixed b → a ≡ b
fixed_width_lem a b e = cc

raw_width : (a b : ℕ) → raw a ≡ raw b → a ≡ b
raw_width a b e = cc

number_fits : (k w x : ℕ) → form k ≡ fixed w → Fits (number k x) → x < 256 ^ w
unfolding Fits
number_fits k w x e (u, (q, h)) = rw (fixed_width_lem w u (sym e ∙ q)) h

wide_fits : (k w : ℕ) (x : List ℕ) → form k ≡ raw w → Fits (wide k x) → length x ≡ w
unfolding Fits
wide_fits k w x e h = raw_width (length x) w (sym h ∙ e)

pub valid_child : (ss : Schemas) (t : ℕ) → ValidAll ss → t < count ss → Valid (child ss t)
unfolding child count
valid_child nil t a h = absurd (omega arith)
valid_child (cons s ss) zero (a_schema v a) h = v
valid_child (cons s ss) (suc t) (a_schema v a) h = valid_child ss t a (omega arith)

mutual
  unfolding bytes_v encoded form_of children_of width_of Allows maximum Fits

  -- the canonical bytes of a value that conforms are a row of it
  pub encoded_row_lem : {s : Schema} {v : Value} → Conforms s v → Fits v → Valid s → Row s v (encoded s v)
  encoded_row_lem (conforms {k = k} h) ok (valid n a) = row (suits_body k h refl ok n a)

  suits_body : {f : Form} (k : ℕ) {ss : Schemas} {v : Value} → Suits f k ss v → form k ≡ f → Fits v → Allows (maximum f) (count ss) → ValidAll ss → Body f k ss v (bytes_v v f ss)
  suits_body k s_nothing e ok n a = a_nothing
  suits_body k (s_boolean {ss = ss} {x = x}) e ok n a = boolean_body k ss x
  suits_body k (s_number {w = w} {x = x}) e ok n a = a_number (number_fits k w x e ok) refl
  suits_body k (s_wide {w = w} {x = x}) e ok n a = a_wide (wide_fits k w x e ok)
  suits_body k s_blob e ok n a = a_blob ok.1 refl
  suits_body k (s_variant {w = w} {t = t} {ss = ss} l c) e ok n a = a_variant {w = w} {t = t} (omega arith) l (encoded_row_lem c ok.1 (valid_child ss t a l)) refl
  suits_body k (s_repeated h) e ok n a = a_repeated (suits_pairs h ok n a)
  suits_body k (s_tuple h) e ok n a = a_tuple (suits_fields h ok a)

  suits_pairs : {w : ℕ} {ss : Schemas} {is : Items} → SuitI ss is → FitsI is → count ss ≤ end_tag w → ValidAll ss → Pairs w ss is (bytes_i is w ss)
  suits_pairs s_done ok n a = end refl
  suits_pairs {w = w} (s_item {t = t} {ss = ss} l c r) ok n a = pair {w = w} {t = t} (omega arith) l (encoded_row_lem c ok.1.0 (valid_child ss t a l)) (suits_pairs r ok.1.1 n a) refl

  suits_fields : {ss : Schemas} {vs : Values} → SuitV ss vs → FitsV vs → ValidAll ss → Fields ss vs (bytes_f vs ss)
  suits_fields s_none ok a = no_field
  suits_fields (s_more c r) ok (a_schema v a) = field (encoded_row_lem c ok.0 v) (suits_fields r ok.1 a) refl

-- ---- a row's value fits value records: above all its tags fit two bytes
unfoldable tag_width : Form → ℕ
tag_width empty = 0
tag_width truth = 0
tag_width (fixed w) = 0
tag_width (raw w) = 0
tag_width sized = 0
tag_width (variant_form w) = w
tag_width (repeated_form w) = w
tag_width tuple_form = 0
tag_width unknown = 0

narrow : (k : ℕ) → tag_width (form k) ≤ 2
unfolding tag_width all ◌and◌ form written written_if type_of type_in wire_types
narrow k = leb-true _ _ (every_form (λ f i. leb (tag_width f) 2) refl (λ i. refl) k)

two_bytes : (t w : ℕ) → w ≤ 2 → t < 256 ^ w → t < 256 ^ 2
two_bytes t zero l h = omega arith
two_bytes t (suc zero) l h = omega arith
two_bytes t (suc (suc zero)) l h = h
two_bytes t (suc (suc (suc w))) l h = absurd (omega arith)

below_end : (t w : ℕ) → t < end_tag w → t < 256 ^ w
unfolding end_tag
below_end t w h = omega arith

mutual
  unfolding Fits tag_width

  pub row_fits : {s : Schema} {v : Value} {b : List ℕ} → Row s v b → Fits v
  row_fits (row {k = k} h) = body_fits k h refl

  body_fits : {f : Form} (k : ℕ) {ss : Schemas} {v : Value} {b : List ℕ} → Body f k ss v b → form k ≡ f → Fits v
  body_fits k a_nothing e = tt
  body_fits k a_false e = tt
  body_fits k (a_true h) e = tt
  body_fits k (a_number {w = w} h x) e = (w, (e, h))
  body_fits k (a_wide h) e = rw h e
  body_fits k (a_blob h x) e = (e, h)
  body_fits k (a_variant {w = w} {t = t} h l r x) e = (two_bytes t w (rw e at (narrow k)) h, row_fits r)
  body_fits k (a_repeated {w = w} h) e = pairs_fit h (rw e at (narrow k))
  body_fits k (a_tuple h) e = fields_fit h

  pairs_fit : {w : ℕ} {ss : Schemas} {is : Items} {b : List ℕ} → Pairs w ss is b → w ≤ 2 → FitsI is
  pairs_fit (end e) n = tt
  pairs_fit (pair {w = w} {t = t} h l r p e) n = (two_bytes t w n (below_end t w h), (row_fits r, pairs_fit p n))

  fields_fit : {ss : Schemas} {vs : Values} {b : List ℕ} → Fields ss vs b → FitsV vs
  fields_fit no_field = tt
  fields_fit (field r h e) = (row_fits r, fields_fit h)
