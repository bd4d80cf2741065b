-- A row's bytes are the canonical ones just where every boolean byte is 0 or 1.
-- Assumes nothing.
use Prim.Native.Nat.{ℕ}
use mathlib.Core.Path.{◌≡◌, refl, sym, ap, ◌∙◌}
use mathlib.Core.List.{List, [], ◌∷◌, ◌++◌}
use mathlib.Core.Logic.{◌↔◌}
use native.Mathlib.Omega.{arith}
use lib.ListN.{length}
use Rattle.rules.specs.Bytes.{le}
use Rattle.rules.specs.Wire.{Form, width_of}
use Rattle.rules.specs.Schema.{Schema, Schemas, child}
use Rattle.rules.specs.Value.{Value, Items, Values}
use Rattle.rules.specs.ValueTable.{bit}
use Rattle.rules.specs.Grammar.{Row, row, Body, a_nothing, a_false, a_true, a_number, a_wide, a_blob, a_variant, a_repeated, a_tuple, Pairs, end, pair, Fields, no_field, field, TableRow, table_row, form_of, children_of, bytes_v, bytes_i, bytes_f, encoded, encoded_row}
use Rattle.rules.specs.RoundTrip.{PlainBooleans, PlainBody, PlainPairs, PlainFields, PlainRow}
use Rattle.promises.proofs.Lengths.{row_length}

-- two lists that begin with parts of one length
both_parts : {A : Type 0} (a b x y : List A) → length a ≡ length b → a ++ x ≡ b ++ y → (a ≡ b) × (x ≡ y)
both_parts [] [] x y l e = (refl, e)
both_parts [] (d ∷ b) x y l e = absurd (omega arith)
both_parts (c ∷ a) [] x y l e = absurd (omega arith)
both_parts (c ∷ a) (d ∷ b) x y l e =
    let h : c ≡ d = cc in
    let t : a ++ x ≡ b ++ y = cc in
    let r = both_parts a b x y (omega arith) t in
    (rw (h, r.0), r.1)

-- ---- plain, and so canonical
mutual
  unfolding encoded bytes_v form_of children_of width_of bit PlainBooleans

  plain_row : {s : Schema} {v : Value} {b : List ℕ} (r : Row s v b) → PlainBooleans r → b ≡ encoded s v
  plain_row (row h) p = plain_body h p

  plain_body : {f : Form} {k : ℕ} {ss : Schemas} {v : Value} {b : List ℕ} (h : Body f k ss v b) → PlainBody h → b ≡ bytes_v v f ss
  plain_body a_nothing p = refl
  plain_body a_false p = refl
  plain_body (a_true h) p = rw p
  plain_body (a_number h e) p = e
  plain_body (a_wide h) p = refl
  plain_body (a_blob h e) p = e
  plain_body (a_variant {w = w} {t = t} h l r e) p = e ∙ ap (λ (z : List ℕ). le w t ++ z) (plain_row r p)
  plain_body (a_repeated h) p = plain_pairs h p
  plain_body (a_tuple h) p = plain_fields h p

  plain_pairs : {w : ℕ} {ss : Schemas} {is : Items} {b : List ℕ} (h : Pairs w ss is b) → PlainPairs h → b ≡ bytes_i is w ss
  plain_pairs (end e) p = e
  plain_pairs (pair h l r q e) p = e ∙ rw (plain_row r p.0, plain_pairs q p.1)

  plain_fields : {ss : Schemas} {vs : Values} {b : List ℕ} (h : Fields ss vs b) → PlainFields h → b ≡ bytes_f vs ss
  plain_fields no_field p = refl
  plain_fields (field r h e) p = e ∙ rw (plain_row r p.0, plain_fields h p.1)

-- ---- canonical, and so plain
mutual
  unfolding encoded bytes_v form_of children_of width_of bit PlainBooleans

  row_plain : {s : Schema} {v : Value} {b : List ℕ} (r : Row s v b) → b ≡ encoded s v → PlainBooleans r
  row_plain (row h) p = body_plain h p

  body_plain : {f : Form} {k : ℕ} {ss : Schemas} {v : Value} {b : List ℕ} (h : Body f k ss v b) → b ≡ bytes_v v f ss → PlainBody h
  body_plain a_nothing p = tt
  body_plain a_false p = tt
  body_plain (a_true h) p = cc
  body_plain (a_number h e) p = tt
  body_plain (a_wide h) p = tt
  body_plain (a_blob h e) p = tt
  body_plain (a_variant {w = w} {t = t} {ss = ss} {v = v} {x = x} h l r e) p =
      row_plain r (both_parts (le w t) (le w t) x (encoded (child ss t) v) refl (sym e ∙ p)).1
  body_plain (a_repeated h) p = pairs_plain h p
  body_plain (a_tuple h) p = fields_plain h p

  pairs_plain : {w : ℕ} {ss : Schemas} {is : Items} {b : List ℕ} (h : Pairs w ss is b) → b ≡ bytes_i is w ss → PlainPairs h
  pairs_plain (end e) p = tt
  pairs_plain (pair {w = w} {t = t} {ss = ss} {v = v} {is = is} {x = x} {y = y} h l r q e) p =
      let z = (both_parts (le w t) (le w t) (x ++ y) (encoded (child ss t) v ++ bytes_i is w ss) refl (sym e ∙ p)).1 in
      let u = both_parts x (encoded (child ss t) v) y (bytes_i is w ss) (row_length r) z in
      (row_plain r u.0, pairs_plain q u.1)

  fields_plain : {ss : Schemas} {vs : Values} {b : List ℕ} (h : Fields ss vs b) → b ≡ bytes_f vs ss → PlainFields h
  fields_plain no_field p = tt
  fields_plain (field {s = s} {ss = ss} {v = v} {vs = vs} {x = x} {y = y} r h e) p =
      let u = both_parts x (encoded s v) y (bytes_f vs ss) (row_length r) (sym e ∙ p) in
      (row_plain r u.0, fields_plain h u.1)

-- a row of table 0 is the canonical one just where its boolean bytes are plain
pub plain_exactly : {n : ℕ} {schema : ℕ → Schema} {v : Value} {b : List ℕ} (r : TableRow n schema 0 v b) → (b ≡ encoded_row (schema 0) v) ↔ PlainRow r
unfolding PlainRow encoded_row
plain_exactly {schema = schema} {v = v} (table_row {x = x} h l r e) =
    (λ p. row_plain r (both_parts (le 2 0) (le 2 0) x (encoded (schema 0) v) refl (sym e ∙ p)).1, λ p. e ∙ ap (λ (z : List ℕ). le 2 0 ++ z) (plain_row r p))
