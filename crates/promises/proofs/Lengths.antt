-- Every row of a value is as long as the canonical one.
-- Assumes nothing.
use Prim.Native.Nat.{ℕ}
use mathlib.Core.Path.{◌≡◌, refl, ap, ◌∙◌}
use mathlib.Core.List.{List, ◌++◌}
use lib.ListN.{length, length-append}
use Rattle.rules.specs.Bytes.{le}
use Rattle.rules.specs.Wire.{Form, width_of}
use Rattle.rules.specs.Schema.{Schema, Schemas, child}
use Rattle.rules.specs.Value.{Value, Items, Values}
use Rattle.rules.specs.ValueTable.{bit}
use Rattle.rules.specs.Grammar.{Row, row, Body, a_nothing, a_false, a_true, a_number, a_wide, a_blob, a_variant, a_repeated, a_tuple, Pairs, end, pair, Fields, no_field, field, TableRow, table_row, form_of, children_of, bytes_v, bytes_i, bytes_f, encoded, encoded_row}
use Rattle.rules.proofs.Stands.{length-le}

mutual
  unfolding encoded bytes_v form_of children_of width_of bit

  pub row_length : {s : Schema} {v : Value} {b : List ℕ} → Row s v b → length b ≡ length (encoded s v)
  row_length (row h) = body_length h

  body_length : {f : Form} {k : ℕ} {ss : Schemas} {v : Value} {b : List ℕ} → Body f k ss v b → length b ≡ length (bytes_v v f ss)
  body_length a_nothing = refl
  body_length a_false = refl
  body_length (a_true h) = refl
  body_length (a_number h e) = ap length e
  body_length (a_wide h) = refl
  body_length (a_blob h e) = ap length e
  body_length (a_variant {w = w} {t = t} {ss = ss} {v = v} {x = x} h l r e) =
      ap length e ∙ rw (length-append (le w t) x, length-append (le w t) (encoded (child ss t) v), row_length r) refl
  body_length (a_repeated h) = pairs_length h
  body_length (a_tuple h) = fields_length h

  pairs_length : {w : ℕ} {ss : Schemas} {is : Items} {b : List ℕ} → Pairs w ss is b → length b ≡ length (bytes_i is w ss)
  pairs_length (end e) = ap length e
  pairs_length (pair {w = w} {t = t} {ss = ss} {v = v} {is = is} {x = x} {y = y} h l r p e) =
      ap length e ∙ rw (length-append (le w t) (x ++ y), length-append x y, length-append (le w t) (encoded (child ss t) v ++ bytes_i is w ss), length-append (encoded (child ss t) v) (bytes_i is w ss), row_length r, pairs_length p) refl

  fields_length : {ss : Schemas} {vs : Values} {b : List ℕ} → Fields ss vs b → length b ≡ length (bytes_f vs ss)
  fields_length no_field = refl
  fields_length (field {s = s} {ss = ss} {v = v} {vs = vs} {x = x} {y = y} r h e) =
      ap length e ∙ rw (length-append x y, length-append (encoded s v) (bytes_f vs ss), row_length r, fields_length h) refl

-- so is a row with its table tag
pub table_row_length : {n t : ℕ} {schema : ℕ → Schema} {v : Value} {b : List ℕ} → TableRow n schema t v b → length b ≡ length (encoded_row (schema t) v)
unfolding encoded_row
table_row_length {schema = schema} (table_row {t = t} {v = v} {x = x} h l r e) =
    ap length e ∙ rw (length-append (le 2 t) x, length-append (le 2 0) (encoded (schema t) v), length-le 2 t, length-le 2 0, row_length r) refl
