-- A conforming value is no deeper than its schema, and how long its row can be.
-- Assumes nothing.
use Prim.Native.Nat.{ℕ, zero, suc, ◌+◌, ◌*◌, ◌≤◌, ◌<◌}
use mathlib.Core.Path.{◌≡◌, refl}
use mathlib.Core.List.{◌++◌}
use native.Mathlib.Omega.{arith}
use lib.ListN.{length, length-append}
use Rattle.rules.specs.Bytes.{le}
use Rattle.rules.specs.Wire.{Form, form, width_of, end_tag}
use Rattle.rules.specs.Schema.{Schema, Schemas, nil, cons, count, child, deep, deeps}
use Rattle.rules.specs.Value.{Value, Items, Values, tall, tall_i, tall_v, tally, tally_i, tally_v, records_of, payload_of}
use Rattle.rules.specs.Grammar.{Conforms, conforms, Suits, s_nothing, s_boolean, s_number, s_wide, s_blob, s_variant, s_repeated, s_tuple, SuitI, s_done, s_item, SuitV, s_none, s_more, form_of, children_of, bytes_v, bytes_i, bytes_f, encoded}
use Rattle.rules.proofs.Stands.{length-le}
use Rattle.value_laws.proofs.Codes.{fixed_code, variant_width, repeated_width}

-- the child that a tag names is one of them
child_deep : (ss : Schemas) (t : ℕ) → t < count ss → deep (child ss t) ≤ deeps ss
unfolding child count deeps
child_deep nil t h = absurd (omega arith)
child_deep (cons s ss) zero h = omega arith
child_deep (cons s ss) (suc t) h = omega (arith, child_deep ss t (omega arith))

mutual
  unfolding tall deep

  -- A conforming value is at most as deep as its schema.
  pub conforms_depth : {s : Schema} {v : Value} → Conforms s v → tall v ≤ deep s
  conforms_depth (conforms h) = suits_depth h

  suits_depth : {f : Form} {k : ℕ} {ss : Schemas} {v : Value} → Suits f k ss v → tall v ≤ suc (deeps ss)
  suits_depth s_nothing = omega arith
  suits_depth s_boolean = omega arith
  suits_depth s_number = omega arith
  suits_depth s_wide = omega arith
  suits_depth s_blob = omega arith
  suits_depth (s_variant {t = t} {ss = ss} l c) = omega (arith, conforms_depth c, child_deep ss t l)
  suits_depth (s_repeated h) = omega (arith, items_depth h)
  suits_depth (s_tuple h) = omega (arith, values_depth h)

  items_depth : {ss : Schemas} {is : Items} → SuitI ss is → tall_i is ≤ deeps ss
  items_depth s_done = omega arith
  items_depth (s_item {t = t} {ss = ss} l c h) = omega (arith, conforms_depth c, child_deep ss t l, items_depth h)

  values_depth : {ss : Schemas} {vs : Values} → SuitV ss vs → tall_v vs ≤ deeps ss
  values_depth s_none = omega arith
  values_depth (s_more c h) = omega (arith, conforms_depth c, values_depth h)

mutual
  unfolding encoded bytes_v form_of children_of width_of records_of payload_of tally

  -- a node has at most eight bytes of its own, or its payload with a length, and two for the tag or table tag before it
  encoded_length : {s : Schema} {v : Value} → Conforms s v → 2 + length (encoded s v) ≤ payload_of v + 10 * records_of v
  encoded_length (conforms h) = suits_length h refl

  suits_length : {f : Form} {k : ℕ} {ss : Schemas} {v : Value} → Suits f k ss v → form k ≡ f → 2 + length (bytes_v v f ss) ≤ payload_of v + 10 * records_of v
  suits_length s_nothing e = omega arith
  suits_length s_boolean e = omega arith
  suits_length (s_number {w = w} {k = k} {x = x}) e = rw (length-le w x) (omega (arith, (fixed_code k w e).1))
  suits_length s_wide e = omega arith
  suits_length (s_blob {x = x}) e = rw (length-append (le 4 (length x)) x, length-le 4 (length x)) (omega arith)
  suits_length (s_variant {w = w} {k = k} {t = t} {ss = ss} {v = v} l c) e =
      rw (length-append (le w t) (encoded (child ss t) v), length-le w t) (omega (arith, encoded_length c, variant_width k w e))
  suits_length (s_repeated {w = w} {k = k} h) e = omega (arith, items_length h w (repeated_width k w e))
  suits_length (s_tuple h) e = omega (arith, values_length h)

  items_length : {ss : Schemas} {is : Items} → SuitI ss is → (w : ℕ) → w ≤ 2 → length (bytes_i is w ss) ≤ 2 + (tally_i is 0 1 1 + 10 * tally_i is 1 0 0)
  items_length s_done w l = rw (length-le w (end_tag w)) (omega arith)
  items_length (s_item {t = t} {ss = ss} {v = v} {is = is} b c h) w l =
      rw (length-append (le w t) (encoded (child ss t) v ++ bytes_i is w ss), length-append (encoded (child ss t) v) (bytes_i is w ss), length-le w t)
      (omega (arith, encoded_length c, items_length h w l))

  values_length : {ss : Schemas} {vs : Values} → SuitV ss vs → length (bytes_f vs ss) ≤ tally_v vs 0 1 1 + 10 * tally_v vs 1 0 0
  values_length s_none = omega arith
  values_length (s_more {s = s} {ss = ss} {v = v} {vs = vs} c h) =
      rw (length-append (encoded s v) (bytes_f vs ss)) (omega (arith, encoded_length c, values_length h))
