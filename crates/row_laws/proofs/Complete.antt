-- Every row of the grammar within the limits is accepted by the walk.
-- Assumes nothing.
use Prim.Native.Nat.{ℕ, zero, suc, ◌+◌, ◌-◌, ◌^◌, ◌≤◌, ◌<◌}
use mathlib.Core.Path.{◌≡◌, refl, ap, ◌∙◌}
use mathlib.Core.List.{List, [], ◌++◌}
use native.Mathlib.Omega.{arith}
use borrow.Author.Tests.{lt-ltb, le-leb, eq-eqb, ne_eqb}
use lib.ListN.{length}
use Rattle.rules.specs.Choice.{pick}
use Rattle.rules.specs.Bytes.{le, le_at, part, Stands}
use Rattle.rules.specs.Wire.{Form, empty, truth, fixed, raw, sized, variant_form, repeated_form, tuple_form, unknown, form, written_if, type_of, type_in, wire_types, end_tag}
use Rattle.rules.specs.Schema.{Schema, Schemas, count, child}
use Rattle.rules.specs.Block.{node_at, trees_from, tree_at}
use Rattle.rules.specs.Value.{Value, nothing, boolean, number, wide, blob, variant, repeated, tuple, Items, item, Values, none, tally, costs, records_of, payload_of}
use Rattle.rules.specs.Grammar.{Row, row, Body, a_nothing, a_false, a_true, a_number, a_wide, a_blob, a_variant, a_repeated, a_tuple, Pairs, end, pair, Fields, no_field, field}
use Rattle.rules.specs.Walk.{Limits, blob_limit, Pos, Got, ◌>>=◌, number_of, bytes_of, charged, blob_of, Walker, child_of, pairs_of, fields_of, value_of, walk, after}
use Rattle.rules.specs.declared.table_record.Node.{Node}
use Rattle.rules.proofs.Stands.{length-le, stands_in, stands_le, stands_part}
use Rattle.row_laws.proofs.Only.{end_fits, tag_wide}
use Rattle.row_laws.proofs.Span.{excess, within_excess, Toll, free, load, fee, mark, toll_v, toll_i, toll_f, Sum, pos_eq, Span, in_end, as_toll, split, count_from, child_from}
use Rattle.row_laws.proofs.Sound.{Accepted}

-- a form that has rows
unfoldable pub Known : Form → Type 0
Known empty = Unit
Known truth = Unit
Known (fixed w) = Unit
Known (raw w) = Unit
Known sized = Unit
Known (variant_form w) = Unit
Known (repeated_form w) = Unit
Known tuple_form = Unit
Known unknown = ⊥

pub known : {f : Form} {k : ℕ} {ss : Schemas} {v : Value} {b : List ℕ} → Body f k ss v b → Known f
unfolding Known
known a_nothing = tt
known a_false = tt
known (a_true h) = tt
known (a_number h e) = tt
known (a_wide h) = tt
known (a_blob h e) = tt
known (a_variant h l r e) = tt
known (a_repeated h) = tt
known (a_tuple h) = tt

marked : (v : Value) (n a b : ℕ) → n ≤ tally v n a b
unfolding tally
marked nothing n a b = omega arith
marked (boolean x) n a b = omega arith
marked (number k x) n a b = omega arith
marked (wide k x) n a b = omega arith
marked (blob k x) n a b = omega arith
marked (variant t v) n a b = omega arith
marked (repeated is) n a b = omega arith
marked (tuple vs) n a b = omega arith

-- what is left of a value's toll when its node is charged
abbrev inner : Limits → Value → Toll
inner lim v = record { cost = tally v lim.charge 0 1 - lim.charge; records = tally v 1 0 0 - 1; payload = tally v 0 1 1; over = excess lim v }

split_mark : (lim : Limits) (v : Value) → Sum (toll_v lim v) (mark lim) (inner lim v)
split_mark lim v = record {
  cost = omega (arith, marked v lim.charge 0 1);
  records = omega (arith, marked v 1 0 0);
  payload = omega arith;
  over = omega arith;
}

module _ (inp : List ℕ) (lim : Limits) where
  -- nothing is passed
  stays : {p q : Pos} → Span inp lim p q [] free → p ≡ q
  stays {p = p} {q = q} s = pos_eq p q (omega (arith, s.at)) (omega (arith, s.left)) (omega (arith, s.records)) (omega (arith, s.payload))

  number_got : (w x context : ℕ) {p q : Pos} {b : List ℕ} → length b ≡ w → le_at inp p.at w ≡ x → Span inp lim p q b free → number_of inp w context p ≡ Got x q
  unfolding number_of pick
  number_got w x context {p = p} {q = q} {b = b} l e s =
      rw (le-leb w (length inp - p.at) (omega (arith, stands_in inp p.at b s.stands)), e)
      (ap (Got x) (pos_eq (record { at = p.at + w; left = p.left; records = p.records; payload = p.payload }) q (omega (arith, s.at)) (omega (arith, s.left)) (omega (arith, s.records)) (omega (arith, s.payload))))

  -- a number in its own bytes
  pub le_got : (w x context : ℕ) {p q : Pos} {b : List ℕ} → x < 256 ^ w → b ≡ le w x → Span inp lim p q b free → number_of inp w context p ≡ Got x q
  le_got w x context {p = p} h e s = number_got w x context (ap length e ∙ length-le w x) (stands_le inp p.at w x h (rw e at s.stands)) s

  bytes_got : (n context : ℕ) (x : List ℕ) {p q : Pos} → length x ≡ n → Span inp lim p q x (load n) → bytes_of inp n context p ≡ Got x q
  unfolding bytes_of pick
  bytes_got n context x {p = p} {q = q} l s =
      let e : part inp p.at n ≡ x = rw l at (stands_part inp p.at x s.stands) in
      rw (le-leb n (length inp - p.at) (omega (arith, stands_in inp p.at x s.stands)), e)
      (ap (Got x) (pos_eq (record { at = p.at + n; left = p.left; records = p.records; payload = p.payload + n }) q (omega (arith, s.at)) (omega (arith, s.left)) (omega (arith, s.records)) (omega (arith, s.payload))))

  charge_got : (n r o place : ℕ) {p q : Pos} → Span inp lim p q [] (record { cost = n; records = r; payload = 0; over = o }) → charged lim n r place p ≡ Got tt q
  unfolding charged pick
  charge_got n r o place {p = p} {q = q} s =
      rw (le-leb n p.left (omega (arith, s.left)))
      (ap (Got tt) (pos_eq (record { at = p.at; left = p.left - n; records = p.records + r; payload = p.payload }) q (omega (arith, s.at)) (omega (arith, s.left)) (omega (arith, s.records)) (omega (arith, s.payload))))

  module _ (tree : ℕ → Schema) (rec : Walker) (ok : (i : ℕ) (v : Value) (b : List ℕ) (p q : Pos) → Row (tree i) v b → Span inp lim p q b (toll_v lim v) → rec i p ≡ Got v q) where
    pub child_got : (n : Node) (t place : ℕ) {v : Value} {b : List ℕ} {p q : Pos} → t < count (trees_from tree n.first n.children) → Row (child (trees_from tree n.first n.children) t) v b →
        Span inp lim p q b (toll_v lim v) → child_of rec n t place p ≡ Got v q
    unfolding child_of pick
    child_got n t place {v = v} {b = b} {p = p} {q = q} h r s =
        let l : t < n.children = rw (count_from tree n.first n.children) at h in
        let y : Row (tree (n.first + t)) v b = rw (child_from tree n.first n.children t l) at r in
        rw (lt-ltb t n.children l) (ok (n.first + t) v b p q y s)

    fields_got : (i n : ℕ) {vs : Values} {b : List ℕ} {p q : Pos} → Fields (trees_from tree i n) vs b → Span inp lim p q b (toll_f lim vs) → fields_of rec i n p ≡ Got vs q
    unfolding fields_of trees_from tally excess ◌>>=◌
    fields_got i zero no_field s = ap (Got none) (stays (as_toll inp lim free s (omega arith)))
    fields_got i (suc n) (field {v = v} {vs = vs} {x = x} {y = y} r f e) s =
        let z = split inp lim x y (toll_v lim v) (toll_f lim vs) s e (omega arith) in
        rw (ok i v x _ _ r z.head, fields_got (i + 1) n f z.tail)

    pairs_got : (n : Node) (w fuel : ℕ) {is : Items} {b : List ℕ} {p q : Pos} → Pairs w (trees_from tree n.first n.children) is b → length inp - p.at < fuel → Span inp lim p q b (toll_i lim is) → pairs_of inp rec n w fuel p ≡ Got is q
    unfolding pairs_of tally excess ◌>>=◌ pick
    pairs_got n w zero h l s = absurd (omega arith)
    pairs_got n w (suc fuel) (end e) l s =
        rw (le_got w (end_tag w) (14 + w) (end_fits w) e (as_toll inp lim free s (omega arith)), eq-eqb (end_tag w) (end_tag w) refl)
    pairs_got n w (suc fuel) {p = p} (pair {t = t} {v = v} {is = is} {x = x} {y = y} h k r f e) l s =
        let z = split inp lim (le w t) (x ++ y) free (toll_i lim (item t v is)) s e (omega arith) in
        let u = split inp lim x y (toll_v lim v) (toll_i lim is) z.tail refl (omega arith) in
        let m : length inp - u.mid.at < fuel = omega (arith, tag_wide t w h, z.head.at, length-le w t, u.head.at, in_end inp lim z.head) in
        rw (le_got w t (14 + w) (omega (arith, end_fits w)) refl z.head, ne_eqb t (end_tag w) (λ a. omega arith), child_got n t p.at k r u.head, pairs_got n w fuel f m u.tail)

    value_got_lem : (n : Node) {f : Form} {v : Value} {b : List ℕ} {p q : Pos} → Body f n.code (trees_from tree n.first n.children) v b → Span inp lim p q b (inner lim v) → value_of inp lim rec n f p ≡ Got v q
    unfolding value_of blob_of tally excess ◌>>=◌ pick le_at Stands
    value_got_lem n a_nothing s = ap (Got nothing) (stays (as_toll inp lim free s (omega arith)))
    value_got_lem n a_false s = rw (number_got 1 0 n.code refl (omega (arith, s.stands.0.1)) (as_toll inp lim free s (omega arith)))
    value_got_lem n (a_true {x = x} h) s = rw (number_got 1 x n.code refl (omega (arith, s.stands.0.1)) (as_toll inp lim free s (omega arith)), lt-ltb 0 x h)
    value_got_lem n (a_number {w = w} {x = x} h e) s = rw (le_got w x n.code h e (as_toll inp lim free s (omega arith)))
    value_got_lem n (a_wide {w = w} {b = x} h) s = rw (bytes_got w n.code x h (as_toll inp lim (load w) s (omega arith)))
    value_got_lem n {p = p} (a_blob {x = x} h e) s =
        let l = length x in
        let z = split inp lim (le 4 l) x free (record { cost = l; records = 0; payload = l; over = l - blob_limit lim n.code }) s e (omega arith) in
        let u = split inp lim [] x (fee lim n.code l) (load l) z.tail refl (omega arith) in
        rw (le_got 4 l 13 h refl z.head, le-leb l (blob_limit lim n.code) (omega (arith, u.head.within)), charge_got l 0 (l - blob_limit lim n.code) p.at u.head, bytes_got l 14 x refl u.tail)
    value_got_lem n {p = p} (a_variant {w = w} {t = t} {v = v} {x = x} h k r e) s =
        let z = split inp lim (le w t) x free (toll_v lim v) s e (omega arith) in
        rw (le_got w t (14 + w) h refl z.head, child_got n t p.at k r z.tail)
    value_got_lem n {p = p} (a_repeated {w = w} {is = is} h) s =
        rw (pairs_got n w (suc (length inp - p.at)) h (omega arith) (as_toll inp lim (toll_i lim is) s (omega arith)))
    value_got_lem n (a_tuple {vs = vs} h) s =
        rw (fields_got n.first n.children h (as_toll inp lim (toll_f lim vs) s (omega arith)))

  pub walk_got : (sch store : List ℕ) (d i : ℕ) (v : Value) (b : List ℕ) (p q : Pos) → Row (tree_at sch store d i) v b → Span inp lim p q b (toll_v lim v) → walk sch inp lim d i p ≡ Got v q
  unfolding walk tree_at ◌>>=◌ form written_if type_of type_in wire_types Known
  walk_got sch store zero i v b p q (row h) s = absurd (known h)
  walk_got sch store (suc d) i v b p q (row h) s =
      let z = split inp lim [] b (mark lim) (inner lim v) s refl (split_mark lim v) in
      rw (charge_got lim.charge 1 0 p.at z.head, value_got_lem (tree_at sch store d) (walk sch inp lim d) (walk_got sch store d) (node_at sch i) h z.tail)

  -- every row within the limits is accepted
  pub complete : (sch store : List ℕ) (d i : ℕ) (p q : Pos) (v : Value) → Accepted (tree_at sch store d i) inp lim p v q → walk sch inp lim d i p ≡ Got v q
  unfolding after costs records_of payload_of
  complete sch store d i p q v a =
      walk_got sch store d i v a.bytes p q a.is (rw a.ends (record {
        stands = a.stands;
        at = refl;
        left = omega (arith, a.afford);
        records = refl;
        payload = refl;
        within = within_excess lim v a.within;
      }))
