-- Where a reason is there, the walk refuses for it.
-- Assumes nothing.
use Rattle.std.proofs.Common.{Option, Some, None}
use Prim.Native.Nat.{ℕ, zero, suc, ◌+◌, ◌-◌, ◌≤◌, ◌<◌}
use mathlib.Core.Path.{◌≡◌, refl}
use mathlib.Core.List.{List}
use native.Mathlib.Omega.{arith}
use borrow.Author.Tests.{lt-ltb, le-ltb, le-leb, lt-leb, ne_eqb}
use lib.ListN.{length}
use Rattle.rules.specs.Choice.{pick}
use Rattle.rules.specs.Bytes.{le}
use Rattle.rules.specs.Wire.{Form, empty, truth, fixed, raw, sized, variant_form, repeated_form, tuple_form, unknown, form, written_if, type_of, type_in, wire_types, end_tag, fixed_form, maximum}
use Rattle.rules.specs.Schema.{Schema, count, Allows, Valid, valid, ValidAll, a_schema}
use Rattle.rules.specs.Block.{node_at, trees_from, tree_at}
use Rattle.rules.specs.Value.{Value, tally, costs}
use Rattle.rules.specs.Grammar.{Row}
use Rattle.rules.specs.Walk.{Limits, blob_limit, Pos, Got, Refused, ◌>>=◌, onward, number_of, bytes_of, charged, blob_of, Walker, child_of, pairs_of, fields_of, value_of, walk}
use Rattle.rules.specs.Reasons.{Cut, Number, StandsWhole, NodeReason, dear_node, in_node, BodyReason, cut_scalar, cut_length, long_blob, dear_blob, cut_payload, of_variant, of_repeated, of_tuple, TagReason, cut_tag, stray_tag, in_child, PairsReason, this_pair, later_pair, FieldsReason, this_field, later_field}
use Rattle.rules.specs.declared.table_record.Node.{Node}
use Rattle.rules.specs.declared.refusal.Refusal.{Refusal}
use Rattle.rules.specs.Refusals.{Truncated, RowTooLarge}
use Rattle.rules.proofs.Stands.{length-le, stands_in}
use Rattle.row_laws.proofs.Only.{tag_wide}
use Rattle.row_laws.proofs.Conform.{valid_child}
use Rattle.row_laws.proofs.Span.{within_excess, toll_v, Span, in_end, count_from, child_from}
use Rattle.row_laws.proofs.Sound.{Spent}
use Rattle.row_laws.proofs.Complete.{le_got, child_got, walk_got}

-- so much off the allowance, for r records
abbrev paid : ℕ → ℕ → Pos → Pos
paid cost r p = record { at = p.at; left = p.left - cost; records = p.records + r; payload = p.payload }

one_width : {a b : ℕ} → ◌≡◌ {A = Option ℕ} (Some a) (Some b) → a ≡ b
one_width e = cc

varies : {w : ℕ} → ◌≡◌ {A = Option ℕ} None (Some w) → ⊥
varies {w = w} e = omega (arith, differ e)
  where
    differ : ◌≡◌ {A = Option ℕ} None (Some w) → ◌≡◌ {A = ℕ} 0 1
    differ e = cc

module _ (inp : List ℕ) (lim : Limits) where
  pub number_cut : (w context : ℕ) (p : Pos) → p.at ≤ length inp → Cut inp p.at w → number_of inp w context p ≡ Refused (Truncated context p.at)
  unfolding number_of pick
  number_cut w context p h c = rw (lt-leb w (length inp - p.at) (omega arith))

  bytes_cut : (n context : ℕ) (p : Pos) → p.at ≤ length inp → Cut inp p.at n → bytes_of inp n context p ≡ Refused (Truncated context p.at)
  unfolding bytes_of pick
  bytes_cut n context p h c = rw (lt-leb n (length inp - p.at) (omega arith))

  pub number_there : (w x context : ℕ) (p : Pos) → Number inp p.at w x → number_of inp w context p ≡ Got x (onward w p)
  number_there w x context p num = le_got inp lim w x context num.fits refl (record {
    stands = num.stands;
    at = rw (length-le w x);
    left = omega arith;
    records = omega arith;
    payload = omega arith;
    within = omega arith;
  })

  -- where a number ends
  pub number_ends : {at w x : ℕ} → Number inp at w x → at + w ≤ length inp
  number_ends {at = at} {w = w} {x = x} num = omega (arith, stands_in inp at (le w x) num.stands, length-le w x)

  charge_dear : (n r place : ℕ) (p : Pos) → p.left < n → charged lim n r place p ≡ Refused (RowTooLarge lim.row place)
  unfolding charged pick
  charge_dear n r place p h = rw (lt-leb n p.left h)

  charge_paid : (n r place : ℕ) (p : Pos) → n ≤ p.left → charged lim n r place p ≡ Got tt (paid n r p)
  unfolding charged pick
  charge_paid n r place p h = rw (le-leb n p.left h)

  -- where a value that stands whole leaves off
  abbrev beyond : {s : Schema} {at spent at' spent' : ℕ} → StandsWhole inp lim s at spent at' spent' → Pos → Pos
  beyond {at' = at'} {spent' = spent'} k p = record { at = at'; left = lim.row - spent'; records = p.records + tally k.value 1 0 0; payload = p.payload + tally k.value 0 1 1 }

  whole_span : {s : Schema} {spent at' spent' : ℕ} (p : Pos) → Spent lim p spent → (k : StandsWhole inp lim s p.at spent at' spent') → Span inp lim p (beyond k p) k.bytes (toll_v lim k.value)
  unfolding costs
  whole_span p m k = record {
    stands = k.stands;
    at = k.ends;
    left = omega (arith, m, k.spends, k.afford);
    records = refl;
    payload = refl;
    within = within_excess lim k.value k.within;
  }

  module _ (tree : ℕ → Schema) (rec : Walker)
      (got : (i : ℕ) (v : Value) (b : List ℕ) (p q : Pos) → Row (tree i) v b → Span inp lim p q b (toll_v lim v) → rec i p ≡ Got v q)
      (refuse : (i : ℕ) (p : Pos) (spent : ℕ) (r : Refusal) → Valid (tree i) → p.at ≤ length inp → Spent lim p spent → NodeReason inp lim (tree i) p.at spent r → rec i p ≡ Refused r) where
    -- a tag and its child that are refused: in the tag, or after it
    data Stops (n : Node) (w : ℕ) (p : Pos) (r : Refusal) : Type 0 where
      in_tag : number_of inp w (14 + w) p ≡ Refused r → Stops n w p r
      after_tag : (t : ℕ) → Number inp p.at w t → child_of rec n t p.at (onward w p) ≡ Refused r → Stops n w p r

    tag_stops : (n : Node) (w : ℕ) (p : Pos) (spent : ℕ) (r : Refusal) → ValidAll (trees_from tree n.first n.children) → p.at ≤ length inp → Spent lim p spent →
        TagReason inp lim w n.code (trees_from tree n.first n.children) p.at spent r → Stops n w p r
    unfolding child_of pick
    tag_stops n w p spent r a h m (cut_tag c) = in_tag (number_cut w (14 + w) p h c)
    tag_stops n w p spent r a h m (stray_tag {t = t} num o) =
        let c : count (trees_from tree n.first n.children) ≡ n.children = count_from tree n.first n.children in
        after_tag t num (rw (le-ltb t n.children (rw c at o), c))
    tag_stops n w p spent r a h m (in_child {t = t} num o x) =
        let l : t < n.children = rw (count_from tree n.first n.children) at o in
        let i = child_from tree n.first n.children t l in
        after_tag t num (rw (lt-ltb t n.children l) (refuse (n.first + t) (onward w p) spent r (rw i at (valid_child (trees_from tree n.first n.children) t a o)) (number_ends num) m (rw i at x)))

    fields_refused : (i n : ℕ) (p : Pos) (spent : ℕ) (r : Refusal) → ValidAll (trees_from tree i n) → p.at ≤ length inp → Spent lim p spent → FieldsReason inp lim (trees_from tree i n) p.at spent r → fields_of rec i n p ≡ Refused r
    unfolding fields_of trees_from ◌>>=◌
    fields_refused i zero p spent r _ h m x = elim x [ ]
    fields_refused i (suc n) p spent r (a_schema v a) h m (this_field x) = rw (refuse i p spent r v h m x)
    fields_refused i (suc n) p spent r (a_schema v a) h m (later_field {spent' = spent'} k x) =
        let s = whole_span p m k in
        rw (got i k.value k.bytes p (beyond k p) k.is s, fields_refused (i + 1) n (beyond k p) spent' r a (in_end inp lim s) (omega (arith, k.afford)) x)

    pairs_refused : (n : Node) (w fuel : ℕ) (p : Pos) (spent : ℕ) (r : Refusal) → ValidAll (trees_from tree n.first n.children) → length inp - p.at < fuel → p.at ≤ length inp → Spent lim p spent →
        PairsReason inp lim w n.code (trees_from tree n.first n.children) p.at spent r → pairs_of inp rec n w fuel p ≡ Refused r
    unfolding pairs_of pick ◌>>=◌
    pairs_refused n w zero p spent r a f h m x = absurd (omega arith)
    pairs_refused n w (suc fuel) p spent r a f h m (this_pair ne x) = by (tag_stops n w p spent r a h m x)
      where
        by : Stops n w p r → pairs_of inp rec n w (suc fuel) p ≡ Refused r
        by (in_tag e) = rw e
        by (after_tag t num e) = rw (number_there w t (14 + w) p num, ne_eqb t (end_tag w) (λ q. ne (rw q at num)), e)
    pairs_refused n w (suc fuel) p spent r a f h m (later_pair {spent' = spent'} {t = t} num b o k x) =
        let s = whole_span (onward w p) m k in
        let l : length inp - (beyond k p).at < fuel = omega (arith, tag_wide t w b, k.ends, number_ends num) in
        rw (number_there w t (14 + w) p num, ne_eqb t (end_tag w) (λ q. omega arith), child_got inp lim tree rec got n t p.at o k.is s, pairs_refused n w fuel (beyond k (onward w p)) spent' r a l (in_end inp lim s) (omega (arith, k.afford)) x)

    scalar_refused : (n : Node) (f : Form) (w : ℕ) (p : Pos) → fixed_form f ≡ Some w → p.at ≤ length inp → Cut inp p.at w → value_of inp lim rec n f p ≡ Refused (Truncated n.code p.at)
    unfolding value_of fixed_form ◌>>=◌
    scalar_refused n empty w p e h c = absurd (omega (arith, one_width e))
    scalar_refused n truth w p e h c = rw (number_cut 1 n.code p h (rw (one_width e) c))
    scalar_refused n (fixed u) w p e h c = rw (number_cut u n.code p h (rw (one_width e) c))
    scalar_refused n (raw u) w p e h c = rw (bytes_cut u n.code p h (rw (one_width e) c))
    scalar_refused n sized w p e h c = absurd (varies e)
    scalar_refused n (variant_form u) w p e h c = absurd (varies e)
    scalar_refused n (repeated_form u) w p e h c = absurd (varies e)
    scalar_refused n tuple_form w p e h c = absurd (varies e)
    scalar_refused n unknown w p e h c = absurd (varies e)

    value_refused : (n : Node) {f : Form} (p : Pos) (spent : ℕ) (r : Refusal) → ValidAll (trees_from tree n.first n.children) → p.at ≤ length inp → Spent lim p spent →
        BodyReason inp lim f n.code (trees_from tree n.first n.children) p.at spent r → value_of inp lim rec n f p ≡ Refused r
    unfolding value_of blob_of pick ◌>>=◌
    value_refused n {f = f} p spent r a h m (cut_scalar w e c) = scalar_refused n f w p e h c
    value_refused n p spent r a h m (cut_length c) = rw (number_cut 4 13 p h c)
    value_refused n p spent r a h m (long_blob {n = x} num o) = rw (number_there 4 x 13 p num, lt-leb x (blob_limit lim n.code) o)
    value_refused n p spent r a h m (dear_blob {n = x} num b o) = rw (number_there 4 x 13 p num, le-leb x (blob_limit lim n.code) b, charge_dear x 0 p.at (onward 4 p) (omega arith))
    value_refused n p spent r a h m (cut_payload {n = x} num b o c) =
        rw (number_there 4 x 13 p num, le-leb x (blob_limit lim n.code) b, charge_paid x 0 p.at (onward 4 p) (omega arith), bytes_cut x 14 (paid x 0 (onward 4 p)) (number_ends num) c)
    value_refused n p spent r a h m (of_variant {w = w} x) = by (tag_stops n w p spent r a h m x)
      where
        by : Stops n w p r → value_of inp lim rec n (variant_form w) p ≡ Refused r
        by (in_tag e) = rw e
        by (after_tag t num e) = rw (number_there w t (14 + w) p num, e)
    value_refused n p spent r a h m (of_repeated {w = w} x) = rw (pairs_refused n w (suc (length inp - p.at)) p spent r a (omega arith) h m x)
    value_refused n p spent r a h m (of_tuple x) = rw (fields_refused n.first n.children p spent r a h m x)

  -- what has a reason under a valid schema is refused for it
  pub walk_refused : (sch store : List ℕ) (d i : ℕ) (p : Pos) (spent : ℕ) (r : Refusal) → Valid (tree_at sch store d i) → p.at ≤ length inp → Spent lim p spent → NodeReason inp lim (tree_at sch store d i) p.at spent r → walk sch inp lim d i p ≡ Refused r
  unfolding walk tree_at ◌>>=◌ form written_if type_of type_in wire_types Allows maximum
  walk_refused sch store zero i p spent r (valid l a) h m x = absurd l
  walk_refused sch store (suc d) i p spent r (valid l a) h m (dear_node o) = rw (charge_dear lim.charge 1 p.at p (omega arith))
  walk_refused sch store (suc d) i p spent r (valid l a) h m (in_node o x) =
      rw (charge_paid lim.charge 1 p.at p (omega arith), value_refused (tree_at sch store d) (walk sch inp lim d) (walk_got inp lim sch store d) (walk_refused sch store d) (node_at sch i) (paid lim.charge 1 p) (spent + lim.charge) r a h (omega arith) x)
