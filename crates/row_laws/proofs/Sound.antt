-- What the walk answers is so: what it accepts is a row of the grammar, within the limits; what it refuses under a valid schema has its reason.
-- Assumes nothing.
use Prim.Native.Nat.{ℕ, zero, suc, ◌+◌, ◌-◌, ◌^◌, ◌%◌, ◌≤◌, ◌<◌}
use mathlib.Core.Path.{◌≡◌, refl, sym, ap, ◌∙◌}
use mathlib.Core.List.{List, [], ◌++◌}
use native.Mathlib.Omega.{arith}
use borrow.Author.Tests.{lt-ltb, leb-true, leb-false, ltb-true, ltb-false, eqb-true, eqb-false}
use lib.Dec.{ltb}
use lib.ListN.{length}
use Rattle.rules.specs.Bytes.{le, le_at, Stands, Bytes}
use Rattle.rules.specs.Wire.{Form, empty, truth, fixed, raw, sized, variant_form, repeated_form, tuple_form, unknown, form, written_if, type_of, type_in, wire_types, end_tag, fixed_form, maximum}
use Rattle.rules.specs.Schema.{Name, Schema, node, Schemas, cons, no_schema, count, child, Allows, Valid, valid, ValidAll, a_schema}
use Rattle.rules.specs.Block.{node_at, trees_from, tree_at}
use Rattle.rules.specs.Value.{Value, boolean, number, wide, blob, variant, repeated, tuple, item, more, tally, Within, costs, records_of, payload_of}
use Rattle.rules.specs.Grammar.{Row, row, Body, a_nothing, a_false, a_true, a_number, a_wide, a_blob, a_variant, a_repeated, a_tuple, Pairs, end, pair, Fields, no_field, field}
use Rattle.rules.specs.Walk.{Limits, blob_limit, Pos, Answer, Got, Refused, ◌>>=◌, number_of, bytes_of, charged, blob_of, Walker, child_of, pairs_of, fields_of, value_of, walk, after}
use Rattle.rules.specs.Reasons.{Cut, Number, StandsWhole, NodeReason, dear_node, in_node, BodyReason, cut_scalar, cut_length, long_blob, dear_blob, cut_payload, of_variant, of_repeated, of_tuple, TagReason, cut_tag, stray_tag, in_child, PairsReason, this_pair, later_pair, FieldsReason, this_field, later_field}
use Rattle.rules.specs.declared.table_record.Node.{Node}
use Rattle.rules.specs.declared.refusal.Refusal.{Refusal}
use Rattle.rules.specs.Refusals.{Truncated, RowTooLarge, InvalidVariantTag}
use Rattle.rules.proofs.Tests.{either}
use Rattle.rules.proofs.Stands.{length-le, length_part, stands_in, part-stands, stands_le, le_at_lt, le_at-stands}
use Rattle.row_laws.proofs.Only.{tag_wide}
use Rattle.row_laws.proofs.Conform.{valid_child}
use Rattle.row_laws.proofs.Span.{excess, excess_within, Toll, free, load, mark, toll_v, toll_i, toll_f, pos_eq, Span, in_end, join, count_from, child_from}

-- from p on stands a row of v under the schema s, within the limits, and q is where it leaves off
pub record Accepted (s : Schema) (inp : List ℕ) (lim : Limits) (p : Pos) (v : Value) (q : Pos) : Type 0 where
  pub bytes : List ℕ
  pub is : Row s v bytes
  pub stands : Stands inp p.at bytes
  pub within : Within (blob_limit lim) v
  pub afford : costs lim.charge v ≤ p.left
  pub ends : q ≡ after lim v (length bytes) p

below : (t w : ℕ) → t < 256 ^ w → (t ≡ end_tag w → ⊥) → t < end_tag w
unfolding end_tag
below t w h f = omega arith

-- an accepted answer has the property P, a refusal the property R
pub data AnswerSays {A : Type 0} (P : A → Pos → Type 0) (R : Refusal → Type 0) : Answer A → Type 0 where
  gets : {a : A} {q : Pos} → P a q → AnswerSays P R (Got a q)
  refuses : {r : Refusal} → R r → AnswerSays P R (Refused r)

pub if_got : {A : Type 0} {P : A → Pos → Type 0} {R : Refusal → Type 0} {a : A} {q : Pos} → AnswerSays P R (Got a q) → P a q
if_got (gets h) = h

pub if_refused : {A : Type 0} {P : A → Pos → Type 0} {R : Refusal → Type 0} {r : Refusal} → AnswerSays P R (Refused r) → R r
if_refused (refuses h) = h

-- what holds of a refusal, in other words
pub as_why : {A : Type 0} {P : A → Pos → Type 0} {R S : Refusal → Type 0} {x : Answer A} → AnswerSays P R x → ((r : Refusal) → R r → S r) → AnswerSays P S x
as_why (gets h) f = gets h
as_why (refuses {r = r} h) f = refuses (f r h)

-- one after another
pub then : {A B : Type 0} {P : A → Pos → Type 0} {Q : B → Pos → Type 0} {R : Refusal → Type 0} {x : Answer A} {k : A × Pos → Answer B} → AnswerSays P R x → ((z : A × Pos) → P z.0 z.1 → AnswerSays Q R (k z)) → AnswerSays Q R (x >>= k)
unfolding ◌>>=◌
then (gets {a = a} {q = q} h) f = f (a, q) h
then (refuses h) f = refuses h

-- what is spent and what is left are the row's allowance
abbrev pub Spent : Limits → Pos → ℕ → Type 0
Spent lim p spent = spent + p.left ≡ lim.row

-- a reason that is there where H holds, when what is not left at p is spent
abbrev pub Given : Limits → Type 0 → Pos → (ℕ → Refusal → Type 0) → Refusal → Type 0
Given lim H p R r = H → (spent : ℕ) → Spent lim p spent → R spent r

first_valid : {s : Schema} {ss : Schemas} → ValidAll (cons s ss) → Valid s
first_valid (a_schema v a) = v

rest_valid : {s : Schema} {ss : Schemas} → ValidAll (cons s ss) → ValidAll ss
rest_valid (a_schema v a) = a

module _ (inp : List ℕ) (lim : Limits) (bs : Bytes inp) where
  -- some bytes of which R holds, passed at a toll
  pub record Passed (p q : Pos) (R : List ℕ → Type 0) (t : Toll) : Type 0 where
    pub bytes : List ℕ
    pub is : R bytes
    pub span : Span inp lim p q bytes t

  pub number_says : {R : Refusal → Type 0} (w context : ℕ) (p : Pos) → p.at ≤ length inp → (Cut inp p.at w → R (Truncated context p.at)) → AnswerSays (λ x q. (x < 256 ^ w) × Span inp lim p q (le w x) free) R (number_of inp w context p)
  unfolding number_of
  number_says w context p h f = either (AnswerSays _ _) _ (λ e. gets (
    le_at_lt inp bs p.at w,
    record {
      stands = le_at-stands inp bs p.at w (omega (arith, leb-true w (length inp - p.at) e));
      at = rw (length-le w (le_at inp p.at w));
      left = omega arith;
      records = omega arith;
      payload = omega arith;
      within = omega arith;
    },
  )) (λ e. refuses (f (omega (arith, leb-false w (length inp - p.at) e))))

  bytes_says : {R : Refusal → Type 0} (n context : ℕ) (p : Pos) → p.at ≤ length inp → (Cut inp p.at n → R (Truncated context p.at)) → AnswerSays (λ x q. (length x ≡ n) × Span inp lim p q x (load n)) R (bytes_of inp n context p)
  unfolding bytes_of
  bytes_says n context p h f = either (AnswerSays _ _) _ (λ e. gets (
    length_part inp p.at n,
    record {
      stands = part-stands inp p.at n (omega (arith, leb-true n (length inp - p.at) e));
      at = rw (length_part inp p.at n);
      left = omega arith;
      records = omega arith;
      payload = omega arith;
      within = omega arith;
    },
  )) (λ e. refuses (f (omega (arith, leb-false n (length inp - p.at) e))))

  charge_says : {R : Refusal → Type 0} (n r o place : ℕ) (p : Pos) → o ≤ 0 → p.at ≤ length inp → (p.left < n → R (RowTooLarge lim.row place)) →
      AnswerSays (λ u q. Span inp lim p q [] (record { cost = n; records = r; payload = 0; over = o })) R (charged lim n r place p)
  unfolding charged Stands
  charge_says n r o place p b h f = either (AnswerSays _ _) _ (λ e. gets {q = record { at = p.at; left = p.left - n; records = p.records + r; payload = p.payload }} (record {
    stands = h;
    at = omega arith;
    left = omega (arith, leb-true n p.left e);
    records = omega arith;
    payload = omega arith;
    within = b;
  })) (λ e. refuses (f (leb-false n p.left e)))

  -- what is passed stands whole
  stood : {s : Schema} {v : Value} {p q : Pos} (spent : ℕ) → Spent lim p spent → Passed p q (Row s v) (toll_v lim v) → StandsWhole inp lim s p.at spent q.at (spent + costs lim.charge v)
  unfolding costs
  stood {v = v} spent m a = record {
    value = v;
    bytes = a.bytes;
    is = a.is;
    stands = a.span.stands;
    within = excess_within lim v a.span.within;
    afford = omega (arith, a.span.left);
    ends = a.span.at;
    spends = refl;
  }

  -- the end tag does not stand where the input ends, nor where another tag stands
  not_cut : {at : ℕ} (w : ℕ) → Cut inp at w → Number inp at w (end_tag w) → ⊥
  not_cut {at = at} w c e = omega (arith, stands_in inp at (le w (end_tag w)) e.stands, length-le w (end_tag w))

  not_end : {at : ℕ} (w t : ℕ) → (t ≡ end_tag w → ⊥) → Number inp at w t → Number inp at w (end_tag w) → ⊥
  not_end {at = at} w t f a e = f (sym (stands_le inp at w t a.fits a.stands) ∙ stands_le inp at w (end_tag w) e.fits e.stands)

  stray : {w k at spent t : ℕ} {ss : Schemas} {n : ℕ} → count ss ≡ n → Number inp at w t → n ≤ t → TagReason inp lim w k ss at spent (InvalidVariantTag k t n at)
  stray {ss = ss} c num h = rw (← c) (stray_tag {ss = ss} num (rw c h))

  truth_body : (k : ℕ) (ss : Schemas) (x : ℕ) → x < 256 ^ 1 → Body truth k ss (boolean (ltb 0 x)) (le 1 x)
  unfolding le
  truth_body k ss zero h = a_false
  truth_body k ss (suc x) h =
      let e : suc x % 256 ≡ suc x = omega arith in
      rw (e, lt-ltb 0 (suc x) (omega arith)) (a_true {x = suc x} (omega arith))

  module _ (tree : ℕ → Schema) (rec : Walker)
      (ok : (i : ℕ) (p : Pos) → p.at ≤ length inp → AnswerSays (λ v q. Passed p q (Row (tree i) v) (toll_v lim v)) (Given lim (Valid (tree i)) p (NodeReason inp lim (tree i) p.at)) (rec i p)) where
    -- the child of a tag that stands there
    child_says : (n : Node) (w t : ℕ) (p q : Pos) → t < 256 ^ w → Span inp lim p q (le w t) free →
        AnswerSays (λ v r. (t < count (trees_from tree n.first n.children)) × Passed q r (Row (child (trees_from tree n.first n.children) t) v) (toll_v lim v))
        (Given lim (ValidAll (trees_from tree n.first n.children)) p (TagReason inp lim w n.code (trees_from tree n.first n.children) p.at)) (child_of rec n t p.at q)
    unfolding child_of
    child_says n w t p q h s =
        let ss = trees_from tree n.first n.children in
        let num : Number inp p.at w t = record { fits = h; stands = s.stands } in
        let c : count ss ≡ n.children = count_from tree n.first n.children in
        let g : q.at ≡ p.at + w = omega (arith, s.at, length-le w t) in
        either (AnswerSays _ _) _ (λ e.
        let l : t < n.children = ltb-true t n.children e in
        let lc : t < count ss = rw c l in
        let i = child_from tree n.first n.children t l in
        named lc (as_why (rw (← i) at (ok (n.first + t) q (in_end inp lim s))) (λ r x a spent m. in_child num lc (rw (← g) (x (valid_child ss t a lc) spent (omega (arith, s.left)))))))
        (λ e. refuses (λ a spent m. stray c num (ltb-false t n.children e)))
      where
        named : {x : Answer Value} {P : Value → Pos → Type 0} {R : Refusal → Type 0} {c : ℕ} → t < c → AnswerSays P R x → AnswerSays (λ v q. (t < c) × P v q) R x
        named l (gets a) = gets (l, a)
        named l (refuses r) = refuses r

    fields_says : (i n : ℕ) (p : Pos) → p.at ≤ length inp → AnswerSays (λ vs q. Passed p q (Fields (trees_from tree i n) vs) (toll_f lim vs)) (Given lim (ValidAll (trees_from tree i n)) p (FieldsReason inp lim (trees_from tree i n) p.at)) (fields_of rec i n p)
    unfolding fields_of trees_from tally excess Stands costs
    fields_says i zero p h = gets {q = p} (record { bytes = []; is = no_field; span = record { stands = h; at = omega arith; left = omega arith; records = omega arith; payload = omega arith; within = omega arith } })
    fields_says i (suc n) p h =
        then (as_why (ok i p h) (λ r x a spent m. this_field (x (first_valid a) spent m))) (λ (v, q) s.
        then (as_why (fields_says (i + 1) n q (in_end inp lim s.span)) (λ r x a spent m. later_field (stood spent m s) (x (rest_valid a) _ (omega (arith, s.span.left))))) (λ (vs, r) b.
        gets (record { bytes = s.bytes ++ b.bytes; is = field s.is b.is refl; span = join inp lim (toll_f lim (more v vs)) s.span b.span (omega arith) })))

    pairs_says : (n : Node) (w fuel : ℕ) (p : Pos) → length inp - p.at < fuel → p.at ≤ length inp →
        AnswerSays (λ is q. Passed p q (Pairs w (trees_from tree n.first n.children) is) (toll_i lim is))
        (Given lim (ValidAll (trees_from tree n.first n.children)) p (PairsReason inp lim w n.code (trees_from tree n.first n.children) p.at)) (pairs_of inp rec n w fuel p)
    unfolding pairs_of tally excess costs
    pairs_says n w zero p f h = absurd (omega arith)
    pairs_says n w (suc fuel) p f h =
        then (number_says w (14 + w) p h (λ c a spent m. this_pair (not_cut w c) (cut_tag c))) (λ (t, q) s.
        either (AnswerSays _ _) _ (λ e. gets (record { bytes = le w t; is = end (ap (le w) (eqb-true t (end_tag w) e)); span = s.1 }))
        (λ e.
        let num : Number inp p.at w t = record { fits = s.0; stands = s.1.stands } in
        let ne = eqb-false t (end_tag w) e in
        let b = below t w s.0 ne in
        then (as_why (child_says n w t p q s.0 s.1) (λ r x a spent m. this_pair (not_end w t ne num) (x a spent m))) (λ (v, r) y.
        let g : q.at ≡ p.at + w = omega (arith, s.1.at, length-le w t) in
        let l : length inp - r.at < fuel = omega (arith, tag_wide t w b, y.1.span.at, in_end inp lim s.1) in
        then (as_why (pairs_says n w fuel r l (in_end inp lim y.1.span)) (λ x z a spent m.
        let mq : Spent lim q spent = omega (arith, s.1.left) in
        later_pair num b y.0 (rw g at (stood spent mq y.1)) (z a _ (omega (arith, mq, y.1.span.left))))) (λ (is, z) c.
        gets (record {
          bytes = le w t ++ (y.1.bytes ++ c.bytes);
          is = pair b y.0 y.1.is c.is refl;
          span = join inp lim (toll_i lim (item t v is)) s.1 (join inp lim (toll_i lim (item t v is)) y.1.span c.span (omega arith)) (omega arith);
        })))))

    -- a node that was charged, by its form
    value_says : (n : Node) (f : Form) (o p : Pos) → Span inp lim o p [] (mark lim) →
        AnswerSays (λ v q. Passed o q (Body f n.code (trees_from tree n.first n.children) v) (toll_v lim v))
        (Given lim (Allows (maximum f) (count (trees_from tree n.first n.children)) × ValidAll (trees_from tree n.first n.children)) p (BodyReason inp lim f n.code (trees_from tree n.first n.children) p.at)) (value_of inp lim rec n f p)
    unfolding value_of blob_of tally excess Allows maximum fixed_form
    value_says n empty o p s = gets {q = p} (record { bytes = []; is = a_nothing; span = s })
    value_says n truth o p s =
        then (number_says 1 n.code p (in_end inp lim s) (λ c a spent m. cut_scalar 1 refl c)) (λ (x, q) a.
        gets (record { bytes = le 1 x; is = truth_body n.code _ x a.0; span = join inp lim (toll_v lim (boolean (ltb 0 x))) s a.1 (omega arith) }))
    value_says n (fixed w) o p s =
        then (number_says w n.code p (in_end inp lim s) (λ c a spent m. cut_scalar w refl c)) (λ (x, q) a.
        gets (record { bytes = le w x; is = a_number a.0 refl; span = join inp lim (toll_v lim (number n.code x)) s a.1 (omega arith) }))
    value_says n (raw w) o p s =
        then (bytes_says w n.code p (in_end inp lim s) (λ c a spent m. cut_scalar w refl c)) (λ (x, q) a.
        gets (record { bytes = x; is = a_wide a.0; span = join inp lim (toll_v lim (wide n.code x)) s a.1 (omega (arith, a.0)) }))
    value_says n sized o p s =
        then (number_says 4 13 p (in_end inp lim s) (λ c a spent m. cut_length c)) (λ (l, q) a.
        let num : Number inp p.at 4 l = record { fits = a.0; stands = a.1.stands } in
        either (AnswerSays _ _) _ (λ e.
        let k = leb-true l (blob_limit lim n.code) e in
        then (charge_says l 0 (l - blob_limit lim n.code) p.at q (omega arith) (in_end inp lim a.1) (λ d v spent m. dear_blob num k (omega (arith, a.1.left)))) (λ (_, r) b.
        let g : r.at ≡ p.at + 4 = omega (arith, a.1.at, length-le 4 l, b.at) in
        then (bytes_says l 14 r (in_end inp lim b) (λ c v spent m. rw g (cut_payload {spent = spent} num k (omega (arith, a.1.left, b.left)) (omega arith)))) (λ (x, z) c.
        gets (record {
          bytes = le 4 l ++ x;
          is = a_blob (omega (arith, a.0, c.0)) (ap (λ (y : ℕ). le 4 y ++ x) (sym c.0));
          span = join inp lim (toll_v lim (blob n.code x)) s (join inp lim (record { cost = l; records = 0; payload = l; over = l - blob_limit lim n.code }) a.1 (join inp lim (record { cost = l; records = 0; payload = l; over = l - blob_limit lim n.code }) b c.1 (omega arith)) (omega arith)) (omega (arith, c.0));
        }))))
        (λ e. refuses (λ v spent m. long_blob num (leb-false l (blob_limit lim n.code) e))))
    value_says n (variant_form w) o p s =
        then (number_says w (14 + w) p (in_end inp lim s) (λ c a spent m. of_variant (cut_tag c))) (λ (t, q) a.
        then (as_why (child_says n w t p q a.0 a.1) (λ r x v spent m. of_variant (x v.1 spent m))) (λ (v, r) b.
        gets (record {
          bytes = le w t ++ b.1.bytes;
          is = a_variant a.0 b.0 b.1.is refl;
          span = join inp lim (toll_v lim (variant t v)) s (join inp lim (toll_v lim v) a.1 b.1.span (omega arith)) (omega arith);
        })))
    value_says n (repeated_form w) o p s =
        then (as_why (pairs_says n w (suc (length inp - p.at)) p (omega arith) (in_end inp lim s)) (λ r x v spent m. of_repeated (x v.1 spent m))) (λ (is, q) a.
        gets (record { bytes = a.bytes; is = a_repeated a.is; span = join inp lim (toll_v lim (repeated is)) s a.span (omega arith) }))
    value_says n tuple_form o p s =
        then (as_why (fields_says n.first n.children p (in_end inp lim s)) (λ r x v spent m. of_tuple (x v.1 spent m))) (λ (vs, q) a.
        gets (record { bytes = a.bytes; is = a_tuple a.is; span = join inp lim (toll_v lim (tuple vs)) s a.span (omega arith) }))
    value_says n unknown o p s = refuses (λ v spent m. absurd v.0)

  no_wire_type : Valid no_schema → ⊥
  unfolding form written_if type_of type_in wire_types Allows maximum
  no_wire_type (valid l a) = l

  allowed : {k : ℕ} {m : Name} {ss : Schemas} → Valid (node k m ss) → Allows (maximum (form k)) (count ss) × ValidAll ss
  allowed (valid l a) = (l, a)

  rows : {p : Pos} {x : Answer Value} {R : Refusal → Type 0} {c : ℕ} {m : Name} {ss : Schemas} → AnswerSays (λ v q. Passed p q (Body (form c) c ss v) (toll_v lim v)) R x → AnswerSays (λ v q. Passed p q (Row (node c m ss) v) (toll_v lim v)) R x
  rows (gets a) = gets (record { bytes = a.bytes; is = row a.is; span = a.span })
  rows (refuses r) = refuses r

  pub walk_says : (sch store : List ℕ) (d i : ℕ) (p : Pos) → p.at ≤ length inp →
      AnswerSays (λ v q. Passed p q (Row (tree_at sch store d i) v) (toll_v lim v)) (Given lim (Valid (tree_at sch store d i)) p (NodeReason inp lim (tree_at sch store d i) p.at)) (walk sch inp lim d i p)
  unfolding walk tree_at
  walk_says sch store zero i p h = refuses (λ v spent m. absurd (no_wire_type v))
  walk_says sch store (suc d) i p h =
      rows (then (charge_says lim.charge 1 0 p.at p (omega arith) h (λ e v spent m. dear_node (omega arith))) (λ (_, q) s.
      let g : q.at ≡ p.at = omega (arith, s.at) in
      as_why (value_says (tree_at sch store d) (walk sch inp lim d) (walk_says sch store d) (node_at sch i) (form (node_at sch i).code) p q s)
      (λ r x v spent m. in_node (omega (arith, s.left)) (rw g at (x (allowed v) (spent + lim.charge) (omega (arith, s.left)))))))

  -- what the walk accepts is a row, within the limits
  pub sound : (sch store : List ℕ) (d i : ℕ) (p q : Pos) (v : Value) → p.at ≤ length inp → walk sch inp lim d i p ≡ Got v q → Accepted (tree_at sch store d i) inp lim p v q
  unfolding after costs records_of payload_of
  sound sch store d i p q v h e =
      let a = if_got (rw e at (walk_says sch store d i p h)) in
      record {
        bytes = a.bytes;
        is = a.is;
        stands = a.span.stands;
        within = excess_within lim v a.span.within;
        afford = omega (arith, a.span.left);
        ends = pos_eq q (after lim v (length a.bytes) p) a.span.at (omega (arith, a.span.left)) a.span.records a.span.payload;
      }
