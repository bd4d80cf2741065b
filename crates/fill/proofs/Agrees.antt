-- What the walk accepts stands in the input, limits aside; and the walk has counted its records and payload bytes.
-- Assumes nothing.
use Prim.Native.Nat.{ℕ, zero, suc, ◌+◌, ◌-◌, ◌≤◌}
use mathlib.Core.Path.{◌≡◌, refl, ap}
use mathlib.Core.Bool.{Bool, true, false}
use mathlib.Core.List.{List, []}
use lib.ListN.{length}
use lib.Dec.{leb}
use Rattle.rules.specs.Choice.{pick}
use Rattle.rules.specs.Bytes.{Bytes}
use Rattle.rules.specs.Wire.{Form, empty, truth, fixed, raw, sized, variant_form, repeated_form, tuple_form, unknown, form}
use Rattle.rules.specs.Block.{node_at}
use Rattle.rules.specs.Value.{Value, blob, records_of, payload_of}
use Rattle.rules.specs.Walk as rule
use Rattle.rules.specs.Walk.{Limits, Pos, Answer, Refused, Walker, number_of, bytes_of, charged, blob_of, child_of, pairs_of, fields_of, walk, after}
use Rattle.rules.specs.declared.table_record.Node.{Node}
use Rattle.rules.specs.declared.refusal.Refusal.{Refusal}
use Rattle.rules.specs.Refusals.{RowTooLarge}
use Rattle.row_laws.proofs.Sound.{sound}
use Rattle.fill.specs.Plain.{PlainRead, Got, ◌>>=◌, plain_number_at, bytes_at, leaf_at, Reader, child_at, pairs_at, fields_at, by_form, read_at}

-- what is accepted is read, and leaves off at the same position
data Agrees {A : Type 0} : Answer A → PlainRead A → Type 0 where
  both : {a : A} {q : Pos} → Agrees (rule.Got a q) (Got a q.at)
  refused : {r : Refusal} {x : PlainRead A} → Agrees (Refused r) x

then : {A B : Type 0} {x : Answer A} {y : PlainRead A} {k : A × Pos → Answer B} (l : A × ℕ → PlainRead B) → Agrees x y → ((z : A × Pos) → Agrees (k z) (l (z.0, z.1.at))) → Agrees (rule.◌>>=◌ x k) (y >>= l)
unfolding rule.◌>>=◌ ◌>>=◌
then l (both {a = a} {q = q}) f = f (a, q)
then l refused f = refused

-- a test that both make
either : {A : Type 0} {x x' : Answer A} {y y' : PlainRead A} (b : Bool) → Agrees x y → Agrees x' y' → Agrees (pick b x x') (pick b y y')
unfolding pick
either true f g = f
either false f g = g

-- a test that the walk alone makes
passing : {A : Type 0} {x : Answer A} {y : PlainRead A} (r : Refusal) (b : Bool) → Agrees x y → Agrees (pick b x (Refused r)) y
unfolding pick
passing r true f = f
passing r false f = refused

module _ (inp : List ℕ) (lim : Limits) where
  number_agrees : (w context : ℕ) (p : Pos) → Agrees (number_of inp w context p) (plain_number_at inp w p.at)
  unfolding number_of plain_number_at
  number_agrees w context p = either _ both refused

  bytes_agrees : (n context : ℕ) (p : Pos) → Agrees (bytes_of inp n context p) (bytes_at inp n p.at)
  unfolding bytes_of bytes_at
  bytes_agrees n context p = either _ both refused

  -- a charge, and what follows it
  charge_agrees : {A : Type 0} {k : Unit × Pos → Answer A} (y : ℕ → PlainRead A) (cost r place : ℕ) (p : Pos) → ((z : Unit × Pos) → Agrees (k z) (y z.1.at)) → Agrees (rule.◌>>=◌ (charged lim cost r place p) k) (y p.at)
  unfolding charged pick rule.◌>>=◌
  charge_agrees {A = A} {k = k} y cost r place p f = by (leb cost p.left)
    where
      by : (b : Bool) → Agrees (rule.◌>>=◌ (pick b (rule.Got tt (record { at = p.at; left = p.left - cost; records = p.records + r; payload = p.payload })) (Refused (RowTooLarge lim.row place))) k) (y p.at)
      by true = f (tt, record { at = p.at; left = p.left - cost; records = p.records + r; payload = p.payload })
      by false = refused

  blob_agrees : (code : ℕ) (p : Pos) → Agrees (blob_of inp lim code p) (leaf_at inp code sized p.at)
  unfolding blob_of leaf_at
  blob_agrees code p =
      then _ (number_agrees 4 13 p) (λ (n, q).
      passing _ _ (charge_agrees (λ at. bytes_at inp n at >>= (λ (z : List ℕ × ℕ). Got (blob code z.0) z.1)) n 0 p.at q (λ (_, r).
      then _ (bytes_agrees n 14 r) (λ (b, s). both))))

  module _ (walker : Walker) (rec : Reader) (ok : (i : ℕ) (p : Pos) → Agrees (walker i p) (rec i p.at)) where
    child_agrees : (n : Node) (tag place : ℕ) (p : Pos) → Agrees (child_of walker n tag place p) (child_at rec n tag p.at)
    unfolding child_of child_at
    child_agrees n tag place p = either _ (ok (n.first + tag) p) refused

    pairs_agree : (n : Node) (w enough : ℕ) (p : Pos) → Agrees (pairs_of inp walker n w enough p) (pairs_at inp rec n w enough p.at)
    unfolding pairs_of pairs_at
    pairs_agree n w zero p = refused
    pairs_agree n w (suc enough) p =
        then _ (number_agrees w (14 + w) p) (λ (tag, q).
        either _ both
        (then _ (child_agrees n tag p.at q) (λ (v, r).
        then _ (pairs_agree n w enough r) (λ (is, s). both))))

    fields_agree : (i children : ℕ) (p : Pos) → Agrees (fields_of walker i children p) (fields_at rec i children p.at)
    unfolding fields_of fields_at
    fields_agree i zero p = both
    fields_agree i (suc children) p =
        then _ (ok i p) (λ (v, q).
        then _ (fields_agree (i + 1) children q) (λ (vs, r). both))

    value_agrees : (n : Node) (f : Form) (p : Pos) → Agrees (rule.value_of inp lim walker n f p) (by_form inp rec n f p.at)
    unfolding rule.value_of by_form leaf_at
    value_agrees n empty p = both
    value_agrees n truth p = then _ (number_agrees 1 n.code p) (λ (x, q). both)
    value_agrees n (fixed w) p = then _ (number_agrees w n.code p) (λ (x, q). both)
    value_agrees n (raw w) p = then _ (bytes_agrees w n.code p) (λ (b, q). both)
    value_agrees n sized p = blob_agrees n.code p
    value_agrees n (variant_form w) p =
        then _ (number_agrees w (14 + w) p) (λ (tag, q).
        then _ (child_agrees n tag p.at q) (λ (v, r). both))
    value_agrees n (repeated_form w) p = then _ (pairs_agree n w (suc (length inp - p.at)) p) (λ (is, q). both)
    value_agrees n tuple_form p = then _ (fields_agree n.first n.children p) (λ (vs, q). both)
    value_agrees n unknown p = refused

  walk_agrees : (sch : List ℕ) (d i : ℕ) (p : Pos) → Agrees (walk sch inp lim d i p) (read_at sch inp d i p.at)
  unfolding walk read_at
  walk_agrees sch zero i p = refused
  walk_agrees sch (suc d) i p =
      charge_agrees (by_form inp (read_at sch inp d) (node_at sch i) (form (node_at sch i).code)) lim.charge 1 p.at p (λ (_, q).
      value_agrees (walk sch inp lim d) (read_at sch inp d) (walk_agrees sch d) (node_at sch i) (form (node_at sch i).code) q)

  -- What the walk accepts stands there, and ends at the same position.
  pub reads : (sch : List ℕ) (d i : ℕ) (p q : Pos) (v : Value) → walk sch inp lim d i p ≡ rule.Got v q → read_at sch inp d i p.at ≡ Got v q.at
  reads sch d i p q v e = from (rw e at (walk_agrees sch d i p))
    where
      from : {y : PlainRead Value} → Agrees (rule.Got v q) y → y ≡ Got v q.at
      from both = refl

  module _ (bs : Bytes inp) (sch : List ℕ) where
    -- And the walk has counted its records and its payload bytes.
    pub counts : (d i : ℕ) (p q : Pos) (v : Value) → p.at ≤ length inp → walk sch inp lim d i p ≡ rule.Got v q → (q.records ≡ p.records + records_of v) × (q.payload ≡ p.payload + payload_of v)
    unfolding after
    counts d i p q v h e =
        let s = sound inp lim bs sch [] d i p q v h e in
        (ap (λ (x : Pos). x.records) s.ends, ap (λ (x : Pos). x.payload) s.ends)
