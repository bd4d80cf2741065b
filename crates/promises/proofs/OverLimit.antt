-- Refusal 14, in reading and in writing: it carries the limit of its own type, which the length passes.
-- Assumes nothing.
use Prim.Native.Nat.{ℕ, zero, suc, ◌+◌, ◌-◌, ◌<◌}
use mathlib.Core.Path.{◌≡◌, refl, sym, ap, ◌∙◌}
use mathlib.Core.List.{List}
use native.Mathlib.Omega.{arith}
use borrow.Author.Tests.{leb-false}
use lib.Dec.{ltb, leb, eqb}
use lib.ListN.{length}
use Rattle.rules.specs.Wire.{Form, empty, truth, fixed, raw, sized, variant_form, repeated_form, tuple_form, unknown, form, end_tag}
use Rattle.rules.specs.Block.{node_at, block}
use Rattle.rules.specs.Format.{Format, table_schema}
use Rattle.rules.specs.Value.{Value}
use Rattle.rules.specs.Walk.{Limits, blob_limit, Pos, Answer, Refused, number_of, bytes_of, charged, blob_of, Walker, child_of, pairs_of, fields_of, value_of, walk}
use Rattle.rules.specs.Reading.{start, root_from, row_at}
use Rattle.rules.specs.Writing as writing
use Rattle.rules.specs.Writing.{write_row}
use Rattle.rules.specs.Refusals.{line_of, refusal_number, Setting, BadSchemaTable, TooDeep, UnknownRegistryReference, MissingTableSchema, BlobTooLarge}
use Rattle.rules.specs.declared.table_record.Node.{Node}
use Rattle.rules.specs.declared.table_record.Located.{Located}
use Rattle.rules.specs.declared.table_record.Located.TheVariants.{Block, NoTable, NoEntry}
use Rattle.rules.specs.declared.refusal.Refusal.{Refusal}
use Rattle.rules.specs.declared.refusal.Why.TheVariants as why
use Rattle.rules.proofs.Tests.{either}
use Rattle.row_laws.proofs.Sound.{AnswerSays, gets, refuses, if_refused, then}
use Rattle.value_laws.proofs.Honest.{WriteReason, too_large, mismatch, wrong_length, stray, stray_item, honest_row}

module _ (lim : Limits) where
  -- where it is a 14, it says so
  abbrev Tells : Refusal → Type 0
  Tells r = (code n limit place : ℕ) → r ≡ BlobTooLarge code n limit place → (limit ≡ blob_limit lim code) × (limit < n)

  -- another number is no 14
  other : {r : Refusal} → (refusal_number r ≡ 14 → ⊥) → Tells r
  unfolding line_of
  other h code n limit place e = absurd (h (ap refusal_number e))

  -- one for a blob of this code and length
  itself : (k x at : ℕ) → blob_limit lim k < x → Tells (BlobTooLarge k x (blob_limit lim k) at)
  itself k x at o code n limit place e = says (ap (λ (r : Refusal). r.why) e)
    where
      says : why.BlobTooLarge k x (blob_limit lim k) ≡ why.BlobTooLarge code n limit → (limit ≡ blob_limit lim code) × (limit < n)
      says w =
          let a : k ≡ code = cc in
          let b : x ≡ n = cc in
          let c : blob_limit lim k ≡ limit = cc in
          (sym c ∙ ap (blob_limit lim) a, omega (arith, o, b, c))

  -- an answer that tells no 14 but its own
  abbrev AnswerTells : {A : Type 0} → Answer A → Type 0
  AnswerTells {A} x = AnswerSays (λ (a : A) (q : Pos). Unit) Tells x

  module _ (inp : List ℕ) where
    number_tells : (w context : ℕ) (p : Pos) → AnswerTells (number_of inp w context p)
    unfolding number_of line_of
    number_tells w context p = either (AnswerSays _ _) (leb w (length inp - p.at)) (λ e. gets tt) (λ e. refuses (other (λ z. omega (arith, z))))

    bytes_tell : (n context : ℕ) (p : Pos) → AnswerTells (bytes_of inp n context p)
    unfolding bytes_of line_of
    bytes_tell n context p = either (AnswerSays _ _) (leb n (length inp - p.at)) (λ e. gets tt) (λ e. refuses (other (λ z. omega (arith, z))))

    charge_tells : (cost r place : ℕ) (p : Pos) → AnswerTells (charged lim cost r place p)
    unfolding charged line_of
    charge_tells cost r place p = either (AnswerSays _ _) (leb cost p.left) (λ e. gets tt) (λ e. refuses (other (λ z. omega (arith, z))))

    blob_tells : (code : ℕ) (p : Pos) → AnswerTells (blob_of inp lim code p)
    unfolding blob_of
    blob_tells code p = then (number_tells 4 13 p) (λ (n, q) u.
        either (AnswerSays _ _) (leb n (blob_limit lim code))
        (λ e. then (charge_tells n 0 p.at q) (λ (_, r) u. then (bytes_tell n 14 r) (λ z u. gets tt)))
        (λ e. refuses (itself code n p.at (leb-false n (blob_limit lim code) e))))

    -- of a node, where its children's answers do
    module _ (rec : Walker) (ok : (i : ℕ) (p : Pos) → AnswerTells (rec i p)) where
      child_tells : (n : Node) (tag place : ℕ) (p : Pos) → AnswerTells (child_of rec n tag place p)
      unfolding child_of line_of
      child_tells n tag place p = either (AnswerSays _ _) (ltb tag n.children) (λ e. ok (n.first + tag) p) (λ e. refuses (other (λ z. omega (arith, z))))

      pairs_tell : (n : Node) (w enough : ℕ) (p : Pos) → AnswerTells (pairs_of inp rec n w enough p)
      unfolding pairs_of line_of
      pairs_tell n w zero p = refuses {r = Setting} (other (λ z. omega (arith, z)))
      pairs_tell n w (suc enough) p = then (number_tells w (14 + w) p) (λ (tag, q) u.
          either (AnswerSays _ _) (eqb tag (end_tag w)) (λ e. gets tt)
          (λ e. then (child_tells n tag p.at q) (λ (v, r) u. then (pairs_tell n w enough r) (λ z u. gets tt))))

      fields_tell : (i children : ℕ) (p : Pos) → AnswerTells (fields_of rec i children p)
      unfolding fields_of
      fields_tell i zero p = gets tt
      fields_tell i (suc children) p = then (ok i p) (λ (v, q) u. then (fields_tell (i + 1) children q) (λ z u. gets tt))

      value_tells : (n : Node) (f : Form) (p : Pos) → AnswerTells (value_of inp lim rec n f p)
      unfolding value_of line_of
      value_tells n empty p = gets tt
      value_tells n truth p = then (number_tells 1 n.code p) (λ z u. gets tt)
      value_tells n (fixed w) p = then (number_tells w n.code p) (λ z u. gets tt)
      value_tells n (raw w) p = then (bytes_tell w n.code p) (λ z u. gets tt)
      value_tells n sized p = blob_tells n.code p
      value_tells n (variant_form w) p = then (number_tells w (14 + w) p) (λ (tag, q) u. then (child_tells n tag p.at q) (λ z u. gets tt))
      value_tells n (repeated_form w) p = then (pairs_tell n w (suc (length inp - p.at)) p) (λ z u. gets tt)
      value_tells n tuple_form p = then (fields_tell n.first n.children p) (λ z u. gets tt)
      value_tells n unknown p = refuses {r = BadSchemaTable} (other (λ z. omega (arith, z)))

    walk_tells : (sch : List ℕ) (depth i : ℕ) (p : Pos) → AnswerTells (walk sch inp lim depth i p)
    unfolding walk line_of
    walk_tells sch zero i p = refuses {r = TooDeep} (other (λ z. omega (arith, z)))
    walk_tells sch (suc depth) i p = then (charge_tells lim.charge 1 p.at p) (λ (_, q) u.
        value_tells (walk sch inp lim depth) (walk_tells sch depth) (node_at sch i) (form (node_at sch i).code) q)

    root_tells : (f : Format) (at t : ℕ) (l : Located) (q : Pos) → AnswerTells (root_from f inp lim at t l q)
    unfolding root_from line_of
    root_tells f at t (Block first n) q = then (walk_tells (block f.table first n) 64 0 q) (λ z u. gets tt)
    root_tells f at t NoTable q = refuses {r = MissingTableSchema t at} (other (λ z. omega (arith, z)))
    root_tells f at t NoEntry q = refuses {r = UnknownRegistryReference t} (other (λ z. omega (arith, z)))

    pub read_over : (f : Format) (at code n limit place : ℕ) → row_at f inp lim at ≡ Refused (BlobTooLarge code n limit place) → (limit ≡ blob_limit lim code) × (limit < n)
    unfolding row_at
    read_over f at code n limit place e =
        let a : AnswerTells (row_at f inp lim at) = then (number_tells 2 17 (start lim at)) (λ (t, q) u. root_tells f at t (table_schema f t) q) in
        if_refused (rw e at a) code n limit place refl

  write_tells : {sch : List ℕ} {v : Value} {i r : ℕ} {x : Refusal} → WriteReason sch lim v i r x → Tells x
  unfolding line_of
  write_tells (too_large {k = k} {n = n} {x = x} m q o) = itself k (length x) n o
  write_tells (mismatch m q) = other (λ z. omega (arith, z))
  write_tells (wrong_length m q l) = other (λ z. omega (arith, z))
  write_tells (stray m q l) = other (λ z. omega (arith, z))
  write_tells (stray_item m q h l) = other (λ z. omega (arith, z))

  pub written_over : (sch : List ℕ) (v : Value) (code n limit place : ℕ) →
      write_row sch lim v ≡ writing.Refused (BlobTooLarge code n limit place) → (limit ≡ blob_limit lim code) × (limit < n)
  written_over sch v code n limit place e = write_tells (honest_row sch lim v (BlobTooLarge code n limit place) e) code n limit place refl
