-- Values without children: what is judged of each is what writing it answers.
-- Assumes nothing.
use Rattle.std.proofs.Common.{Ok, Err}
use Prim.Native.Nat.{ℕ, ◌+◌, ◌^◌, ◌≤◌, ◌<◌}
use mathlib.Core.Path.{◌≡◌, refl, sym, ap, ◌∙◌}
use mathlib.Core.Bool.{Bool, true, false}
use mathlib.Core.List.{List, [], ◌∷◌, ◌++◌}
use native.Mathlib.Omega.{arith}
use borrow.Author.Tests.{lt-ltb, le-ltb, eq-eqb, le-leb, lt-leb}
use lib.Dec.{leb}
use lib.ListN.{length, length-append}
use Rattle.rules.specs.Choice.{pick}
use Rattle.rules.specs.Bytes.{le}
use Rattle.rules.specs.Wire.{fixed, raw, form, width_of}
use Rattle.rules.specs.Block.{node_at}
use Rattle.rules.specs.Value.{Value, nothing, boolean, number, wide, blob, variant, repeated, tuple, Fits, tally, records_of, payload_of}
use Rattle.rules.specs.ValueRecord.{value_record_at}
use Rattle.rules.specs.ValueTable.{bit, value_kind, Spot}
use Rattle.rules.specs.Walk.{Limits, blob_limit}
use Rattle.rules.specs.Refusals.{BlobTooLarge, ValueDoesNotMatchSchema}
use Rattle.rules.specs.Writing as rule
use Rattle.rules.specs.Writing.{Put, kind_for, fitting, write}
use Rattle.rules.specs.declared.table_record.ValueRecord.{ValueRecord}
use Rattle.rules.proofs.Stands.{length-le}
use Rattle.value_laws.proofs.Parse.{Reads}
use Rattle.value_laws.proofs.Codes.{nothing_taken, boolean_taken}
use Rattle.leaves.specs.Fields.{payload_of_fixed}
use Rattle.judge.specs.Table.{whole_value, value_standing_at}
use Rattle.judge.specs.Judging.{judge_pos, judged, leaf_of, Judgeable, Opened, judged_at}
use Rattle.judge.specs.declared.walk.JudgePos.{JudgePos}
use Rattle.judge.proofs.Codes.{leaf_kind, fixed_range, raw_range, sized_range}
use Rattle.judge.proofs.Standing.{spot, inside, size_small, kind_told, at_end, from_end, length_told}
use Rattle.judge.proofs.Going.{whole_reads, misfit}

-- widths of eight bytes and less are in the record, wider ones are payload
kept_none : (w : ℕ) → w ≤ 8 → payload_of_fixed w ≡ 0
unfolding payload_of_fixed pick
kept_none w h = rw (le-leb w 8 h)

kept_all : (w : ℕ) → 8 < w → payload_of_fixed w ≡ w
unfolding payload_of_fixed pick
kept_all w h = rw (lt-leb w 8 h)

blob_bytes : (x : List ℕ) → length (le 4 (length x) ++ x) ≡ 4 + length x
blob_bytes x = simp (length-append, length-le)

module _ (sch : List ℕ) (lim : Limits) (i : ℕ) (table store : List ℕ) (short : length table ≤ 4294967295) (code : ℕ) (is : code ≡ (node_at sch i).code) (p : JudgePos) {d tag : ℕ} {z : Spot} where
  -- a value of a fixed width
  fixed_leaf : (v : Value) (b : List ℕ) → Reads table store d tag (spot p.at p.from) v z → write sch lim v i p.at ≡ Put b → code < 13 → records_of v ≡ 1 → payload_of v ≡ payload_of_fixed (width_of (form code)) → length b ≡ width_of (form code) →
      (size : ℕ) → leaf_of lim code size p ≡ judged p.bytes z (write sch lim v i p.at)
  unfolding leaf_of judged pick
  fixed_leaf v b r e l n m k size =
      let a : z.at ≡ p.at + 1 = at_end table store short r ∙ ap (λ (x : ℕ). p.at + x) n in
      let f : z.from ≡ p.from + payload_of_fixed (width_of (form code)) = from_end table store short r ∙ ap (λ (x : ℕ). p.from + x) m in
      rw (lt-ltb code 13 l, e, a, f, k)

  blob_ends : (x : List ℕ) → Reads table store d tag (spot p.at p.from) (blob code x) z → (z.at ≡ p.at + 1) × (z.from ≡ p.from + length x)
  unfolding records_of payload_of tally
  blob_ends x r = (omega (arith, at_end table store short r), omega (arith, from_end table store short r))

  -- a blob, within its limit or not
  blob_leaf : (x : List ℕ) → Reads table store d tag (spot p.at p.from) (blob code x) z → 13 ≤ code → code ≡ kind_for code (form code) →
      leaf_of lim code (value_record_at table p.at).size p ≡ judged p.bytes z (write sch lim (blob code x) i p.at)
  unfolding leaf_of write fitting pick judged
  blob_leaf x r l e = rw (le-ltb code 13 l, length_told table store short r, ← is, eq-eqb code _ e) (by (leb (length x) (blob_limit lim code)))
    where
      by : (b : Bool) →
          pick false (Ok (judge_pos (p.at + 1) (p.from + payload_of_fixed (width_of (form code))) (p.bytes + width_of (form code))))
          (pick b (Ok (judge_pos (p.at + 1) (p.from + length x) (p.bytes + (4 + length x)))) (Err (BlobTooLarge code (length x) (blob_limit lim code) p.at)))
          ≡ judged p.bytes z (pick true (pick b (Put (le 4 (length x) ++ x)) (rule.Refused (BlobTooLarge code (length x) (blob_limit lim code) p.at))) (rule.Refused (ValueDoesNotMatchSchema code code p.at)))
      by true = rw ((blob_ends x r).0, (blob_ends x r).1, blob_bytes x)
      by false = refl

  pub leaf_judged : (v : Value) → Reads table store d tag (spot p.at p.from) v z → code < 15 → value_kind v ≡ kind_for code (form code) →
      leaf_of lim code (value_record_at table p.at).size p ≡ judged p.bytes z (write sch lim v i p.at)
  unfolding value_kind Fits records_of payload_of tally width_of
  leaf_judged nothing r l e =
      let f = nothing_taken code e in
      fixed_leaf nothing [] r (unfold write fitting pick in rw (← is, eq-eqb _ _ e)) (omega (arith, e, leaf_kind code l)) refl (rw f (sym (kept_none 0 (omega arith)))) (rw f) _
  leaf_judged (boolean x) r l e =
      let f = boolean_taken code e in
      fixed_leaf (boolean x) (bit x ∷ []) r (unfold write fitting pick in rw (← is, eq-eqb _ _ e)) (omega (arith, e, leaf_kind code l)) refl (rw f (sym (kept_none 1 (omega arith)))) (rw f) _
  leaf_judged (number k x) r l e =
      let c : code ≡ k = leaf_kind code l ∙ sym e in
      let f : form code ≡ fixed r.fits.0 = ap form c ∙ r.fits.1.0 in
      let g = fixed_range code _ f in
      fixed_leaf (number k x) (le (width_of (form code)) x) r (unfold write fitting pick in rw (← is, eq-eqb _ _ e)) g.0 refl (rw f (sym (kept_none _ g.1))) (length-le _ x) _
  leaf_judged (wide k x) r l e =
      let c : code ≡ k = leaf_kind code l ∙ sym e in
      let f : form code ≡ raw (length x) = ap form c ∙ r.fits in
      let g = raw_range code _ f in
      fixed_leaf (wide k x) x r (unfold write fitting pick in rw (← is, eq-eqb _ _ e)) g.0 (omega arith) (rw (f, kept_all (length x) g.1) (omega arith)) (rw f) _
  leaf_judged (blob k x) r l e =
      let c : k ≡ code = e ∙ sym (leaf_kind code l) in
      let g = sized_range k r.fits.0 in
      go k c g.0 r
    where
      go : (n : ℕ) → n ≡ code → 13 ≤ n → Reads table store d tag (spot p.at p.from) (blob n x) z → leaf_of lim code (value_record_at table p.at).size p ≡ judged p.bytes z (write sch lim (blob n x) i p.at)
      go n q m t = rw q (blob_leaf x (rw q at t) (rw q at m) (leaf_kind code l))
  leaf_judged (variant t v) r l e = absurd (omega (arith, e, leaf_kind code l))
  leaf_judged (repeated is) r l e = absurd (omega (arith, e, leaf_kind code l))
  leaf_judged (tuple vs) r l e = absurd (omega (arith, e, leaf_kind code l))

-- ---- the node step, in the code's numbers

module _ (sch : List ℕ) (i depth : ℕ) (table store : List ℕ) (p : JudgePos) (k : Judgeable sch i depth table store p) (v : ValueRecord) (m : v ≡ value_record_at table p.at) where
  short : length table ≤ 4294967295
  short = omega (arith, k.short)

  pub leaf_bounds : (v.size < 2 ^ 32) × ((p.at < 2 ^ 32) × ((p.from < 2 ^ 32) × (p.bytes < 2 ^ 40)))
  leaf_bounds =
      let w = whole_reads sch i table store depth p k in
      let n = inside table store short w in
      (omega (arith, ap (λ (u : ValueRecord). u.size) m, size_small table store short w), (omega (arith, n, k.short), (omega (arith, k.within, k.small), omega (arith, n, k.few, k.short, k.within, k.small))))

  module _ (code : ℕ) (is : code ≡ (node_at sch i).code) where
    pub code_known : code ≤ 19
    code_known = rw is (k.sound.codes i k.inside)

    module _ (has : ℕ) (e : has ≡ kind_for code (form code)) where
      pub opened : v.kind ≡ has → 15 ≤ code → Opened sch i code table p v.size
      opened h l = record { is = is; compound = l; kind = sym (ap (λ (u : ValueRecord). u.kind) m) ∙ h ∙ e; count = ap (λ (u : ValueRecord). u.size) m }

      module _ (lim : Limits) where
        pub other_kind : (v.kind ≡ has → ⊥) → Err (ValueDoesNotMatchSchema code v.kind p.at) ≡ judged_at sch lim i depth table store p
        other_kind h = misfit sch lim i table store depth p k code v.kind is (ap (λ (u : ValueRecord). u.kind) m) (λ x. h (x ∙ sym e))

        pub leaf_answer : v.kind ≡ has → code < 15 → leaf_of lim code v.size p ≡ judged_at sch lim i depth table store p
        unfolding judged_at
        leaf_answer h l =
            let w = whole_reads sch i table store depth p k in
            ap (λ (u : ValueRecord). leaf_of lim code u.size p) m
            ∙ leaf_judged sch lim i table store short code is p (whole_value (value_standing_at table store depth p.at p.from)) w l (sym (kind_told table store short w) ∙ sym (ap (λ (u : ValueRecord). u.kind) m) ∙ h ∙ e)
