-- Values without children: what is written_at of each is what its record and the payload store hold.
-- Assumes nothing.
use Prim.Native.Nat.{ℕ, ◌+◌, ◌^◌, ◌≤◌, ◌<◌}
use mathlib.Core.Path.{◌≡◌, refl, sym, ap, ◌∙◌}
use mathlib.Core.Bool.{Bool, true, false}
use mathlib.Core.List.{List, [], ◌∷◌, ◌++◌}
use native.Mathlib.Omega.{arith}
use native.Mathlib.Nat.{pow-le-pow_right, lt_of_lt_of_le}
use borrow.Author.Tests.{eq-eqb, le-leb}
use lib.ListN.{length, length-append}
use Rattle.rules.specs.Choice.{pick}
use Rattle.rules.specs.Bytes.{le, part, over}
use Rattle.rules.specs.Wire.{fixed, raw, form, width_of}
use Rattle.rules.specs.Block.{node_at}
use Rattle.rules.specs.Value.{Value, nothing, boolean, number, wide, blob, variant, repeated, tuple, Fits, tally, records_of, payload_of}
use Rattle.rules.specs.ValueRecord.{value_record_at}
use Rattle.rules.specs.ValueTable as table_of
use Rattle.rules.specs.ValueTable.{bit, payload_bytes, value_kind, content_of, head_of}
use Rattle.rules.specs.Writing.{Put, kind_for, fitting, write}
use Rattle.rules.specs.declared.table_record.ValueRecord.{ValueRecord}
use Rattle.rules.proofs.Stands.{length-le, stands_part}
use Rattle.value_laws.proofs.Records.{content_is}
use Rattle.value_laws.proofs.Parse.{Reads}
use Rattle.value_laws.proofs.Codes.{nothing_taken, boolean_taken}
use Rattle.judge.specs.Table.{whole_value, value_standing_at}
use Rattle.write.specs.Putting.{leaf_kept, leaf_size, leaf_bytes, put_of, unlimited, written_at, Writable, Parted, Placed}
use Rattle.write.specs.declared.put.WritePos.{WritePos}
use Rattle.judge.proofs.Codes.{leaf_kind, fixed_range, raw_range, sized_range}
use Rattle.write.proofs.Numbers.{LeafIs, blob_is, wide_is, narrow_is}
use Rattle.judge.proofs.Standing.{spot, head, at_end, from_end, from_in, length_told, inside}
use Rattle.write.proofs.Putting.{reads_whole, all_put, right_kind}
use Rattle.write.proofs.Unlimited.{no_limit}

-- a number of few bytes is one of eight
eight : (w x : ℕ) → w ≤ 8 → x < 256 ^ w → x < 256 ^ 8
eight w x h l = lt_of_lt_of_le l (pow-le-pow_right (omega arith) h)

no_bytes : (x : ℕ) → le 0 x ≡ []
unfolding le
no_bytes x = refl

one_byte : (x : Bool) → (bit x < 256) × (le 1 (bit x) ≡ bit x ∷ [])
unfolding bit le
one_byte true = (omega arith, refl)
one_byte false = (omega arith, refl)

module _ (table store : List ℕ) (code at from : ℕ) where
  -- what a leaf is, by its record
  pub record Leaf (v : Value) (b : List ℕ) : Type 0 where
    pub kept : leaf_kept code (value_record_at table at).size ≡ payload_of v
    pub long : leaf_size code (value_record_at table at).size ≡ length b
    pub bytes : leaf_bytes store code (value_record_at table at).size (value_record_at table at).content from ≡ b
    pub one : records_of v ≡ 1

  leaf_from : (v : Value) (b c : List ℕ) (k n : ℕ) → LeafIs store code (value_record_at table at).size (value_record_at table at).content from k n c → c ≡ b → n ≡ length c → k ≡ payload_of v → records_of v ≡ 1 → Leaf v b
  leaf_from v b c k n l e m p o = record { kept = l.kept ∙ p; long = l.long ∙ m ∙ ap length e; bytes = l.bytes_are ∙ e; one = o }

module _ (sch : List ℕ) (i : ℕ) (table store : List ℕ) (short : length table ≤ 4294967295) (code : ℕ) (is : code ≡ (node_at sch i).code) (at from : ℕ) {d tag : ℕ} {z : table_of.Spot} where
  pub leaf_stored : (v : Value) (b : List ℕ) → Reads table store d tag (spot at from) v z → code < 15 → value_kind v ≡ kind_for code (form code) → write sch unlimited v i at ≡ Put b → Leaf table store code at from v b
  unfolding value_kind Fits records_of payload_of tally width_of write fitting pick content_of head_of payload_bytes
  leaf_stored nothing b r l e w =
      let f = nothing_taken code e in
      let c : [] ≡ b = let g : Put [] ≡ Put b = rw (← is, eq-eqb _ _ e) at w in cc in
      leaf_from table store code at from nothing b (le 0 _) 0 0 (narrow_is _ _ _ _ _ 0 (omega (arith, e, leaf_kind code l)) (rw f) (omega arith)) (no_bytes _ ∙ c) (sym (length-le 0 _)) refl refl
  leaf_stored (boolean x) b r l e w =
      let f = boolean_taken code e in
      let c : bit x ∷ [] ≡ b = let g : Put (bit x ∷ []) ≡ Put b = rw (← is, eq-eqb _ _ e) at w in cc in
      let s : (value_record_at table at).content ≡ bit x = content_is table at (head_of (boolean x) tag from) (head table store short r) (omega (arith, (one_byte x).0)) in
      leaf_from table store code at from (boolean x) b (le 1 _) 0 1 (narrow_is _ _ _ _ _ 1 (omega (arith, e, leaf_kind code l)) (rw f) (omega arith)) (rw s ((one_byte x).1 ∙ c)) (sym (length-le 1 _)) refl refl
  leaf_stored (number k x) b r l e w =
      let q : code ≡ k = leaf_kind code l ∙ sym e in
      let f : form code ≡ fixed r.fits.0 = ap form q ∙ r.fits.1.0 in
      let g = fixed_range code _ f in
      let s : (value_record_at table at).content ≡ x = content_is table at (head_of (number k x) tag from) (head table store short r) (eight r.fits.0 x g.1 r.fits.1.1) in
      let c : le (width_of (form code)) x ≡ b = let h : Put (le (width_of (form code)) x) ≡ Put b = rw (← is, eq-eqb _ _ e) at w in cc in
      leaf_from table store code at from (number k x) b (le (width_of (form code)) _) 0 (width_of (form code)) (narrow_is _ _ _ _ _ _ (omega (arith, g.0)) refl (rw f g.1)) (rw s c) (sym (length-le _ _)) refl refl
  leaf_stored (wide k x) b r l e w =
      let q : code ≡ k = leaf_kind code l ∙ sym e in
      let f : form code ≡ raw (length x) = ap form q ∙ r.fits in
      let g = raw_range code _ f in
      let c : x ≡ b = let h : Put x ≡ Put b = rw (← is, eq-eqb _ _ e) at w in cc in
      let s : part store from (length x) ≡ x = stands_part store from x r.span.payload_stands in
      leaf_from table store code at from (wide k x) b (part store from (length x)) (length x) (length x) (wide_is _ _ _ _ _ _ (omega (arith, g.0)) (rw f) g.1) (s ∙ c) (rw s) (omega arith) (omega arith)
  leaf_stored (blob k x) b r l e w =
      let q : code ≡ k = leaf_kind code l ∙ sym e in
      let g = sized_range k r.fits.0 in
      let c : le 4 (length x) ++ x ≡ b = let h : Put (le 4 (length x) ++ x) ≡ Put b = rw (← is, eq-eqb _ _ e, no_limit k, le-leb (length x) 4294967295 (omega (arith, r.fits.1))) at w in cc in
      let s : part store from (length x) ≡ x = stands_part store from x r.span.payload_stands in
      let m : (value_record_at table at).size ≡ length x = length_told table store short r in
      leaf_from table store code at from (blob k x) b _ _ _ (blob_is _ _ _ _ _ (omega (arith, q, g.0))) (rw (m, s) c) (simp (length-append, length-le) (rw (m, s))) (rw m (omega arith)) (omega arith)
  leaf_stored (variant t v) b r l e w = absurd (omega (arith, e, leaf_kind code l))
  leaf_stored (repeated is) b r l e w = absurd (omega (arith, e, leaf_kind code l))
  leaf_stored (tuple vs) b r l e w = absurd (omega (arith, e, leaf_kind code l))

-- ---- the node step, in the code's numbers

module _ (sch : List ℕ) (i depth : ℕ) (table store : List ℕ) (p : WritePos) (room : ℕ) (k : Writable sch i depth table store p room) (v : ValueRecord) (m : v ≡ value_record_at table p.at) (code : ℕ) (is : code ≡ (node_at sch i).code) where
  short : length table ≤ 4294967295
  short = omega (arith, k.short)

  pub parted_node : 15 ≤ code → Parted sch i code table p v.size
  parted_node l = record { is = is; compound = l; count = ap (λ (u : ValueRecord). u.size) m }

  module _ (l : code < 15) where
    the_leaf : Leaf table store code p.at p.from (whole_value (value_standing_at table store depth p.at p.from)) (put_of (written_at sch i depth table store p.at p.from))
    the_leaf = leaf_stored sch i table store short code is p.at p.from _ _ (reads_whole sch i depth table store p room k) l (rw is (right_kind sch i depth table store p room k)) (all_put sch i depth table store p room k)

    kept_is : leaf_kept code v.size ≡ payload_of (whole_value (value_standing_at table store depth p.at p.from))
    kept_is = ap (λ (u : ValueRecord). leaf_kept code u.size) m ∙ the_leaf.kept

    size_is : leaf_size code v.size ≡ length (put_of (written_at sch i depth table store p.at p.from))
    size_is = ap (λ (u : ValueRecord). leaf_size code u.size) m ∙ the_leaf.long

    pub leaf_room : (code < 15) × (p.at + 1 < 2 ^ 64) × (p.from + leaf_kept code v.size ≤ length store) × (p.to + leaf_size code v.size ≤ room)
    leaf_room =
        let w = reads_whole sch i depth table store p room k in
        (l, omega (arith, inside table store short w, k.short), omega (arith, kept_is, from_end table store short w, from_in table store short w), omega (arith, size_is, k.fits))

    pub leaf_placed : (q : WritePos) (out out' : List ℕ) → q ≡ record { at = p.at + 1; from = p.from + leaf_kept code v.size; to = p.to + leaf_size code v.size } →
        out' ≡ over out p.to (leaf_bytes store code v.size v.content p.from) → Placed sch i depth table store p q out out'
    leaf_placed q out out' e f =
        let w = reads_whole sch i depth table store p room k in
        record {
          at_end = ap (λ (u : WritePos). u.at) e ∙ omega (arith, the_leaf.one, at_end table store short w);
          from_end = ap (λ (u : WritePos). u.from) e ∙ omega (arith, kept_is, from_end table store short w);
          to_end = ap (λ (u : WritePos). u.to) e ∙ omega (arith, size_is);
          bytes = f ∙ ap (over out p.to) (ap (λ (u : ValueRecord). leaf_bytes store code u.size u.content p.from) m ∙ the_leaf.bytes);
        }
