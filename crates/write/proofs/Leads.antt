-- What a node that is to be put comes to at once: itself, where it is a leaf, or the leaf below it, where it is a variant that has one.
-- Assumes nothing.
use Rattle.std.proofs.Common.{Option, Some, None}
use Prim.Native.Nat.{ℕ, ◌+◌, ◌-◌, ◌^◌, ◌≤◌, ◌<◌}
use mathlib.Core.Path.{◌≡◌, refl, sym, ap, subst, ◌∙◌}
use mathlib.Core.List.{List}
use native.Mathlib.Omega.{arith}
use native.Mathlib.Nat.{add-zero}
use lib.ListN.{length}
use Rattle.rules.specs.Bytes.{over}
use Rattle.rules.specs.Wire.{form}
use Rattle.rules.specs.Block.{node_at}
use Rattle.rules.specs.ValueRecord.{value_record_at, ValueRecordIn}
use Rattle.rules.specs.Writing.{kind_for}
use Rattle.rules.specs.declared.table_record.ValueRecord.{ValueRecord}
use Rattle.rules.proofs.Over.{length_over, over_none}
use Rattle.leaves.specs.Shapes.{shape_of}
use Rattle.read.specs.Ready.{HasNode}
use Rattle.judge.specs.Table.{whole_end, value_standing_at}
use Rattle.judge.specs.Tags.{tag_bytes}
use Rattle.write.specs.Putting.{child_node, leaf_kept, leaf_size, leaf_bytes, put_of, written_at, Writable, Parted, Placed}
use Rattle.write.specs.Leads.{Left, LeadsToPut}
use Rattle.write.specs.declared.put.WritePos.{WritePos}
use Rattle.write.proofs.Codes.{no_end}
use Rattle.judge.proofs.Kids.{one_child}
use Rattle.judge.proofs.Going.{variant_kind}
use Rattle.write.proofs.Putting.{Filling, reads_whole, right_kind, is_size, fill_first, placed, record_there_lem, sums, tag_room, may_write, fill_next}
use Rattle.write.proofs.Stored.{parted_node, leaf_room, leaf_placed}

module _ (sch : List ℕ) (i depth : ℕ) (table store : List ℕ) (p : WritePos) (out : List ℕ) (k : Writable sch i depth table store p (length out)) (own : ValueRecord) (m : own ≡ value_record_at table p.at) (code : ℕ) (is : code ≡ (node_at sch i).code) where
  pub leads_self : code < 15 → LeadsToPut sch i depth table store p out out (Some (code, own.size, own.content, p))
  unfolding LeadsToPut
  leads_self l = record {
    node = i;
    level = depth;
    is = is;
    leaf = l;
    has_size = ap (λ (u : ValueRecord). u.size) m;
    has_content = ap (λ (u : ValueRecord). u.content) m;
    may = k;
    places = λ r o x. x;
  }

  pub leads_on : 15 ≤ code → LeadsToPut sch i depth table store p out out None
  unfolding LeadsToPut
  leads_on l = (omega (arith, is), refl)

  -- a variant, whose child is the one turn of the children step
  module _ (l : 15 ≤ code) (h : code ≤ 16) where
    parts : Parted sch i code table p own.size
    parts = parted_node sch i depth table store p (length out) k own m code is l

    first_turn : Filling sch i table store (shape_of code) (depth - 1) own.size (whole_end (value_standing_at table store depth p.at p.from)) p.to (put_of (written_at sch i depth table store p.at p.from)) out out (record { at = p.at + 1; from = p.from; to = p.to }) 0
    first_turn = fill_first sch i depth table store p (length out) k code own.size parts out

    one : own.size ≡ 1
    one = is_size sch i depth table store p (length out) k code own.size parts ∙ one_child _ (reads_whole sch i depth table store p (length out) k).fits (right_kind sch i depth table store p (length out) k ∙ sym (sym (variant_kind code l (omega arith)) ∙ ap (λ (x : ℕ). kind_for x (form x)) is))

    some : 0 < own.size
    some = omega (arith, one)

    pub below_in : ValueRecordIn (p.at + 1) (length table)
    below_in = record_there_lem sch i depth table store p (length out) k code own.size parts (node_at sch i).first refl refl first_turn some

    module _ (v : ValueRecord) (n : v ≡ value_record_at table (p.at + 1)) (first : ℕ) (f : first ≡ (node_at sch i).first) where
      pub child_sums : length sch < 2 ^ 64 → (first + 0 < 2 ^ 64) × (first + v.tag < 2 ^ 64)
      child_sums = sums sch i depth table store p (length out) k code own.size parts first f refl first_turn some v n

      pub tag_in : p.to + length (tag_bytes (shape_of code) v.tag) ≤ length out
      tag_in = tag_room sch i depth table store p (length out) k code own.size parts first f refl first_turn some v n

      module _ (c : ℕ) (x : c ≡ child_node (shape_of code) first 0 v.tag) where
        pub child_in : HasNode sch c
        child_in = (may_write sch i depth table store p (length out) k code own.size parts first f refl first_turn some v n c _ x refl (length out) refl).inside

        pub leads_child : (leaf : ℕ) → leaf ≡ (node_at sch c).code → leaf < 15 → (to : ℕ) (out' : List ℕ) → to ≡ p.to + length (tag_bytes (shape_of code) v.tag) → out' ≡ over out p.to (tag_bytes (shape_of code) v.tag) →
            LeadsToPut sch i depth table store p out out' (Some (leaf, v.size, v.content, (record { at = p.at + 1; from = p.from; to = to })))
        unfolding LeadsToPut
        leads_child leaf e b to out' y a = record {
          node = c;
          level = depth - 1;
          is = e;
          leaf = b;
          has_size = ap (λ (u : ValueRecord). u.size) n;
          has_content = ap (λ (u : ValueRecord). u.content) n;
          may = may_write sch i depth table store p (length out) k code own.size parts first f refl first_turn some v n c to x y (length out') (ap length a ∙ length_over _ _ _);
          places = λ r out'' w. placed sch i depth table store p (length out) k code own.size parts first f refl (fill_next sch i depth table store p (length out) k code own.size parts first f refl first_turn some v n c to x y out' out'' r a w) (omega (arith, one)) r.to out'' (rw (no_end code (omega arith)) (sym (add-zero r.to))) (rw (no_end code (omega arith)) (sym (over_none out'' r.to)));
        }

-- ---- what the caller learns

module _ (sch : List ℕ) (i depth : ℕ) (table store : List ℕ) (p : WritePos) (out out' : List ℕ) (a : Option (ℕ × ℕ × ℕ × WritePos)) (l : LeadsToPut sch i depth table store p out out' a) where
  -- a leaf has room, and where it is put all is
  module _ (code size content : ℕ) (q : WritePos) (e : a ≡ Some (code, size, content, q)) where
    left : Left sch i depth table store p out out' code size content q
    unfolding LeadsToPut
    left = subst (λ (y : Option (ℕ × ℕ × ℕ × WritePos)). LeadsToPut sch i depth table store p out out' y) e l

    pub reached_room : (code < 15) × (q.at + 1 < 2 ^ 64) × (q.from + leaf_kept code size ≤ length store) × (q.to + leaf_size code size ≤ length out')
    reached_room = rw left.has_size (leaf_room sch left.node left.level table store q (length out') left.may (value_record_at table q.at) refl code left.is left.leaf)

    pub reached_places : (r : WritePos) (out'' : List ℕ) → r ≡ record { at = q.at + 1; from = q.from + leaf_kept code size; to = q.to + leaf_size code size } →
        out'' ≡ over out' q.to (leaf_bytes store code size content q.from) → Placed sch i depth table store p r out out''
    reached_places r out'' f g =
        left.places r out''
        (leaf_placed sch left.node left.level table store q (length out') left.may (value_record_at table q.at) refl code left.is left.leaf r out' out'' (rw (← left.has_size) f) (rw (← left.has_size, ← left.has_content) g))

  pub reached_children : a ≡ None → (14 < (node_at sch i).code) × (out' ≡ out)
  unfolding LeadsToPut
  reached_children e = subst (λ (y : Option (ℕ × ℕ × ℕ × WritePos)). LeadsToPut sch i depth table store p out out' y) e l
