-- A flat row: what one loop over its columns says is what the check of the table and the walk that judges say.
-- Assumes nothing.
use Rattle.rules.specs.declared.refusal.Refusal.{Refusal}
use Rattle.std.proofs.Common.{Result, Option, Ok, Err, Some}
use Rattle.std.specs.Result.{result_ok}
use Prim.Native.Nat.{ℕ, ◌+◌, ◌-◌, ◌*◌, ◌^◌, ◌≤◌, ◌<◌}
use mathlib.Core.Path.{◌≡◌, refl, sym, ap, subst, ◌∙◌}
use mathlib.Core.Bool.{Bool, true, false}
use mathlib.Core.List.{List}
use native.Mathlib.Omega.{arith}
use native.Mathlib.Nat.{add-zero, sub-zero}
use borrow.Author.Tests.{eq-eqb, le-ltb}
use lib.Dec.{ltb, leb}
use lib.ListN.{length}
use Rattle.rules.specs.Choice.{pick}
use Rattle.rules.specs.Bytes.{Bytes}
use Rattle.rules.specs.Wire.{form, width_of}
use Rattle.rules.specs.Block.{node_at, Closed}
use Rattle.rules.specs.Walk.{Limits, blob_limit}
use Rattle.rules.specs.Refusals.{BlobTooLarge}
use Rattle.rules.specs.Value.{Value}
use Rattle.rules.specs.ValueRecord.{value_records_in, whole_value_records, value_record_at, ValueRecordIn}
use Rattle.rules.specs.ValueTable.{Parsed, Whole, Broken, table_value}
use Rattle.rules.specs.ValueCheck.{form_checked, table_form}
use Rattle.rules.specs.Writing.{kind_for}
use Rattle.rules.specs.declared.table_record.ValueRecord.{ValueRecord}
use Rattle.rules.proofs.Checks.{refused_not, value_in}
use Rattle.leaves.specs.Fields.{payload_of_fixed}
use Rattle.leaves.specs.Shapes.{as_tuple, shape_of}
use Rattle.read.specs.Ready.{HasNode}
use Rattle.leaves.proofs.Codes.{form_tuple, shape_variant, shape_tuple}
use Rattle.value.specs.Records.{value_record_ok}
use Rattle.value.specs.Walk.{walk_children, walk_table}
use Rattle.value.specs.declared.TablePos.{TablePos}
use Rattle.value.proofs.Fields.{record_in}
use Rattle.value.proofs.Walks.{children_none, children_on, children_one, walk_scalar, scalar_ends, walk_parent, walk_variant}
use Rattle.value.proofs.Tables.{form_whole}
use Rattle.judge.specs.Table.{IsWhole, whole_end, value_standing_at}
use Rattle.judge.specs.Judging.{judge_pos, leaf_of, chosen_of, count_ok, closing_bytes, Judgeable, Opened, judged_at, RowJudgeable, judged_row}
use Rattle.judge.specs.Flat.{table_pos, Flat, Seen, OnlyLeaf, LeadsToLeaf, RowFlat, RowSeen}
use Rattle.judge.specs.declared.walk.JudgePos.{JudgePos}
use Rattle.judge.proofs.Codes.{leaf_kind, widest}
use Rattle.judge.proofs.Going.{variant_kind, Choice, choice, tag_of, Going, begins, ends_there, child, goes_on_lem}
use Rattle.judge.proofs.Leaves.{leaf_answer}
use Rattle.judge.proofs.Once.{judged_once}
use Rattle.judge.proofs.Root.{table_stands, row_judged}

-- what a leaf takes: a record, and few bytes beside its payload
leaf_takes : (lim : Limits) (code size : ℕ) (q r : JudgePos) → Ok r ≡ leaf_of lim code size q → (r.at ≡ q.at + 1) × (r.bytes + q.from ≤ q.bytes + 32 + r.from)
unfolding leaf_of
leaf_takes lim code size q r e = by (ltb code 13) (leb size (blob_limit lim code)) e
  where
    at_is : (p : JudgePos) → ◌≡◌ {A = Result JudgePos Refusal} (Ok r) (Ok p) → r ≡ p
    at_is p f = (cc)

    by : (a b : Bool) →
        Ok r ≡ pick a (Ok (judge_pos (q.at + 1) (q.from + payload_of_fixed (width_of (form code))) (q.bytes + width_of (form code))))
        (pick b (Ok (judge_pos (q.at + 1) (q.from + size) (q.bytes + (4 + size)))) (Err (BlobTooLarge code size (blob_limit lim code) q.at))) →
        (r.at ≡ q.at + 1) × (r.bytes + q.from ≤ q.bytes + 32 + r.from)
    by true b f =
        let g = at_is (judge_pos (q.at + 1) (q.from + payload_of_fixed (width_of (form code))) (q.bytes + width_of (form code))) (unfold pick in f) in
        (ap (λ (u : JudgePos). u.at) g, omega (arith, ap (λ (u : JudgePos). u.bytes) g, ap (λ (u : JudgePos). u.from) g, widest code))
    by false true f =
        let g = at_is (judge_pos (q.at + 1) (q.from + size) (q.bytes + (4 + size))) (unfold pick in f) in
        (ap (λ (u : JudgePos). u.at) g, omega (arith, ap (λ (u : JudgePos). u.bytes) g, ap (λ (u : JudgePos). u.from) g))
    by false false f = absurd (let z : ◌≡◌ {A = ℕ} 0 1 = unfold pick in cc in omega arith)

-- ---- a column

module _ (sch : List ℕ) (i : ℕ) (table store : List ℕ) (p : JudgePos) (k : Flat sch i table store p) (here : ValueRecordIn p.at (length table)) where
  -- where its value stands it may be judged
  may : IsWhole (value_standing_at table store 63 p.at p.from) → Judgeable sch i 63 table store p
  may w = record { sound = k.sound; inside = k.inside; whole = w; short = k.short; small = k.small; within = k.within; few = k.few }

  in_table : p.at < value_records_in (length table)
  in_table = omega (arith, here)

  -- a leaf itself
  pub only_self : (code : ℕ) → code ≡ (node_at sch i).code → code < 15 → OnlyLeaf sch i table store p code false p
  only_self code is l = record {
    leaf = l;
    there = here;
    within = k.within;
    few = omega (arith, k.few, here, k.short, k.within, k.small);
    ends = λ lim r ok kind fit from.
        let v = value_record_at table p.at in
        let t = leaf_takes lim code v.size p r fit in
        let z = scalar_ends table (length store) 63 false (table_pos p) (λ z. omega (arith, z)) _ refl in_table v refl true (sym ok) refl (omega (arith, kind, l)) k.within in
        let at : ◌≡◌ {A = Option TablePos} (Some (table_pos r)) (Some (record { at = p.at + 1; from = p.from + v.size })) = λ j. (Some (record { at = t.0 j; from = from j })) in
        record {
          walks = at ∙ walk_scalar table (length store) 63 false (table_pos p) (λ z. omega (arith, z)) _ refl in_table v refl true (sym ok) refl (omega (arith, kind, l));
          judges = λ w. fit ∙ leaf_answer sch i 63 table store p (may w) v refl code is code (leaf_kind code l) lim kind l;
          within = omega (arith, from, z);
          grows = omega (arith, t);
        };
  }

  -- a variant whose tag names one
  module _ (code : ℕ) (is : code ≡ (node_at sch i).code) (l : 15 ≤ code) (h : code ≤ 16) (own : ValueRecord) (m : own ≡ value_record_at table p.at) (kind : own.kind ≡ 15) (b : Bool) (ok : b ≡ value_record_ok own false p.from (length store)) (yes : b ≡ true) where
    module _ (all : ℕ) (all_is : all ≡ value_records_in (length table)) (more : p.at + 1 < all) (v : ValueRecord) (n : v ≡ value_record_at table (p.at + 1)) (first count : ℕ) (f : first ≡ (node_at sch i).first) (c : count ≡ (node_at sch i).children) where
      below-here : ValueRecordIn (p.at + 1) (length table)
      below-here = omega (arith, all_is, more)

      pub tag_asks : length sch < 2 ^ 64 → (14 < code) × (code ≤ 19) × (first + count < 2 ^ 64) × (first + 0 < 2 ^ 64)
      unfolding Closed
      tag_asks s = (l, omega arith, omega (arith, s, f, c, k.sound.closed i k.inside), omega (arith, s, f, c, k.sound.closed i k.inside))

      module _ (pk : Result (ℕ × ℕ) Refusal) (e : pk ≡ chosen_of code first count (shape_of code) 0 v.tag (p.at + 1)) (chosen : Option (ℕ × ℕ)) (taken : chosen ≡ result_ok pk) (x w : ℕ) (was : chosen ≡ Some (x, w)) where
        g : pk ≡ Ok (x, w)
        g = value_in pk (x, w) (sym taken ∙ was)

        chooses : Choice first count (shape_of code) v.tag x w
        chooses = choice code first count (shape_of code) 0 v.tag (p.at + 1) x w (λ t. absurd (not_tuple_lem t)) (sym e ∙ g)
          where
            not_tuple_lem : shape_of code ≡ as_tuple → ⊥
            not_tuple_lem t = let e' = sym (shape_variant code (omega arith)) ∙ t in let z : ◌≡◌ {A = ℕ} 0 1 = cc in omega arith

        narrow : w ≤ 32
        narrow = omega (arith, chooses.tag, tag_of (shape_of code) code v.tag refl)

        pub child_there : HasNode sch x
        unfolding Closed
        child_there = omega (arith, chooses.low, f, c, k.sound.closed i k.inside)

        pub few_more : p.bytes + w < 2 ^ 40
        few_more = omega (arith, narrow, k.few, here, k.short, k.within, k.small)

        pub only_below : (leaf : ℕ) → leaf ≡ (node_at sch x).code → leaf < 15 → OnlyLeaf sch i table store p leaf true (judge_pos (p.at + 1) p.from (p.bytes + w))
        only_below leaf at_leaf low = record {
          leaf = low;
          there = below-here;
          within = k.within;
          few = few_more;
          ends = λ lim r good kind' fit from.
              let u = value_record_at table (p.at + 1) in
              let t = leaf_takes lim leaf u.size (judge_pos (p.at + 1) p.from (p.bytes + w)) r fit in
              let below : TablePos = record { at = p.at + 1; from = p.from } in
              let z = scalar_ends table (length store) 62 true below (λ z. omega (arith, z)) _ refl (omega (arith, below-here)) u refl true (sym good) refl (omega (arith, kind', low)) k.within in
              let at : ◌≡◌ {A = Option TablePos} (Some (table_pos r)) (Some (record { at = p.at + 1 + 1; from = p.from + u.size })) = λ j. (Some (record { at = t.0 j; from = from j })) in
              record {
                walks = walk_variant table (length store) 63 false (table_pos p) (λ z. omega (arith, z)) _ refl in_table own m b ok yes kind (Some (table_pos r)) (table_pos r) (at ∙ walk_scalar table (length store) 62 true below (λ z. omega (arith, z)) _ refl (omega (arith, below-here)) u refl true (sym good) refl (omega (arith, kind', low))) refl;
                judges = λ whole. judged_once sch lim i 63 table store p (may whole) code own.size opened h first count f c v n pk e chosen taken x w was leaf at_leaf low (rw n kind') (Ok r) (fit ∙ rw n) r refl;
                within = omega (arith, from, z);
                grows = omega (arith, t, narrow);
              };
        }
          where
            opened : Opened sch i code table p own.size
            opened = record { is = is; compound = l; kind = sym (ap (λ (u : ValueRecord). u.kind) m) ∙ kind ∙ sym (variant_kind code l (omega arith)); count = ap (λ (u : ValueRecord). u.size) m }

-- the payload of a leaf that is right where it stands lies in the store
pub leaf_inside : (own : ValueRecord) (tagged : Bool) (from store code : ℕ) → code < 15 → from ≤ store → own.kind ≡ code → (b : Bool) → b ≡ value_record_ok own tagged from store → b ≡ true → from + own.size ≤ store
leaf_inside own tagged from store code l h k b ok good = record_in own tagged from store h (omega (arith, k, l)) (sym ok ∙ good)

-- what the caller learns
module _ (sch : List ℕ) (i : ℕ) (table store : List ℕ) (p : JudgePos) (a : Option (ℕ × Bool × JudgePos)) (l : LeadsToLeaf sch i table store p a) (code : ℕ) (tagged : Bool) (q : JudgePos) (e : a ≡ Some (code, tagged, q)) where
  pub reached_only : OnlyLeaf sch i table store p code tagged q
  unfolding LeadsToLeaf
  reached_only = subst (λ (y : Option (ℕ × Bool × JudgePos)). LeadsToLeaf sch i table store p y) e l

  pub column_seen : (own : ValueRecord) → own ≡ value_record_at table q.at → (lim : Limits) (r : JudgePos) →
      (value_record_ok own tagged q.from (length store) ≡ true) × (own.kind ≡ code) × (Ok r ≡ leaf_of lim code own.size q) × (r.from ≡ q.from + own.size) → Seen sch i table store lim p r
  column_seen own m lim r f =
      let g = subst (λ (u : ValueRecord). (value_record_ok u tagged q.from (length store) ≡ true) × (u.kind ≡ code) × (Ok r ≡ leaf_of lim code u.size q) × (r.from ≡ q.from + u.size)) m f in
      reached_only.ends lim r g.0 g.1 g.2 g.3

-- ---- a row

column_chosen : (first count j t r : ℕ) → Ok ((first + j), 0) ≡ chosen_of 19 first count (shape_of 19) j t r
unfolding chosen_of
column_chosen first count j t r = rw (shape_tuple 19 (omega arith))

root_kind : 17 ≡ kind_for 19 (form 19)
unfolding kind_for
root_kind = rw (form_tuple 19 (omega arith) (omega arith))

root_closes : 0 ≡ closing_bytes (shape_of 19)
unfolding closing_bytes
root_closes = rw (shape_tuple 19 (omega arith))

-- an accepted value table is whole
pub accepted_whole : (p : Parsed Value) → form_checked p ≡ Ok tt → IsWhole p
unfolding form_checked IsWhole
accepted_whole (Whole v q) e = tt
accepted_whole Broken e = refused_not _ e

-- after j columns: by the check of the table, and by the walk that judges
pub record Along (sch table store : List ℕ) (lim : Limits) (size : ℕ) (q : JudgePos) (j : ℕ) : Type 0 where
  pub walks : walk_children (walk_table table (length store) 63 false) (size - j) (table_pos q) ≡ walk_children (walk_table table (length store) 63 false) size (record { at = 1; from = 0 })
  pub judges : IsWhole (value_standing_at table store 64 0 0) → Going sch lim 0 table store (shape_of 19) (64 - 1) size (whole_end (value_standing_at table store 64 0 0)) (judged_at sch lim 0 64 table store (judge_pos 0 0 2)) q j
  pub within : q.from ≤ length store
  pub few : q.bytes ≤ 80 * q.at + q.from + 2

-- what is said of a row is said of the position where it ends
pub row_said_lem : (sch table store : List ℕ) (lim : Limits) (q₀ q : JudgePos) → Some q₀ ≡ Some q → RowSeen sch lim table store q₀ → RowSeen sch lim table store q
row_said_lem sch table store lim q₀ q e r = subst (λ (u : JudgePos). RowSeen sch lim table store u) (let h : q₀ ≡ q = cc in h) r

module _ (sch table store : List ℕ) (k : RowFlat sch table store) (lim : Limits) where
  root_may : IsWhole (value_standing_at table store 64 0 0) → Judgeable sch 0 64 table store (judge_pos 0 0 2)
  root_may w = record { sound = k.sound; inside = k.root; whole = w; short = k.short; small = k.small; within = omega arith; few = omega arith }

  module _ (v : ValueRecord) (m : v ≡ value_record_at table 0) (kind : v.kind ≡ 17) (first count : ℕ) (f : first ≡ (node_at sch 0).first) (c : count ≡ (node_at sch 0).children) (as_many : v.size ≡ count) where
    root_opened : Opened sch 0 19 table (judge_pos 0 0 2) count
    root_opened = record { is = sym k.tuple; compound = omega arith; kind = sym (ap (λ (u : ValueRecord). u.kind) m) ∙ kind ∙ root_kind; count = sym as_many ∙ ap (λ (u : ValueRecord). u.size) m }

    counts : true ≡ count_ok (shape_of 19) count count
    unfolding count_ok
    counts = rw (shape_tuple 19 (omega arith)) (sym (eq-eqb count count refl))

    pub along_first : Along sch table store lim count (judge_pos 1 0 2) 0
    along_first = record {
      walks = rw sub-zero;
      judges = λ w. begins sch lim 0 64 table store (judge_pos 0 0 2) (root_may w) 19 count root_opened first count f c true counts refl;
      within = omega arith;
      few = omega arith;
    }

    module _ {q : JudgePos} {j : ℕ} (a : Along sch table store lim count q j) where
      pub column_in : j < count → HasNode sch (first + j)
      unfolding Closed
      column_in h = omega (arith, h, f, c, k.sound.closed 0 k.root)

      pub column_flat : j < count → Flat sch (first + j) table store q
      column_flat h = record { sound = k.sound; inside = column_in h; short = k.short; small = k.small; within = a.within; few = a.few }

      pub along_next : j < count → (r : JudgePos) → Seen sch (first + j) table store lim q r → Along sch table store lim count r (j + 1)
      along_next h r s =
          let e : count - (j + 1) ≡ (count - j) - 1 = omega arith in
          let z : q.bytes + 0 ≡ q.bytes = add-zero q.bytes in
          record {
            walks = rw e (children_on (walk_table table (length store) 63 false) (count - j) (table_pos q) (table_pos r) (Some (table_pos r)) (omega arith) s.walks refl ∙ a.walks);
            judges = λ w.
                let g = a.judges w in
                let u = child sch lim 0 64 table store (judge_pos 0 0 2) (root_may w) 19 count root_opened first count f c true counts refl g h (value_record_at table q.at) refl (Ok ((first + j), 0)) (column_chosen first count j _ _) (first + j) 0 refl in
                goes_on_lem sch lim 0 64 table store (judge_pos 0 0 2) (root_may w) 19 count root_opened first count f c true counts refl g h (value_record_at table q.at) refl (Ok ((first + j), 0)) (column_chosen first count j _ _) (first + j) 0 refl (Ok r) (rw z (s.judges u.whole)) r refl;
            within = s.within;
            few = omega (arith, s.grows, a.few);
          }

      -- all of them, and nothing after them
      module _ (h : count ≤ j) (n : ℕ) (total : n ≡ value_records_in (length table)) (some : 0 < n) (b : Bool) (ok : b ≡ value_record_ok v false 0 (length store)) (yes : b ≡ true) (at_end : q.at ≡ n) (from_end : q.from ≡ length store) where
        walked_whole : Some (table_pos q) ≡ walk_table table (length store) 64 false (record { at = 0; from = 0 })
        walked_whole = walk_parent table (length store) 64 false (record { at = 0; from = 0 }) (λ z. omega (arith, z)) n total some v m b ok yes (omega (arith, kind)) (Some (table_pos q)) (rw (le-ltb v.kind 17 (omega (arith, kind)), as_many) (sym (children_none (walk_table table (length store) 63 false) (count - j) (table_pos q) (omega arith)) ∙ a.walks))

        pub row_seen : Bytes table → whole_value_records (length table) ≡ true → RowSeen sch lim table store q
        row_seen bytes ragged =
            let form = form_whole table store bytes (omega (arith, k.small)) n total true (sym ragged) refl (Some (table_pos q)) (walked_whole ∙ sym (children_one (walk_table table (length store) 64 false) (record { at = 0; from = 0 }))) (table_pos q) refl at_end from_end in
            record { form = form; row = says (accepted (sym form)) }
          where
            accepted : table_form table store ≡ Ok tt → IsWhole (table_value table store)
            accepted e = accepted_whole (table_value table store) (unfold table_form in e)

            says : IsWhole (table_value table store) → Ok q ≡ judged_row sch lim table store
            says w =
                let u : RowJudgeable sch table store = record { sound = k.sound; root = k.root; tuple = k.tuple; whole = w; short = k.short; small = k.small } in
                let t : IsWhole (value_standing_at table store 64 0 0) = rw (table_stands table store (omega (arith, k.short)) w) w in
                let z : q.bytes + 0 ≡ q.bytes = add-zero q.bytes in
                rw z at (ends_there sch lim 0 64 table store (judge_pos 0 0 2) (root_may t) 19 count root_opened first count f c true counts refl (a.judges t) 0 root_closes h) ∙ row_judged sch table store u lim
