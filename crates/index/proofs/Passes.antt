-- The second pass over a stream whose run came to its end: what holds at each turn, comparing or writing.
-- Assumes nothing.
use Rattle.rules.specs.declared.refusal.Refusal.{Refusal}
use Rattle.std.proofs.Common.{Result, Option, Ok, Some, None}
use Prim.Native.Nat.{ℕ, suc, ◌+◌, ◌-◌, ◌≤◌, ◌<◌}
use mathlib.Core.Path.{◌≡◌, refl, sym, ap, ◌∙◌}
use mathlib.Core.Bool.{Bool, true, false, not}
use mathlib.Core.Logic.{◌⊎◌, inl, inr}
use mathlib.Core.List.{List, [], ◌∷◌, ◌++◌, append-nil}
use native.Mathlib.Omega.{arith}
use borrow.Author.Tests.{eq-eqb, eqb-true, not-true, not-false}
use lib.ListN.{length, take, drop, length-drop, drop_of_length-le}
use lib.Seq.{length-take-le, take-add}
use Rattle.rules.specs.Choice.{pick}
use Rattle.rules.specs.Bytes.{Bytes, part, Stands, over, order, is_equal}
use Rattle.rules.specs.Format.{Format}
use Rattle.rules.specs.Reading.{limits, row_at, skipped, run_rule, row_count, byte_count}
use Rattle.rules.specs.Index.{index_record_start, index_record, indexed_at, index_of, is_index_of, IndexRecordIn}
use Rattle.rules.specs.declared.settings.Settings.{Settings}
use Rattle.rules.specs.declared.answer.Extent.{Extent}
use Rattle.rules.specs.declared.answer.RowSpan.{RowSpan}
use Rattle.rules.proofs.Orders.{is_equal_lem, order_same, order_equal}
use Rattle.rules.proofs.Over.{over_none, over-at, length_over}
use Rattle.rules.proofs.Stands.{stands_left, stands_right, stands_both, stands_part, part-stands}
use Rattle.rules.proofs.Tests.{and_both, and_true, false_not}
use Rattle.row.specs.Steps.{ThroughDoor}
use Rattle.index_laws.proofs.Records.{length_record, stands_read, read_stands, length-index, index_append}
use Rattle.index_laws.proofs.Ended.{rows, Opened, Empty, opened, Passing, passing_first, passing_left, passing_inside, passing_opened}
use Rattle.index_laws.proofs.Next.{span, one_taken, one_dropped, bytes_append, none_left, some_left, never_other, Next, next}
use Rattle.index.specs.Passes.{compared_with, same_span}

-- rows are the same just if their numbers are
pub same_is : (a b : RowSpan) → same_span a b ≡ true → a ≡ b
unfolding same_span
same_is a b e =
    let p = and_both _ _ e in
    let q = and_both _ _ p.0 in
    let x : a.offset ≡ b.offset = eqb-true a.offset b.offset q.0 in
    let y : a.size ≡ b.size = eqb-true a.size b.size q.1 in
    let z : a.table ≡ b.table = eqb-true a.table b.table p.1 in
    let w : ◌≡◌ {A = RowSpan} (record { offset = a.offset; size = a.size; table = a.table }) (record { offset = b.offset; size = b.size; table = b.table }) = rw (x, y, z) in
    w

pub is_same : (a : RowSpan) → same_span a a ≡ true
unfolding same_span
is_same a = and_true _ _ (and_true _ _ (eq-eqb a.offset a.offset refl) (eq-eqb a.size a.size refl)) (eq-eqb a.table a.table refl)

-- what is not told the same is another row
pub not_same : (a b x : RowSpan) (t : Bool) → not t ≡ true → t ≡ same_span a b → a ≡ x → x ≡ b → ⊥
not_same a b x t n e p q = let z : same_span a b ≡ true = rw (p ∙ q) (is_same b) in false_not (sym (not-true t n) ∙ (e ∙ z))

pub told_same : (a b x : RowSpan) (t : Bool) → not t ≡ false → t ≡ same_span a b → a ≡ x → x ≡ b
told_same a b x t n e p = sym p ∙ same_is a b (sym e ∙ not-false t n)

module _ (f : Format) (s : Settings) (inp : List ℕ) where
  abbrev whole : List RowSpan
  whole = rows f s inp

  -- the first i records are those of the first rows
  pub record Comparing (index : List ℕ) (count at i : ℕ) : Type 0 where
    pub passing : Passing f s inp at i
    pub few : i ≤ count
    pub stands : Stands index 0 (index_of (take i whole))

  pub comparing_first : (index : List ℕ) (count : ℕ) → Comparing index count 0 0
  unfolding index_of Stands
  comparing_first index count = record { passing = passing_first f s inp; few = omega arith; stands = omega arith }

  -- the records from row i on are still to be written
  pub record Writing (index₀ : List ℕ) (first : ℕ) (index : List ℕ) (at i : ℕ) : Type 0 where
    pub passing : Passing f s inp at i
    pub same : length index ≡ length index₀
    pub is : over index (index_record_start i) (index_of (drop i whole)) ≡ over index₀ (index_record_start first) (index_of (drop first whole))

  pub writing_first : (index₀ : List ℕ) (first start : ℕ) → first ≤ row_count whole → start ≡ byte_count (take first whole) → Writing index₀ first index₀ start first
  writing_first index₀ first start h e = record { passing = record { few = h; begins = e }; same = refl; is = refl }

  module _ (bs : Bytes inp) (end : (run_rule f s inp).stop ≡ Ok tt) where
    -- ---- one turn of either pass, where a byte or a row is left
    module _ (at i : ℕ) (p : Passing f s inp at i) (some : (at < length inp) ⊎ (i < row_count whole)) where
      open_here : Opened f s inp
      open_here = passing_opened f s inp bs at i p end some

      pub asked : ThroughDoor f inp s × (at ≤ length inp)
      asked =
          let m = open_here.may in
          (record { accepted = m.format; settings = m.settings; short = omega (arith, m.short) }, passing_inside f s inp bs at i p open_here)

      byte_left : at < length inp
      unfolding row_count
      byte_left = by some
        where
          by : (at < length inp) ⊎ (i < row_count whole) → at < length inp
          by (inl l) = l
          by (inr l) = some_left f inp (limits s) bs at (drop i whole) (passing_left f s inp bs at i p open_here) (passing_inside f s inp bs at i p open_here) (omega (arith, length-drop i whole))

      module _ (read : Result (Option Extent) Refusal) (is : read ≡ skipped at (row_at f inp (limits s) at)) where
        -- a row is read
        pub reads_row : ((e : Extent) → read ≡ Ok (Some e) → ⊥) → ⊥
        reads_row = never_other f inp (limits s) bs at (drop i whole) (passing_left f s inp bs at i p open_here) (passing_inside f s inp bs at i p open_here) byte_left read is

        module _ (e : Extent) (row : read ≡ Ok (Some e)) where
          abbrev Turn : Type 0
          Turn = Next f inp (limits s) bs at (drop i whole) (passing_left f s inp bs at i p open_here) (passing_inside f s inp bs at i p open_here) byte_left read is e

          turn : Turn
          turn = next f inp (limits s) bs at (drop i whole) (passing_left f s inp bs at i p open_here) (passing_inside f s inp bs at i p open_here) byte_left read is e row

          -- which goes on inside the stream
          pub turn_goes : (2 ≤ e.bytes) × (at + e.bytes ≤ length inp)
          turn_goes = (turn.some, turn.inside)

          pub turn_short : length inp ≤ 4294967295
          turn_short = open_here.may.short

          -- one row more
          row_there : i < row_count whole
          unfolding row_count
          row_there = let z : length (drop i whole) ≡ suc (length turn.after) = ap (λ (x : List RowSpan). length x) turn.first in omega (arith, z, length-drop i whole)

          pub row_left : i + 1 ≤ row_count whole
          row_left = omega (arith, row_there)

          pub passing_on : Passing f s inp (at + e.bytes) (i + 1)
          unfolding byte_count
          passing_on =
              let t = one_taken whole i (span at e) turn.after turn.first in
              let b : byte_count (take i whole ++ (span at e ∷ [])) ≡ byte_count (take i whole) + (e.bytes + 0) = bytes_append (take i whole) (span at e ∷ []) in
              record { few = row_left; begins = rw t (omega (arith, b, p.begins)) }

    -- ---- comparing

    module _ (index : List ℕ) (count : ℕ) (known : Bytes index) (many : count ≤ row_count whole) (room : index_record_start count ≤ length index) where
      -- so many bytes before record i
      before : (i : ℕ) → i ≤ row_count whole → length (index_of (take i whole)) ≡ index_record_start i
      unfolding row_count
      before i h = length-index (take i whole) ∙ ap (λ (n : ℕ). index_record_start n) (length-take-le i whole h)

      -- all records stand there, and the rows end so far
      pub compared_same : (at i : ℕ) → Comparing index count at i → count ≤ i → Some at ≡ compared_with whole count index
      unfolding compared_with is_index_of is_equal pick
      compared_same at i c l =
          let z : i ≡ count = omega (arith, c.few) in
          let st : Stands index 0 (index_of (take count whole)) = rw z at c.stands in
          let n = before count many in
          let q : part index 0 (index_record_start count) ≡ index_of (take count whole) = rw n at (stands_part index 0 (index_of (take count whole)) st) in
          let b : at ≡ byte_count (take count whole) = rw z at c.passing.begins in
          rw (q, order_same (index_of (take count whole)), b)

      module _ (at i : ℕ) (c : Comparing index count at i) (l : i < count) (read : Result (Option Extent) Refusal) (is : read ≡ skipped at (row_at f inp (limits s) at)) where
        pub some_row : (at < length inp) ⊎ (i < row_count whole)
        some_row = inr (omega arith)

        module _ (e : Extent) (row : read ≡ Ok (Some e)) where
          abbrev here : Next f inp (limits s) bs at (drop i whole) (passing_left f s inp bs at i c.passing (open_here at i c.passing some_row)) (passing_inside f s inp bs at i c.passing (open_here at i c.passing some_row)) (byte_left at i c.passing some_row) read is e
          here = turn at i c.passing some_row read is e row

          pub comparing_on : indexed_at index i ≡ span at e → Comparing index count (at + e.bytes) (i + 1)
          unfolding index_of
          comparing_on q =
              let t = one_taken whole i (span at e) here.after here.first in
              let r = read_stands index i known (omega arith) (span at e) q in
              let n : 0 + length (index_of (take i whole)) ≡ index_record_start i = omega (arith, before i (omega arith)) in
              let st = stands_both index 0 (index_of (take i whole)) (index_record (span at e)) c.stands (rw n r) in
              record {
                passing = passing_on at i c.passing some_row read is e row;
                few = omega arith;
                stands = rw (t, index_append (take i whole) (span at e ∷ []), append-nil (index_record (span at e))) st;
              }

          -- a record that is another row's: they are not the first rows' records
          pub compared_other : (indexed_at index i ≡ span at e → ⊥) → None ≡ compared_with whole count index
          unfolding compared_with is_index_of pick index_of
          compared_other differs = by (is_equal (order (part index 0 (index_record_start count)) (index_of (take count whole)))) refl
            where
              by : (b : Bool) → is_equal (order (part index 0 (index_record_start count)) (index_of (take count whole))) ≡ b → None ≡ pick b (Some (byte_count (take count whole))) None
              by false q = refl
              by true q =
                  let k : part index 0 (index_record_start count) ≡ index_of (take count whole) = order_equal _ _ (is_equal_lem _ q) in
                  let st : Stands index 0 (index_of (take count whole)) = rw k at (part-stands index 0 (index_record_start count) (omega arith)) in
                  let z : count ≡ i + suc (count - (i + 1)) = omega arith in
                  let t : take count whole ≡ take i whole ++ (span at e ∷ take (count - (i + 1)) here.after) =
                  ap (λ (n : ℕ). take n whole) z ∙ (take-add i (suc (count - (i + 1))) whole ∙ rw here.first) in
                  let st' : Stands index 0 (index_of (take i whole) ++ (index_record (span at e) ++ index_of (take (count - (i + 1)) here.after))) =
                  rw (t, index_append (take i whole) (span at e ∷ take (count - (i + 1)) here.after)) at st in
                  let r = stands_right index 0 (index_of (take i whole)) (index_record (span at e) ++ index_of (take (count - (i + 1)) here.after)) st' in
                  let n = before i (omega arith) in
                  let y : 0 + length (index_of (take i whole)) ≡ index_record_start i = omega (arith, n) in
                  let u = stands_left index (index_record_start i) (index_record (span at e)) (index_of (take (count - (i + 1)) here.after)) (rw y at r) in
                  absurd (differs (stands_read index i (span at e) (here.fits (turn_short at i c.passing some_row read is e row)) u))

    -- ---- writing

    module _ (index₀ : List ℕ) (first : ℕ) where
      -- no byte is left, and no row
      pub written : (index : List ℕ) (at i : ℕ) → Writing index₀ first index at i → length inp ≤ at → index ≡ over index₀ (index_record_start first) (index_of (drop first whole))
      unfolding index_of
      written index at i w l =
          let z : drop i whole ≡ [] = by (opened f s inp bs end) in
          sym (over_none index (index_record_start i)) ∙ rw z at w.is
        where
          by : Opened f s inp ⊎ Empty f s inp → drop i whole ≡ []
          by (inl o) = none_left f inp (limits s) bs at (drop i whole) (passing_left f s inp bs at i w.passing o) (passing_inside f s inp bs at i w.passing o) l
          by (inr n) = drop_of_length-le whole {i = i} (let z : length whole ≡ 0 = ap (λ (x : List RowSpan). length x) n.no_rows in omega (arith, z))

      module _ (index : List ℕ) (at i : ℕ) (w : Writing index₀ first index at i) (l : at < length inp) (read : Result (Option Extent) Refusal) (is : read ≡ skipped at (row_at f inp (limits s) at)) (e : Extent) (row : read ≡ Ok (Some e)) where
        pub record_room_lem : index_record_start (row_count whole) ≤ length index₀ → IndexRecordIn i (length index)
        record_room_lem room = let r = row_left at i w.passing (inl l) read is e row in omega (arith, r, w.same)

        pub writing_on : (index' : List ℕ) → index' ≡ over index (index_record_start i) (index_record (span at e)) → Writing index₀ first index' (at + e.bytes) (i + 1)
        unfolding index_of
        writing_on index' q =
            let t = turn at i w.passing (inl l) read is e row in
            let d = one_dropped whole i (span at e) t.after t.first in
            let y : index_record_start (i + 1) ≡ index_record_start i + length (index_record (span at e)) = omega (arith, length_record (span at e)) in
            record {
              passing = passing_on at i w.passing (inl l) read is e row;
              same = rw (q, length_over (index_record (span at e)) index (index_record_start i)) w.same;
              is = rw (q, d, over-at (index_record (span at e)) (index_of t.after) index (index_record_start i) (index_record_start (i + 1)) y) (rw t.first at w.is);
            }
