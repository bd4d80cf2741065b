-- A row: the value of the whole table, at the block's root.
-- Assumes nothing.
use Prim.Native.Nat.{ℕ, ◌+◌, ◌≤◌}
use mathlib.Core.Path.{◌≡◌, refl, sym, ◌∙◌}
use mathlib.Core.Bool.{Bool, true, false}
use mathlib.Core.List.{List, ◌++◌}
use native.Mathlib.Omega.{arith}
use lib.Dec.{eqb}
use lib.ListN.{length, length-append}
use Rattle.rules.specs.Choice.{pick, ◌and◌}
use Rattle.rules.specs.Bytes.{le}
use Rattle.rules.specs.Value.{Value}
use Rattle.rules.specs.ValueRecord.{value_records_in, whole_value_records}
use Rattle.rules.specs.ValueTable as table_of
use Rattle.rules.specs.ValueTable.{head_of, Parsed, Whole, Broken, tag_at, value_at, if_whole_table, table_value}
use Rattle.rules.specs.Walk.{Limits}
use Rattle.rules.specs.Writing as rule
use Rattle.rules.specs.Writing.{Wrote, Put, ◌>>=◌, write, write_row}
use Rattle.rules.proofs.Stands.{length-le}
use Rattle.value_laws.proofs.Records.{tag_is}
use Rattle.value_laws.proofs.Parse.{Holds, holds, Reads, reads}
use Rattle.judge.specs.Table.{IsWhole, whole_value, whole_end, value_standing_at}
use Rattle.judge.specs.Judging.{judge_pos, judged, Judgeable, judged_at, RowJudgeable, judged_row}
use Rattle.judge.proofs.Standing.{spot, whole_is, head}

module _ (table store : List ℕ) (short : length table ≤ 4294967295) where
  -- what is read of a whole table is read from its first record on
  from_first : IsWhole (table_value table store) → table_value table store ≡ value_at table store 64 0 (spot 0 0)
  unfolding table_value
  from_first h = by (whole_value_records (length table)) (value_at table store 64 0 (spot 0 0)) h
    where
      by : (w : Bool) (x : Parsed Value) → IsWhole (pick w (if_whole_table table store x) Broken) → pick w (if_whole_table table store x) Broken ≡ x
      by false x g = absurd (unfold pick IsWhole in g)
      by true Broken g = absurd (unfold pick if_whole_table IsWhole in g)
      by true (Whole v q) g = unfold pick if_whole_table in ends (eqb q.at (value_records_in (length table)) and eqb q.from (length store)) (unfold pick if_whole_table in g)
        where
          ends : (b : Bool) → IsWhole (pick b (Whole v q) Broken) → pick b (Whole v q) Broken ≡ Whole v q
          ends true k = unfold pick in refl
          ends false k = absurd (unfold pick IsWhole in k)

  -- whose tag is 0
  first_tag : (v : Value) (q : table_of.Spot) → Holds (Reads table store 64 0 (spot 0 0)) (Whole v q) → tag_at table store 0 ≡ 0
  unfolding head_of
  first_tag v q (holds r) = tag_is table 0 (head_of v 0 0) (head table store short r) (omega arith)

  pub table_stands : IsWhole (table_value table store) → value_standing_at table store 64 0 0 ≡ table_value table store
  unfolding value_standing_at
  table_stands h =
      let e = from_first h in
      let t : tag_at table store 0 ≡ 0 = first_tag _ _ (rw (sym e ∙ whole_is (table_value table store) h) at (reads table store 64 0 (spot 0 0) (omega arith))) in
      rw t (sym e)

-- the table's tag is two bytes more
tagged_row : (z : table_of.Spot) (y : Wrote) → judged 2 z y ≡ judged 0 z (y >>= (λ x. Put (le 2 0 ++ x)))
unfolding judged ◌>>=◌
tagged_row z (Put b) = let n : 0 + length (le 2 0 ++ b) ≡ 2 + length b = simp (length-append, length-le) (omega arith) in rw n
tagged_row z (rule.Refused r) = refl

module _ (sch table store : List ℕ) (k : RowJudgeable sch table store) where
  pub root_judgeable : Judgeable sch 0 64 table store (judge_pos 0 0 2)
  root_judgeable = record { sound = k.sound; inside = k.root; whole = rw (table_stands table store (omega (arith, k.short)) k.whole) k.whole; short = k.short; small = k.small; within = omega arith; few = omega arith }

  pub row_judged : (lim : Limits) → judged_at sch lim 0 64 table store (judge_pos 0 0 2) ≡ judged_row sch lim table store
  unfolding judged_at judged_row write_row
  row_judged lim = rw (table_stands table store (omega (arith, k.short)) k.whole) (tagged_row (whole_end (table_value table store)) (write sch lim (whole_value (table_value table store)) 0 0))
