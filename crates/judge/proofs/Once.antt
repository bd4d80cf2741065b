-- A variant with a leaf below it, judged at once: the one turn of the children step.
-- Assumes nothing.
use Rattle.rules.specs.declared.refusal.Refusal.{Refusal}
use Rattle.std.proofs.Common.{Result, Option, Ok, Some}
use Rattle.std.specs.Result.{result_ok}
use Prim.Native.Nat.{ℕ, ◌+◌, ◌-◌, ◌^◌, ◌≤◌, ◌<◌}
use mathlib.Core.Path.{◌≡◌, refl, sym, ap, ◌∙◌}
use mathlib.Core.Bool.{true}
use mathlib.Core.List.{List}
use native.Mathlib.Omega.{arith}
use native.Mathlib.Nat.{add-zero}
use lib.ListN.{length}
use Rattle.rules.specs.Block.{node_at}
use Rattle.rules.proofs.Checks.{value_in}
use Rattle.rules.specs.ValueRecord.{value_record_at, ValueRecordIn}
use Rattle.rules.specs.declared.table_record.ValueRecord.{ValueRecord}
use Rattle.rules.specs.Walk.{Limits}
use Rattle.leaves.specs.Shapes.{shape_of}
use Rattle.read.specs.Ready.{HasNode}
use Rattle.leaves.proofs.Codes.{shape_variant}
use Rattle.judge.specs.Table.{whole_end, value_standing_at}
use Rattle.judge.specs.Judging.{judge_pos, leaf_of, chosen_of, count_ok, closing_bytes, Judgeable, Opened, judged_at}
use Rattle.judge.specs.declared.walk.JudgePos.{JudgePos}
use Rattle.judge.proofs.Codes.{leaf_kind, uncounted}
use Rattle.judge.proofs.Standing.{kind_told}
use Rattle.judge.proofs.Kids.{one_child}
use Rattle.judge.proofs.Going.{variant_kind, Going, whole_reads, is_size, begins, bounds, ends_there, there, asks, narrow, child, goes_on_lem}
use Rattle.judge.proofs.Leaves.{leaf_bounds, leaf_answer}

-- what is said at once is said in the end
pub fits_on : (p q : JudgePos) → ◌≡◌ {A = Option JudgePos} (Some p) (Some q) → ◌≡◌ {A = Result JudgePos Refusal} (Ok p) (Ok q)
fits_on p q e = let h : p ≡ q = cc in ap Ok h

module _ (sch : List ℕ) (lim : Limits) (i depth : ℕ) (table store : List ℕ) (p : JudgePos) (k : Judgeable sch i depth table store p) (code size : ℕ) (o : Opened sch i code table p size) (l : code ≤ 16) (first count : ℕ) (the-first : first ≡ (node_at sch i).first) (the-count : count ≡ (node_at sch i).children) where
  one : size ≡ 1
  one =
      let w = whole_reads sch i table store depth p k in
      is_size sch lim i table store depth p k code size o ∙ one_child _ w.fits (sym (kind_told table store (omega (arith, k.short)) w) ∙ o.kind ∙ variant_kind code o.compound (omega arith))

  counts : true ≡ count_ok (shape_of code) size count
  counts = uncounted code size count (omega arith)

  first_turn : Going sch lim i table store (shape_of code) (depth - 1) size (whole_end (value_standing_at table store depth p.at p.from)) (judged_at sch lim i depth table store p) (judge_pos (p.at + 1) p.from p.bytes) 0
  first_turn = begins sch lim i depth table store p k code size o first count the-first the-count true counts refl

  some : 0 < size
  some = omega (arith, one)

  pub below_there : ValueRecordIn (p.at + 1) (length table)
  below_there = there sch lim i depth table store p k code size o first count the-first the-count true counts refl first_turn some

  pub below_asks : length sch < 2 ^ 64 → (14 < code) × (code ≤ 19) × (first + count < 2 ^ 64) × (first + 0 < 2 ^ 64)
  below_asks = asks sch lim i depth table store p k code size o first count the-first the-count true counts refl first_turn some

  module _ (v : ValueRecord) (m : v ≡ value_record_at table (p.at + 1)) (pk : Result (ℕ × ℕ) Refusal) (e : pk ≡ chosen_of code first count (shape_of code) 0 v.tag (p.at + 1)) (chosen : Option (ℕ × ℕ)) (taken : chosen ≡ result_ok pk) (x w : ℕ) (was : chosen ≡ Some (x, w)) where
    f : pk ≡ Ok (x, w)
    f = value_in pk (x, w) (sym taken ∙ was)

    may : Judgeable sch x (depth - 1) table store (judge_pos (p.at + 1) p.from (p.bytes + w))
    may = child sch lim i depth table store p k code size o first count the-first the-count true counts refl first_turn some v m pk e x w f

    pub below_in : HasNode sch x
    below_in = may.inside

    pub few_bytes_on : p.bytes + w < 2 ^ 64
    few_bytes_on = omega (arith, bounds sch lim i depth table store p k code size o first count the-first the-count true counts refl first_turn, narrow sch lim i depth table store p k code size o first count the-first the-count true counts refl first_turn some v m pk e x w f)

    pub below_bounds : (v.size < 2 ^ 32) × ((p.at + 1 < 2 ^ 32) × ((p.from < 2 ^ 32) × (p.bytes + w < 2 ^ 40)))
    below_bounds = leaf_bounds sch x (depth - 1) table store (judge_pos (p.at + 1) p.from (p.bytes + w)) may v m

    pub judged_once : (leaf : ℕ) → leaf ≡ (node_at sch x).code → leaf < 15 → v.kind ≡ leaf → (a : Result JudgePos Refusal) → a ≡ leaf_of lim leaf v.size (judge_pos (p.at + 1) p.from (p.bytes + w)) → (q : JudgePos) → a ≡ Ok q → Ok q ≡ judged_at sch lim i depth table store p
    unfolding closing_bytes
    judged_once leaf is h kind a y q fit =
        let n = leaf_answer sch x (depth - 1) table store (judge_pos (p.at + 1) p.from (p.bytes + w)) may v m leaf is leaf (leaf_kind leaf h) lim kind h in
        let g = goes_on_lem sch lim i depth table store p k code size o first count the-first the-count true counts refl first_turn some v m pk e x w f a (y ∙ n) q fit in
        let z : q.bytes + 0 ≡ q.bytes = add-zero q.bytes in
        rw z at (ends_there sch lim i depth table store p k code size o first count the-first the-count true counts refl g 0 (rw (shape_variant code (omega arith))) (omega (arith, one)))
