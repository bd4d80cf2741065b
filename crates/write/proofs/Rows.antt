-- A row: judged, given room, written, is what the rule of writing answers and leaves.
-- Assumes nothing.
use Rattle.std.proofs.Common.{Result, Ok, Err}
use Prim.Native.Nat.{ℕ, ◌+◌, ◌-◌, ◌≤◌, ◌<◌, min}
use mathlib.Core.Path.{◌≡◌, refl, sym, ap, ◌∙◌}
use mathlib.Core.Bool.{Bool, true, false}
use mathlib.Core.List.{List}
use native.Mathlib.Omega.{arith}
use borrow.Author.Tests.{leb-true, le-leb, lt-leb}
use lib.Dec.{leb}
use lib.ListN.{length}
use Rattle.rules.specs.Choice.{pick}
use Rattle.rules.specs.Bytes.{over}
use Rattle.rules.specs.Value.{records_of, payload_of}
use Rattle.rules.specs.ValueTable.{tag_at, table_value}
use Rattle.rules.specs.Reading as reading
use Rattle.rules.specs.Reading.{limits}
use Rattle.rules.specs.Refusals.{NoOutputRoom}
use Rattle.rules.specs.Writing.{Put, write_row, Encoded, unwritten, placed}
use Rattle.rules.specs.declared.refusal.Refusal.{Refusal}
use Rattle.rules.specs.declared.settings.Settings.{Settings}
use Rattle.rules.specs.declared.answer.Extent.{Extent}
use Rattle.value_laws.proofs.Parse.{Reads}
use Rattle.judge.specs.Table.{whole_value, whole_end, value_standing_at}
use Rattle.judge.specs.Judging.{RowJudgeable, judged_row}
use Rattle.write.specs.Putting.{IsPut, put_of, unlimited, RowWritable, row_bytes}
use Rattle.write.specs.Row.{output_room_for, placed_row}
use Rattle.judge.specs.declared.walk.JudgePos.{JudgePos}
use Rattle.judge.proofs.Standing.{spot, stands, at_end, from_end}
use Rattle.judge.proofs.Going.{Putting, judged_fits, judged_refused}
use Rattle.judge.proofs.Root.{table_stands}
use Rattle.write.proofs.Unlimited.{row_free}

-- ---- the test of the room

module _ (at room r : ℕ) (e : Extent) (is : r ≡ room) (in_room : at ≤ room) where
  pub no_room : r - at < e.bytes → Err (NoOutputRoom e.bytes at) ≡ output_room_for at room e
  unfolding output_room_for pick
  no_room h = rw (lt-leb (at + e.bytes) room (omega (arith, is, in_room, h)))

  pub has_room : e.bytes ≤ r - at → Ok e ≡ output_room_for at room e
  unfolding output_room_for pick
  has_room h = rw (le-leb (at + e.bytes) room (omega (arith, is, in_room, h)))

module _ (e : Extent) (o out : List ℕ) (r : Refusal) where
  none_put : (t : Bool) (x : Refusal) → pick {A = Result Extent Refusal} t (Ok e) (Err r) ≡ Err x → pick t (record { answer = Ok e; output = o }) (unwritten out r) ≡ unwritten out x
  unfolding pick
  none_put true x h = absurd (let z : ◌≡◌ {A = ℕ} 0 1 = cc in omega arith)
  none_put false x h = let q : r ≡ x = cc in ap (unwritten out) q

  some_put : (t : Bool) (y : Extent) → pick {A = Result Extent Refusal} t (Ok e) (Err r) ≡ Ok y → (t ≡ true) × (pick t (record { answer = Ok e; output = o }) (unwritten out r) ≡ record { answer = Ok y; output = o })
  unfolding pick
  some_put true y h = (refl, ap (λ (a : Result Extent Refusal). record { answer = a; output = o }) h)
  some_put false y h = absurd (let z : ◌≡◌ {A = ℕ} 0 1 = cc in omega arith)

module _ (sch table store : List ℕ) (s : Settings) (k : RowJudgeable sch table store) where
  whole_stands : value_standing_at table store 64 0 0 ≡ table_value table store
  whole_stands = table_stands table store (omega (arith, k.short)) k.whole

  whole_reads : Reads table store 64 (tag_at table store 0) (spot 0 0) (whole_value (table_value table store)) (whole_end (table_value table store))
  whole_reads = rw whole_stands at (stands table store (omega (arith, k.short)) 64 0 0 (omega arith) (rw whole_stands k.whole))

  module _ (a : Result JudgePos Refusal) (e : a ≡ judged_row sch (limits s) table store) (out : List ℕ) (at : ℕ) where
    -- a refused row
    pub row_refused : (x : Refusal) → a ≡ Err x → (Err x ≡ (placed_row sch (limits s) table store out at).answer) × (out ≡ (placed_row sch (limits s) table store out at).output)
    unfolding placed_row placed judged_row
    row_refused x f = let w = judged_refused _ _ _ x (sym e ∙ f) in rw w (refl, refl)

    module _ (p : JudgePos) (f : a ≡ Ok p) where
      put : Putting 0 (whole_end (table_value table store)) (write_row sch (limits s) (whole_value (table_value table store))) p
      unfolding judged_row
      put = judged_fits _ _ _ p (sym e ∙ f)

      abbrev extent : Extent
      extent = record { table = 0; bytes = p.bytes; records = p.at; payload = p.from }

      is_extent : extent ≡ record { table = 0; bytes = length put.bytes; records = records_of (whole_value (table_value table store)); payload = payload_of (whole_value (table_value table store)) }
      is_extent =
          let n : p.bytes ≡ length put.bytes = omega (arith, ap (λ (u : JudgePos). u.bytes) put.ends) in
          let i : p.at ≡ records_of (whole_value (table_value table store)) = omega (arith, ap (λ (u : JudgePos). u.at) put.ends, at_end table store (omega (arith, k.short)) whole_reads) in
          let l : p.from ≡ payload_of (whole_value (table_value table store)) = omega (arith, ap (λ (u : JudgePos). u.from) put.ends, from_end table store (omega (arith, k.short)) whole_reads) in
          λ j. record { table = 0; bytes = n j; records = i j; payload = l j }

      written_row : placed_row sch (limits s) table store out at ≡ pick (leb (at + p.bytes) (min (length out) 4294967295)) (record { answer = Ok extent; output = over out at put.bytes }) (unwritten out (NoOutputRoom p.bytes at))
      unfolding placed_row placed reading.room
      written_row = rw put.is (sym (ap (λ (u : Extent). pick (leb (at + u.bytes) (min (length out) 4294967295)) (record { answer = Ok u; output = over out at put.bytes }) (unwritten out (NoOutputRoom u.bytes at))) is_extent))

      module _ (w : Result Extent Refusal) (g : w ≡ output_room_for at (min (length out) 4294967295) extent) where
        pub row_unplaced : (x : Refusal) → w ≡ Err x → (Err x ≡ (placed_row sch (limits s) table store out at).answer) × (out ≡ (placed_row sch (limits s) table store out at).output)
        unfolding output_room_for
        row_unplaced x h =
            let n = sym (written_row ∙ none_put extent (over out at put.bytes) out _ _ x (sym g ∙ h)) in
            (ap (λ (u : Encoded). u.answer) n, ap (λ (u : Encoded). u.output) n)

        module _ (y : Extent) (h : w ≡ Ok y) where
          there : (leb (at + p.bytes) (min (length out) 4294967295) ≡ true) × (placed_row sch (limits s) table store out at ≡ record { answer = Ok y; output = over out at put.bytes })
          unfolding output_room_for
          there = let t = some_put extent (over out at put.bytes) out _ _ y (sym g ∙ h) in (t.0, written_row ∙ t.1)

          pub row_answer : Ok y ≡ (placed_row sch (limits s) table store out at).answer
          row_answer = sym (ap (λ (u : Encoded). u.answer) there.1)

          free : write_row sch unlimited (whole_value (table_value table store)) ≡ Put put.bytes
          free = row_free sch (limits s) _ _ whole_reads.fits put.is

          bytes_are : row_bytes sch table store ≡ put.bytes
          unfolding row_bytes put_of
          bytes_are = rw free

          pub row_writable : RowWritable sch table store at (length out)
          unfolding IsPut
          row_writable = record { sound = k.sound; root = k.root; tuple = k.tuple; whole = k.whole; short = k.short; accepted = rw free tt; fits = omega (arith, ap length bytes_are, leb-true (at + p.bytes) (min (length out) 4294967295) there.0, ap (λ (u : JudgePos). u.bytes) put.ends) }

          pub row_left : (out' : List ℕ) → out' ≡ over out at (row_bytes sch table store) → out' ≡ (placed_row sch (limits s) table store out at).output
          row_left out' q = q ∙ ap (over out at) bytes_are ∙ sym (ap (λ (u : Encoded). u.output) there.1)
