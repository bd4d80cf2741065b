-- An accepted walk goes on, stays in the input, and keeps the bounds of its counts.
-- Assumes nothing.
use Rattle.std.proofs.Common.{Result, Ok, Err}
use Prim.Native.Nat.{ℕ, zero, suc, ◌+◌, ◌-◌, ◌≤◌, ◌<◌}
use mathlib.Core.Path.{◌≡◌, refl, sym, subst, ◌∙◌}
use mathlib.Core.Bool.{Bool, true, false}
use mathlib.Core.List.{List}
use native.Mathlib.Omega.{arith}
use borrow.Author.Tests.{leb-true}
use lib.Dec.{leb}
use lib.ListN.{length}
use Rattle.rules.specs.Choice.{pick}
use Rattle.rules.specs.Bytes.{le_at}
use Rattle.rules.specs.Wire.{Form, empty, truth, fixed, raw, sized, variant_form, repeated_form, tuple_form, unknown}
use Rattle.rules.specs.declared.refusal.Refusal.{Refusal}
use Rattle.rules.specs.Refusals.{Truncated, RowTooLarge}
use Rattle.leaves.specs.Budget.{leaving, spent}
use Rattle.leaves.specs.Fields.{read_number_at}
use Rattle.leaves.specs.Leaf.{standing, ◌>>=◌, reading, bytes_past, having, skim_charge, stored, skim_bytes, skim_blob}
use Rattle.read.specs.Skim.{counted, Skimmer, skim_child, skim_variant, skim_pairs, skim_fields, skim_form, skim_node, skim}
use Rattle.read.specs.Ready.{Ready}
use Rattle.leaves.specs.declared.leaf.SkipPos.{SkipPos}

-- from p to q: not back, records paid for, payload bytes passed
record Far (p q : SkipPos) : Type 0 where
  on : p.at ≤ q.at
  paid : q.records + q.budget.remaining ≤ p.records + p.budget.remaining
  bytes : q.payload + p.at ≤ p.payload + q.at

data Onward (inp : List ℕ) (p : SkipPos) : Result SkipPos Refusal → Type 0 where
  at : {q : SkipPos} → Far p q → q.at ≤ length inp → Onward inp p (Ok q)
  off : {r : Refusal} → Onward inp p (Err r)

-- a step that goes on wherever it starts
abbrev Goes : List ℕ → (SkipPos → Result SkipPos Refusal) → Type 0
Goes inp f = (p : SkipPos) → p.at ≤ length inp → Onward inp p (f p)

module _ (inp : List ℕ) where
  later : {p q : SkipPos} {s : Result SkipPos Refusal} → Far p q → Onward inp q s → Onward inp p s
  later f (at {q = r} g h) = at {q = r} (record { on = omega arith; paid = omega arith; bytes = omega arith }) h
  later f off = off

  stays : Goes inp Ok
  stays p h = at {q = p} (record { on = omega arith; paid = omega arith; bytes = omega arith }) h

  either : {p : SkipPos} {x y : Result SkipPos Refusal} (b : Bool) → Onward inp p x → Onward inp p y → Onward inp p (pick b x y)
  unfolding pick
  either true ox oy = ox
  either false ox oy = oy

  then : {p : SkipPos} {s : Result SkipPos Refusal} {k : SkipPos → Result SkipPos Refusal} → Onward inp p s → Goes inp k → Onward inp p (s >>= k)
  unfolding ◌>>=◌
  then (at {q = q} f h) g = later f (g q h)
  then off g = off

  reading_goes : (w context : ℕ) (p : SkipPos) (k : ℕ → SkipPos → Result SkipPos Refusal) → ((n : ℕ) → Goes inp (k n)) → p.at ≤ length inp → Onward inp p (reading (read_number_at inp w context p.at) p k)
  unfolding reading read_number_at pick
  reading_goes w context p k g h = go (leb w (length inp - p.at)) refl
    where
      next : SkipPos
      next = standing (p.at + w) p.budget p.records p.payload

      go : (b : Bool) → leb w (length inp - p.at) ≡ b → Onward inp p (reading (pick b (Ok ((le_at inp p.at w), (p.at + w))) (Err (Truncated context p.at))) p k)
      go true e =
          let l = leb-true w (length inp - p.at) e in
          later {q = next} (record { on = omega arith; paid = omega arith; bytes = omega arith }) (g (le_at inp p.at w) next (omega (arith, l)))
      go false e = off

  bytes_past_goes : (n context : ℕ) → Goes inp (bytes_past inp n context)
  unfolding bytes_past pick
  bytes_past_goes n context p h = go (leb n (length inp - p.at)) refl
    where
      go : (b : Bool) → leb n (length inp - p.at) ≡ b → Onward inp p (pick b (Ok (standing (p.at + n) p.budget p.records p.payload)) (Err (Truncated context p.at)))
      go true e = at {q = standing (p.at + n) p.budget p.records p.payload} (record { on = omega arith; paid = omega arith; bytes = omega arith }) (omega (arith, leb-true n (length inp - p.at) e))
      go false e = off

  -- bytes, all of them payload
  bytes_goes : (n context : ℕ) → Goes inp (skim_bytes inp n context n)
  unfolding skim_bytes bytes_past stored pick ◌>>=◌
  bytes_goes n context p h = go (leb n (length inp - p.at)) refl
    where
      go : (b : Bool) → leb n (length inp - p.at) ≡ b → Onward inp p (pick b (Ok (standing (p.at + n) p.budget p.records p.payload)) (Err (Truncated context p.at)) >>= (λ q. (Ok (stored n q))))
      go true e = at {q = standing (p.at + n) p.budget p.records (p.payload + n)} (record { on = omega arith; paid = omega arith; bytes = omega arith }) (omega (arith, leb-true n (length inp - p.at) e))
      go false e = off

  charged_goes : (cost place : ℕ) → Goes inp (skim_charge cost place)
  unfolding skim_charge having spent pick
  charged_goes cost place p h = go (leb cost p.budget.remaining) refl
    where
      go : (b : Bool) → leb cost p.budget.remaining ≡ b → Onward inp p (having p (pick b (Ok (leaving p.budget (p.budget.remaining - cost))) (Err (RowTooLarge p.budget.limit place))))
      go true e = at {q = standing p.at (leaving p.budget (p.budget.remaining - cost)) p.records p.payload} (record { on = omega arith; paid = omega arith; bytes = omega arith }) h
      go false e = off

  -- a node's charge pays for its record
  counted_goes : (cost place : ℕ) → 0 < cost → (k : SkipPos → Result SkipPos Refusal) → Goes inp k → Goes inp (λ p. skim_charge cost place p >>= (λ q. k (counted q)))
  unfolding skim_charge having spent counted pick ◌>>=◌
  counted_goes cost place c k g p h = go (leb cost p.budget.remaining) refl
    where
      next : SkipPos
      next = standing p.at (leaving p.budget (p.budget.remaining - cost)) (p.records + 1) p.payload

      go : (b : Bool) → leb cost p.budget.remaining ≡ b → Onward inp p (having p (pick b (Ok (leaving p.budget (p.budget.remaining - cost))) (Err (RowTooLarge p.budget.limit place))) >>= (λ q. k (counted q)))
      go true e =
          let l = leb-true cost p.budget.remaining e in
          later {q = next} (record { on = omega arith; paid = omega (arith, l); bytes = omega arith }) (g next h)
      go false e = off

  blob_goes : (code : ℕ) → Goes inp (skim_blob inp code)
  unfolding skim_blob
  blob_goes code p h = reading_goes 4 13 p _ (λ n q hq. either _ (then (charged_goes n p.at q hq) (bytes_goes n 14)) off) h

  module _ (rec : Skimmer) (go : (i : ℕ) → Goes inp (rec i)) where
    module _ (code first count : ℕ) where
      child_goes : (place tag : ℕ) → Goes inp (skim_child inp rec code first count place tag)
      unfolding skim_child
      child_goes place tag p h = either _ (go _ p h) off

      pairs_goes : (w enough : ℕ) → Goes inp (skim_pairs inp rec code first count w enough)
      unfolding skim_pairs
      pairs_goes w zero p h = off
      pairs_goes w (suc enough) p h = reading_goes w (14 + w) p _ (λ tag q hq. either _ (stays q hq) (then (child_goes p.at tag q hq) (pairs_goes w enough))) h

    fields_goes : (i count : ℕ) → Goes inp (skim_fields rec i count)
    unfolding skim_fields
    fields_goes i zero p h = stays p h
    fields_goes i (suc count) p h = then (go i p h) (fields_goes (i + 1) count)

    value_goes : (code first count : ℕ) (f : Form) → Goes inp (skim_form inp rec code first count f)
    unfolding skim_form skim_variant
    value_goes code first count empty p h = stays p h
    value_goes code first count truth p h = bytes_past_goes 1 code p h
    value_goes code first count (fixed w) p h = bytes_past_goes w code p h
    value_goes code first count (raw w) p h = bytes_goes w code p h
    value_goes code first count sized p h = blob_goes code p h
    value_goes code first count (variant_form w) p h = reading_goes w (14 + w) p _ (λ tag. child_goes code first count p.at tag) h
    value_goes code first count (repeated_form w) p h = pairs_goes code first count w (suc (length inp - p.at)) p h
    value_goes code first count tuple_form p h = fields_goes first count p h
    value_goes code first count unknown p h = off

  skim_goes : (sch : List ℕ) (charge : ℕ) → 0 < charge → (depth i : ℕ) → Goes inp (skim sch inp charge depth i)
  unfolding skim skim_node
  skim_goes sch charge c zero i p h = off
  skim_goes sch charge c (suc depth) i p h = counted_goes charge p.at c _ (value_goes (skim sch inp charge depth) (skim_goes sch charge c depth) _ _ _ _) p h

at_ready : {inp : List ℕ} {p q : SkipPos} (charge : ℕ) → Ready inp charge p → Onward inp p (Ok q) → (p.at ≤ q.at) × Ready inp charge q
at_ready charge r (at f h) = (f.on, record { stands = record { within = h; short = r.stands.short; passed = omega arith }; costs = r.costs; total = omega arith })

-- where an accepted child leaves off, the walk may stand
pub skim_at : (sch inp : List ℕ) (charge depth i : ℕ) (p q : SkipPos) (s : Result SkipPos Refusal) → s ≡ skim sch inp charge depth i p → s ≡ Ok q → Ready inp charge p → (p.at ≤ q.at) × Ready inp charge q
skim_at sch inp charge depth i p q s is e r = at_ready charge r (subst (λ (x : Result SkipPos Refusal). Onward inp p x) (sym is ∙ e) (skim_goes inp sch charge r.costs depth i p r.stands.within))
