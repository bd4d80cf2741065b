-- From one spot of a value table to another, over records and payload bytes that stand there.
-- Assumes nothing.
use Prim.Native.Nat.{ℕ, ◌+◌, ◌≤◌}
use mathlib.Core.Path.{◌≡◌}
use mathlib.Core.List.{List, [], ◌∷◌, ◌++◌}
use native.Mathlib.Omega.{arith}
use lib.ListN.{length, length-append}
use Rattle.rules.specs.Bytes.{Stands}
use Rattle.rules.specs.ValueTable.{Spot, next}
use Rattle.rules.specs.declared.table_record.ValueRecord.{ValueRecord}
use Rattle.rules.proofs.Stands.{stands_in, stands_left, stands_right, stands_both}
use Rattle.value_laws.proofs.Records.{RecordIs, Shows, shows_left, shows_right, shows_both}

module _ (table store : List ℕ) where
  -- records and payload bytes that reach from p to q
  pub record Span (p q : Spot) (rows : List ValueRecord) (payload : List ℕ) : Type 0 where
    pub rows_stand : Shows table p.at rows
    pub payload_stands : Stands store p.from payload
    pub at_end : q.at ≡ p.at + length rows
    pub from_end : q.from ≡ p.from + length payload

  -- two spans, one after the other, are one
  pub join : {p q r : Spot} (a b : List ValueRecord) (x y : List ℕ) → Span p q a x → Span q r b y → Span p r (a ++ b) (x ++ y)
  join {p} {q} {r} a b x y s t = record {
    rows_stand = shows_both table p.at a b s.rows_stand (rw (← s.at_end) t.rows_stand);
    payload_stands = stands_both store p.from x y s.payload_stands (rw (← s.from_end) t.payload_stands);
    at_end = rw (length-append a b) (omega (arith, s.at_end, t.at_end));
    from_end = rw (length-append x y) (omega (arith, s.from_end, t.from_end));
  }

  -- n records and m payload bytes further
  abbrev pub onward : ℕ → ℕ → Spot → Spot
  onward n m p = record { at = p.at + n; from = p.from + m }

  -- the first part of a span
  pub left : {p r : Spot} (a b : List ValueRecord) (x y : List ℕ) (n m : ℕ) → length a ≡ n → length x ≡ m → Span p r (a ++ b) (x ++ y) → Span p (onward n m p) a x
  left {p} {r} a b x y n m l k s = record {
    rows_stand = shows_left table p.at a b s.rows_stand;
    payload_stands = stands_left store p.from x y s.payload_stands;
    at_end = rw l;
    from_end = rw k;
  }

  -- and the second part
  pub right : {p r : Spot} (a b : List ValueRecord) (x y : List ℕ) (n m : ℕ) → length a ≡ n → length x ≡ m → Span p r (a ++ b) (x ++ y) → Span (onward n m p) r b y
  right {p} {r} a b x y n m l k s = record {
    rows_stand = rw l at (shows_right table p.at a b s.rows_stand);
    payload_stands = rw k at (stands_right store p.from x y s.payload_stands);
    at_end = omega (arith, rw (length-append a b) at s.at_end);
    from_end = omega (arith, rw (length-append x y) at s.from_end);
  }

  -- a record, and what reaches on from the next one
  pub record_and : {p q : Spot} (r : ValueRecord) (rows : List ValueRecord) (payload : List ℕ) → RecordIs table p.at r → Span (next table store p) q rows payload → Span p q (r ∷ rows) payload
  unfolding Shows
  record_and r rows payload h s = record { rows_stand = (h, s.rows_stand); payload_stands = s.payload_stands; at_end = omega (arith, s.at_end); from_end = s.from_end }

  -- and apart again
  pub the_record : {p q : Spot} (r : ValueRecord) (rows : List ValueRecord) (payload : List ℕ) → Span p q (r ∷ rows) payload → RecordIs table p.at r
  unfolding Shows
  the_record r rows payload s = s.rows_stand.0

  pub rest_span : {p q : Spot} (r : ValueRecord) (rows : List ValueRecord) (payload : List ℕ) → Span p q (r ∷ rows) payload → Span (next table store p) q rows payload
  unfolding Shows
  rest_span r rows payload s = record { rows_stand = s.rows_stand.1; payload_stands = s.payload_stands; at_end = omega (arith, s.at_end); from_end = s.from_end }

  -- payload bytes alone
  pub payload_span : (p : Spot) (n : ℕ) (payload : List ℕ) → length payload ≡ n → Stands store p.from payload → Span p (record { at = p.at; from = p.from + n }) [] payload
  unfolding Shows
  payload_span p n payload e h = record { rows_stand = tt; payload_stands = h; at_end = omega arith; from_end = rw e }

  -- nothing reaches from a spot to itself
  pub no_span : (p : Spot) → p.from ≤ length store → Span p p [] []
  unfolding Shows Stands
  no_span p l = record { rows_stand = tt; payload_stands = l; at_end = omega arith; from_end = omega arith }

  -- a span ends in the store
  pub span_in : {p q : Spot} {a : List ValueRecord} {x : List ℕ} → Span p q a x → q.from ≤ length store
  span_in {p} {q} {a} {x} s = omega (arith, stands_in store p.from x s.payload_stands, s.from_end)

  -- a spot is its two numbers
  pub same_spot : {p q : Spot} → q.at ≡ p.at → q.from ≡ p.from → q ≡ p
  same_spot a b = λ i. record { at = a i; from = b i }

  -- a span over payload bytes alone ends past them
  pub lands : {p q : Spot} (n : ℕ) (payload : List ℕ) → length payload ≡ n → Span p q [] payload → q ≡ record { at = p.at; from = p.from + n }
  lands {p} {q} n payload e s = same_spot {p = record { at = p.at; from = p.from + n }} (omega (arith, s.at_end)) (omega (arith, s.from_end))

  -- a span over nothing ends where it begins
  pub lands_here : {p q : Spot} → Span p q [] [] → q ≡ p
  lands_here {p} {q} s = same_spot (omega (arith, s.at_end)) (omega (arith, s.from_end))
