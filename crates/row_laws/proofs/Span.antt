-- Steps of the walk: from one position to another, over some bytes, at some toll.
-- Assumes nothing.
use Prim.Native.Nat.{ℕ, zero, suc, ◌+◌, ◌-◌, ◌≤◌, ◌<◌, max}
use mathlib.Core.Path.{◌≡◌, refl, ap, ◌∙◌}
use mathlib.Core.List.{List, ◌++◌}
use native.Mathlib.Omega.{arith}
use lib.ListN.{length, length-append}
use Rattle.rules.specs.Bytes.{Stands}
use Rattle.rules.specs.Schema.{Schema, count, child}
use Rattle.rules.specs.Block.{trees_from}
use Rattle.rules.specs.Value.{Value, nothing, boolean, number, wide, blob, variant, repeated, tuple, Items, done, item, Values, none, more, tally, tally_i, tally_v, Within, WithinI, WithinV}
use Rattle.rules.specs.Walk.{Limits, blob_limit, Pos}
use Rattle.rules.proofs.Stands.{stands_in, stands_left, stands_right, stands_both}

-- by how much the longest blob is over its limit
unfoldable mutual
  pub excess : Limits → Value → ℕ
  excess lim nothing = 0
  excess lim (boolean x) = 0
  excess lim (number k x) = 0
  excess lim (wide k x) = 0
  excess lim (blob k x) = length x - blob_limit lim k
  excess lim (variant t v) = excess lim v
  excess lim (repeated is) = excess_i lim is
  excess lim (tuple vs) = excess_v lim vs

  pub excess_i : Limits → Items → ℕ
  excess_i lim done = 0
  excess_i lim (item t v is) = max (excess lim v) (excess_i lim is)

  pub excess_v : Limits → Values → ℕ
  excess_v lim none = 0
  excess_v lim (more v vs) = max (excess lim v) (excess_v lim vs)

mutual
  unfolding excess Within

  pub within_excess : (lim : Limits) (v : Value) → Within (blob_limit lim) v → excess lim v ≤ 0
  within_excess lim nothing h = omega arith
  within_excess lim (boolean x) h = omega arith
  within_excess lim (number k x) h = omega arith
  within_excess lim (wide k x) h = omega arith
  within_excess lim (blob k x) h = omega arith
  within_excess lim (variant t v) h = within_excess lim v h
  within_excess lim (repeated is) h = within_excess_i lim is h
  within_excess lim (tuple vs) h = within_excess_v lim vs h

  within_excess_i : (lim : Limits) (is : Items) → WithinI (blob_limit lim) is → excess_i lim is ≤ 0
  within_excess_i lim done h = omega arith
  within_excess_i lim (item t v is) h = omega (arith, within_excess lim v h.0, within_excess_i lim is h.1)

  within_excess_v : (lim : Limits) (vs : Values) → WithinV (blob_limit lim) vs → excess_v lim vs ≤ 0
  within_excess_v lim none h = omega arith
  within_excess_v lim (more v vs) h = omega (arith, within_excess lim v h.0, within_excess_v lim vs h.1)

mutual
  unfolding excess Within

  pub excess_within : (lim : Limits) (v : Value) → excess lim v ≤ 0 → Within (blob_limit lim) v
  excess_within lim nothing h = tt
  excess_within lim (boolean x) h = tt
  excess_within lim (number k x) h = tt
  excess_within lim (wide k x) h = tt
  excess_within lim (blob k x) h = omega arith
  excess_within lim (variant t v) h = excess_within lim v h
  excess_within lim (repeated is) h = excess_within_i lim is h
  excess_within lim (tuple vs) h = excess_within_v lim vs h

  excess_within_i : (lim : Limits) (is : Items) → excess_i lim is ≤ 0 → WithinI (blob_limit lim) is
  excess_within_i lim done h = tt
  excess_within_i lim (item t v is) h = (excess_within lim v (omega arith), excess_within_i lim is (omega arith))

  excess_within_v : (lim : Limits) (vs : Values) → excess_v lim vs ≤ 0 → WithinV (blob_limit lim) vs
  excess_within_v lim none h = tt
  excess_within_v lim (more v vs) h = (excess_within lim v (omega arith), excess_within_v lim vs (omega arith))

-- off the allowance, records, payload bytes, and by how much some blob is too over
pub record Toll : Type 0 where
  pub cost : ℕ
  pub records : ℕ
  pub payload : ℕ
  pub over : ℕ

abbrev pub free : Toll
free = record { cost = 0; records = 0; payload = 0; over = 0 }

-- a payload of n bytes
abbrev pub load : ℕ → Toll
load n = record { cost = 0; records = 0; payload = n; over = 0 }

-- the charge for a blob of n bytes under a wire code
abbrev pub fee : Limits → ℕ → ℕ → Toll
fee lim code n = record { cost = n; records = 0; payload = 0; over = n - blob_limit lim code }

-- a node
abbrev pub mark : Limits → Toll
mark lim = record { cost = lim.charge; records = 1; payload = 0; over = 0 }

abbrev pub toll_v : Limits → Value → Toll
toll_v lim v = record { cost = tally v lim.charge 0 1; records = tally v 1 0 0; payload = tally v 0 1 1; over = excess lim v }

abbrev pub toll_i : Limits → Items → Toll
toll_i lim v = record { cost = tally_i v lim.charge 0 1; records = tally_i v 1 0 0; payload = tally_i v 0 1 1; over = excess_i lim v }

abbrev pub toll_f : Limits → Values → Toll
toll_f lim v = record { cost = tally_v v lim.charge 0 1; records = tally_v v 1 0 0; payload = tally_v v 0 1 1; over = excess_v lim v }

pub record Sum (t a b : Toll) : Type 0 where
  pub cost : t.cost ≡ a.cost + b.cost
  pub records : t.records ≡ a.records + b.records
  pub payload : t.payload ≡ a.payload + b.payload
  pub over : t.over ≡ max a.over b.over

pub record Even (t u : Toll) : Type 0 where
  pub cost : t.cost ≡ u.cost
  pub records : t.records ≡ u.records
  pub payload : t.payload ≡ u.payload
  pub over : t.over ≡ u.over

pub pos_eq : (p q : Pos) → p.at ≡ q.at → p.left ≡ q.left → p.records ≡ q.records → p.payload ≡ q.payload → p ≡ q
pos_eq p q a b c d =
    ap (λ (x : ℕ). record { at = x; left = p.left; records = p.records; payload = p.payload }) a
    ∙ ap (λ (x : ℕ). record { at = q.at; left = x; records = p.records; payload = p.payload }) b
    ∙ ap (λ (x : ℕ). record { at = q.at; left = q.left; records = x; payload = p.payload }) c
    ∙ ap (λ (x : ℕ). record { at = q.at; left = q.left; records = q.records; payload = x }) d

module _ (inp : List ℕ) (lim : Limits) where
  pub record Span (p q : Pos) (b : List ℕ) (t : Toll) : Type 0 where
    pub stands : Stands inp p.at b
    pub at : q.at ≡ p.at + length b
    pub left : q.left + t.cost ≡ p.left
    pub records : q.records ≡ p.records + t.records
    pub payload : q.payload ≡ p.payload + t.payload
    pub within : t.over ≤ 0

  pub in_end : {p q : Pos} {b : List ℕ} {t : Toll} → Span p q b t → q.at ≤ length inp
  in_end {p = p} {b = b} s = omega (arith, s.at, stands_in inp p.at b s.stands)

  -- the toll in other words
  pub as_toll : {p q : Pos} {b : List ℕ} {t : Toll} (u : Toll) → Span p q b t → Even t u → Span p q b u
  as_toll u s e = record {
    stands = s.stands;
    at = s.at;
    left = omega (arith, s.left, e.cost);
    records = omega (arith, s.records, e.records);
    payload = omega (arith, s.payload, e.payload);
    within = omega (arith, s.within, e.over);
  }

  pub join : {p m q : Pos} {x y : List ℕ} {t u : Toll} (r : Toll) → Span p m x t → Span m q y u → Sum r t u → Span p q (x ++ y) r
  join {p = p} {x = x} {y = y} r a b s = record {
    stands = stands_both inp p.at x y a.stands (rw a.at at b.stands);
    at = omega (arith, a.at, b.at, length-append x y);
    left = omega (arith, a.left, b.left, s.cost);
    records = omega (arith, a.records, b.records, s.records);
    payload = omega (arith, a.payload, b.payload, s.payload);
    within = omega (arith, a.within, b.within, s.over);
  }

  pub record Halves (p q : Pos) (x y : List ℕ) (t u : Toll) : Type 0 where
    pub mid : Pos
    pub head : Span p mid x t
    pub tail : Span mid q y u

  pub split : {p q : Pos} {b : List ℕ} {r : Toll} (x y : List ℕ) (t u : Toll) → Span p q b r → b ≡ x ++ y → Sum r t u → Halves p q x y t u
  split {p = p} {q = q} {b = b} x y t u a e s =
      let st : Stands inp p.at (x ++ y) = rw e at a.stands in
      let l : length b ≡ length x + length y = rw (e, length-append x y) in
      record {
        mid = record { at = p.at + length x; left = p.left - t.cost; records = p.records + t.records; payload = p.payload + t.payload };
        head = record {
          stands = stands_left inp p.at x y st;
          at = refl;
          left = omega (arith, a.left, s.cost);
          records = refl;
          payload = refl;
          within = omega (arith, a.within, s.over);
        };
        tail = record {
          stands = stands_right inp p.at x y st;
          at = omega (arith, a.at, l);
          left = omega (arith, a.left, s.cost);
          records = omega (arith, a.records, s.records);
          payload = omega (arith, a.payload, s.payload);
          within = omega (arith, a.within, s.over);
        };
      }

-- children of a flat node
module _ (tree : ℕ → Schema) where
  pub count_from : (i n : ℕ) → count (trees_from tree i n) ≡ n
  unfolding trees_from count
  count_from i zero = refl
  count_from i (suc n) = ap suc (count_from (i + 1) n)

  pub child_from : (i n t : ℕ) → t < n → child (trees_from tree i n) t ≡ tree (i + t)
  unfolding trees_from child
  child_from i zero t h = absurd (omega arith)
  child_from i (suc n) zero h = let e : i + 0 ≡ i = omega arith in rw e
  child_from i (suc n) (suc t) h = let e : i + suc t ≡ (i + 1) + t = omega arith in rw e (child_from (i + 1) n t (omega arith))
