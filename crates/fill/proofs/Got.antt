-- Where something was read, each step of the reading was.
-- Assumes nothing.
use Prim.Native.Nat.{ℕ, zero, suc, ◌+◌, ◌-◌, ◌≤◌, ◌<◌}
use mathlib.Core.Path.{◌≡◌, refl, sym, ◌∙◌}
use mathlib.Core.Bool.{Bool, true, false}
use mathlib.Core.List.{List}
use native.Mathlib.Omega.{arith}
use borrow.Author.Tests.{leb-true, ltb-true}
use lib.Dec.{ltb}
use lib.ListN.{length}
use Rattle.rules.specs.Choice.{pick}
use Rattle.rules.specs.Bytes.{le_at, part}
use Rattle.rules.specs.Wire.{form}
use Rattle.rules.specs.Block.{node_at}
use Rattle.rules.specs.Value.{Value}
use Rattle.rules.specs.declared.table_record.Node.{Node}
use Rattle.fill.specs.Plain.{PlainRead, Got, Not, ◌>>=◌, IsGot, value_read, end_read, plain_number_at, bytes_at, Reader, child_at, by_form, read_at}

pub not_got : {A : Type 0} (x : PlainRead A) → x ≡ Not → IsGot x → ⊥
unfolding IsGot
not_got x e h = rw e at h

-- a test that was passed
picked : {A B : Type 0} (b : Bool) (a : A) (q : ℕ) (k : A × ℕ → PlainRead B) → IsGot (pick b (Got a q) Not >>= k) → (b ≡ true) × ((pick b (Got a q) Not >>= k) ≡ k (a, q))
unfolding pick ◌>>=◌ IsGot
picked true a q k h = (refl, refl)
picked false a q k h = absurd h

module _ {B : Type 0} (inp : List ℕ) where
  -- a number, and what follows it
  pub number_got : (w at : ℕ) (k : ℕ × ℕ → PlainRead B) → IsGot (plain_number_at inp w at >>= k) → (w ≤ length inp - at) × ((plain_number_at inp w at >>= k) ≡ k (le_at inp at w, at + w))
  unfolding plain_number_at
  number_got w at k h = let p = picked _ _ _ k h in (leb-true _ _ p.0, p.1)

  -- bytes, and what follows them
  pub bytes_got : (n at : ℕ) (k : List ℕ × ℕ → PlainRead B) → IsGot (bytes_at inp n at >>= k) → (n ≤ length inp - at) × ((bytes_at inp n at >>= k) ≡ k (part inp at n, at + n))
  unfolding bytes_at
  bytes_got n at k h = let p = picked _ _ _ k h in (leb-true _ _ p.0, p.1)

-- ---- a reading that got something, taken apart

pub got_from : {A : Type 0} (x : PlainRead A) (a : A) (q : ℕ) → x ≡ Got a q → IsGot x
unfolding IsGot
got_from x a q e = rw e tt

pub got_is : (x : PlainRead Value) → IsGot x → x ≡ Got (value_read x) (end_read x)
unfolding IsGot value_read end_read
got_is (Got v q) h = refl
got_is Not h = absurd h

-- what a step got, and that the rest goes on from there
pub record Step {A B : Type 0} (x : PlainRead A) (k : A × ℕ → PlainRead B) (b : B) (z : ℕ) : Type 0 where
  pub got : A
  pub at : ℕ
  pub is : x ≡ Got got at
  pub goes : k (got, at) ≡ Got b z

pub step : {A B : Type 0} (x : PlainRead A) (k : A × ℕ → PlainRead B) (b : B) (z : ℕ) → (x >>= k) ≡ Got b z → Step x k b z
unfolding ◌>>=◌
step (Got a q) k b z e = record { got = a; at = q; is = refl; goes = e }
step Not k b z e = absurd (not_got (Got b z) (sym e) (got_from (Got b z) b z refl))

module _ {B : Type 0} (b : B) (z : ℕ) where
  pub number_step : (inp : List ℕ) (w at : ℕ) (k : ℕ × ℕ → PlainRead B) → (plain_number_at inp w at >>= k) ≡ Got b z → (w ≤ length inp - at) × (k (le_at inp at w, at + w) ≡ Got b z)
  number_step inp w at k e = let g = number_got inp w at k (got_from _ b z e) in (g.0, sym g.1 ∙ e)

  pub child_step : (rec : Reader) (n : Node) (tag at : ℕ) (k : Value × ℕ → PlainRead B) → (child_at rec n tag at >>= k) ≡ Got b z → (tag < n.children) × ((rec (n.first + tag) at >>= k) ≡ Got b z)
  unfolding child_at
  child_step rec n tag at k e = by (ltb tag n.children) refl e
    where
      by : (t : Bool) → ltb tag n.children ≡ t → (pick t (rec (n.first + tag) at) Not >>= k) ≡ Got b z → (tag < n.children) × ((rec (n.first + tag) at >>= k) ≡ Got b z)
      by true f g = (ltb-true _ _ f, unfold pick in g)
      by false f g = absurd (not_got (Got b z) (sym (unfold pick ◌>>=◌ in g)) (got_from (Got b z) b z refl))

-- a node that was read has a level, and is read by its form
pub read_step : (sch inp : List ℕ) (d i at : ℕ) → IsGot (read_at sch inp d i at) → (0 < d) × (read_at sch inp d i at ≡ by_form inp (read_at sch inp (d - 1)) (node_at sch i) (form (node_at sch i).code) at)
unfolding read_at IsGot
read_step sch inp zero i at h = absurd h
read_step sch inp (suc d) i at h = let e : suc d - 1 ≡ d = omega arith in (omega arith, rw e)
