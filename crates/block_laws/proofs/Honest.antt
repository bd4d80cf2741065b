-- What the refusals of the schema rules say: a record of the block that breaks them, its code, its child count, and the maximum.
-- Assumes nothing.
use Rattle.std.specs.Prelude.{⊤}
use Rattle.std.proofs.Common.{Result, Ok, Err}
use Prim.Native.Nat.{ℕ, zero, suc, ◌+◌, ◌≤◌, ◌<◌}
use mathlib.Core.Path.{◌≡◌, refl, sym, ◌∙◌}
use mathlib.Core.Bool.{Bool, true, false}
use mathlib.Core.List.{List}
use native.Mathlib.Omega.{arith}
use borrow.Author.Tests.{eqb-false, leb-false}
use lib.ListN.{length}
use lib.Dec.{eqb}
use Rattle.rules.specs.Choice.{pick, ◌and◌, all}
use Rattle.rules.specs.Wire.{form, written, written_if, type_of, type_in, wire_types, maximum}
use Rattle.rules.specs.Refusals.{line_of, refusal_number, ◌then◌, in_order, UnexpectedChildren, TooManyChildren}
use Rattle.rules.specs.Block.{NodeIn, node_at, records, Closed, Formed}
use Rattle.rules.specs.SchemaRules.{node_rule, rule_at, schema_rule}
use Rattle.rules.specs.declared.refusal.Refusal.{Refusal}
use Rattle.rules.specs.declared.wire_type.Children.{Children}
use Rattle.rules.specs.declared.wire_type.Children.TheVariants.{Zero, UpTo, Any, Unknown}
use Rattle.rules.proofs.Tests.{all_each}
use Rattle.block_laws.proofs.Form.{closed}
use Rattle.block_laws.proofs.Levels.{Shallow}

pub data Broken (s : List ℕ) (base : ℕ) : Refusal → Type 0 where
  unexpected : {i : ℕ} →
      i < records s → maximum (form (node_at s i).code) ≡ Zero → 0 < (node_at s i).children →
      Broken s base (UnexpectedChildren (node_at s i).code (node_at s i).children (base + i))
  too_many : {i most : ℕ} →
      i < records s → maximum (form (node_at s i).code) ≡ UpTo most → most < (node_at s i).children →
      Broken s base (TooManyChildren (node_at s i).code (node_at s i).children most (base + i))

-- such a refusal is 4 or 5
pub broken_number : {s : List ℕ} {base : ℕ} (r : Refusal) → Broken s base r → (4 ≤ refusal_number r) × (refusal_number r ≤ 5)
unfolding line_of
broken_number _ (unexpected i m h) = (omega arith, omega arith)
broken_number _ (too_many i m h) = (omega arith, omega arith)

-- and its place does not move with the stream
pub broken_stays : {s : List ℕ} {base : ℕ} (r : Refusal) → Broken s base r → (line_of r.why).moves ≡ false
unfolding line_of
broken_stays _ (unexpected i m h) = refl
broken_stays _ (too_many i m h) = refl

-- ---- if there is a refusal, P holds of it
pub data CheckSays (P : Refusal → Type 0) : Result ⊤ Refusal → Type 0 where
  silent : CheckSays P (Ok tt)
  says : {r : Refusal} → P r → CheckSays P (Err r)

pub said : {P : Refusal → Type 0} {r : Refusal} → CheckSays P (Err r) → P r
said (says p) = p

pub says_then : (P : Refusal → Type 0) (a b : Result ⊤ Refusal) → CheckSays P a → CheckSays P b → CheckSays P (a then b)
unfolding ◌then◌
says_then P (Ok tt) b x y = y
says_then P (Err r) b x y = x

says_pick : (P : Refusal → Type 0) (b : Bool) (r : Refusal) → (b ≡ false → P r) → CheckSays P (pick b (Ok tt) (Err r))
unfolding pick
says_pick P true r f = silent
says_pick P false r f = says (f refl)

unfoldable is_known : Children → Bool
is_known Zero = true
is_known (UpTo n) = true
is_known Any = true
is_known Unknown = false

known : (k : ℕ) → k ≤ 19 → is_known (maximum (form k)) ≡ true
unfolding is_known all maximum form written written_if type_of type_in wire_types ◌and◌
known k h = all_each (λ i. is_known (maximum (form i))) 20 k refl (omega arith)

module _ (s : List ℕ) (base : ℕ) where
  node_says : (i : ℕ) → i < records s → (node_at s i).code ≤ 19 → CheckSays (Broken s base) (rule_at s base i)
  unfolding rule_at
  node_says i l h = by (maximum (form (node_at s i).code)) refl
    where
      differ : false ≡ true → ⊥
      differ e = eqb-false 0 0 (sym (eqb_zero) ∙ sym e) refl
        where
          eqb_zero : true ≡ eqb 0 0
          eqb_zero = refl

      by : (k : Children) → maximum (form (node_at s i).code) ≡ k → CheckSays (Broken s base) (node_rule (base + i) (node_at s i) k)
      by Zero e = unfold node_rule in says_pick _ _ _ (λ q. unexpected {i = i} l e (omega (arith, eqb-false (node_at s i).children 0 q)))
      by (UpTo most) e = unfold node_rule in says_pick _ _ _ (λ q. too_many {i = i} {most = most} l e (leb-false _ _ q))
      by Any e = unfold node_rule in silent
      by Unknown e = absurd (differ (unfold is_known in (rw e at (known (node_at s i).code h))))

  schema_rule_says : Closed s → ((i : ℕ) → i < records s → (node_at s i).code ≤ 19) → (d i : ℕ) → NodeIn i (length s) → Shallow s d i → CheckSays (Broken s base) (schema_rule s base d i)
  unfolding schema_rule Shallow in_order Closed
  schema_rule_says c k zero i l h = absurd h
  schema_rule_says c k (suc d) i l h =
      says_then _ _ _ (node_says i (omega arith) (k i (omega arith)))
      (all (node_at s i).first (node_at s i).children (λ t b. schema_rule_says c k d ((node_at s i).first + t) (omega (arith, c i l)) (h t b)))
    where
      all : (j n : ℕ) → ((t : ℕ) → t < n → CheckSays (Broken s base) (schema_rule s base d (j + t))) → CheckSays (Broken s base) (in_order (schema_rule s base d) j n)
      all j zero f = silent
      all j (suc n) f =
          let z : j + 0 ≡ j = omega arith in
          says_then _ _ _ (rw z at (f 0 (omega arith))) (all (j + 1) n (λ t l. let e : j + suc t ≡ (j + 1) + t = omega arith in rw e at (f (suc t) (omega arith))))

  -- a refusal of the rules names a record of the block that breaks them
  pub honest : (store d i : ℕ) (r : Refusal) → Formed s store → NodeIn i (length s) → Shallow s d i → schema_rule s base d i ≡ Err r → Broken s base r
  honest store d i r b l h e = said (rw e at (schema_rule_says (closed s b.order) b.codes d i l h))
