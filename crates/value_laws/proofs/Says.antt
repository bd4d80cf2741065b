-- What holds of the bytes that are written, and of the refusals.
-- Assumes nothing.
use Prim.Native.Nat.{ℕ, ◌≤◌, ◌<◌}
use mathlib.Core.Path.{◌≡◌}
use mathlib.Core.List.{List}
use borrow.Author.Tests.{ltb-true, ltb-false, eqb-true, eqb-false}
use Rattle.rules.specs.Wire.{form}
use Rattle.rules.specs.Block.{node_at}
use Rattle.rules.specs.Walk.{Limits}
use Rattle.rules.specs.Writing.{Wrote, Put, Refused, ◌>>=◌, kind_for, fitting, tagged}
use Rattle.rules.specs.declared.refusal.Refusal.{Refusal}
use Rattle.rules.specs.Refusals.{ValueDoesNotMatchSchema, InvalidVariantTag}
use Rattle.rules.proofs.Tests.{either}

-- no property at all
unfoldable pub Any : {A : Type 0} → A → Type 0
Any a = Unit

-- bytes have the property P, a refusal the property R
pub data WroteSays (P : List ℕ → Type 0) (R : Refusal → Type 0) : Wrote → Type 0 where
  puts : {b : List ℕ} → P b → WroteSays P R (Put b)
  refuses : {r : Refusal} → R r → WroteSays P R (Refused r)

-- what holds of bytes that were put
pub put : {P : List ℕ → Type 0} {R : Refusal → Type 0} {b : List ℕ} → WroteSays P R (Put b) → P b
put (puts h) = h

-- what holds of a refusal that was answered
pub refused : {P : List ℕ → Type 0} {R : Refusal → Type 0} {r : Refusal} → WroteSays P R (Refused r) → R r
refused (refuses h) = h

-- one after another
pub then : {P Q : List ℕ → Type 0} {R : Refusal → Type 0} {x : Wrote} {k : List ℕ → Wrote} → WroteSays P R x → ((b : List ℕ) → P b → WroteSays Q R (k b)) → WroteSays Q R (x >>= k)
unfolding ◌>>=◌
then (puts {b = b} h) f = f b h
then (refuses h) f = refuses h

module _ (sch : List ℕ) (lim : Limits) where
  -- the kind that node i takes
  abbrev pub takes : ℕ → ℕ
  takes i = kind_for (node_at sch i).code (form (node_at sch i).code)

  -- the kind is tested (15)
  pub fits : {P : List ℕ → Type 0} {R : Refusal → Type 0} {w : Wrote} (kind i r : ℕ) →
      ((kind ≡ takes i → ⊥) → R (ValueDoesNotMatchSchema (node_at sch i).code kind r)) → (kind ≡ takes i → WroteSays P R w) → WroteSays P R (fitting sch lim kind i r w)
  unfolding fitting
  fits kind i r g f = either (WroteSays _ _) _ (λ e. f (eqb-true kind (takes i) e)) (λ e. refuses (g (eqb-false kind (takes i) e)))

  -- the tag is tested (17)
  pub tags : {P : List ℕ → Type 0} {R : Refusal → Type 0} {w : Wrote} (t i r : ℕ) →
      ((node_at sch i).children ≤ t → R (InvalidVariantTag (node_at sch i).code t (node_at sch i).children r)) → (t < (node_at sch i).children → WroteSays P R w) → WroteSays P R (tagged sch lim t i r w)
  unfolding tagged
  tags t i r g f = either (WroteSays _ _) _ (λ e. f (ltb-true t (node_at sch i).children e)) (λ e. refuses (g (ltb-false t (node_at sch i).children e)))
