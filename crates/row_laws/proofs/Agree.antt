-- The walk over a block and the grammar of the schema that the block denotes agree.
-- Assumes nothing.
use Prim.Native.Nat.{ℕ, ◌≤◌}
use mathlib.Core.Path.{◌≡◌, refl, sym, ◌∙◌, subst}
use mathlib.Core.List.{List}
use mathlib.Core.Logic.{◌↔◌}
use lib.ListN.{length}
use Rattle.rules.specs.Bytes.{Stands, Bytes}
use Rattle.rules.specs.Schema.{Schema, deep, Valid}
use Rattle.rules.specs.Block.{Denotes}
use Rattle.rules.specs.Value.{Value, Within, costs, Fits}
use Rattle.rules.specs.Grammar.{Conforms, encoded}
use Rattle.rules.specs.Walk.{Limits, blob_limit, Pos, Answer, Got, Refused, walk, after}
use Rattle.rules.specs.declared.refusal.Refusal.{Refusal}
use Rattle.block_laws.proofs.Trees.{denotes_tree}
use Rattle.row_laws.proofs.Conform.{encoded_row_lem}
use Rattle.row_laws.proofs.Sound.{Accepted, sound}
use Rattle.row_laws.proofs.Complete.{complete}

module _ (sch store inp : List ℕ) (lim : Limits) (d i : ℕ) (s : Schema) (is : Denotes sch store i s) (within : deep s ≤ d) where
  -- the walk accepts v up to q just if a row of v stands there within the limits and ends at q
  pub agrees : Bytes inp → (p q : Pos) (v : Value) → p.at ≤ length inp → (walk sch inp lim d i p ≡ Got v q) ↔ Accepted s inp lim p v q
  agrees bs p q v h =
      let e = denotes_tree sch store is d within in
      (λ w. rw e at (sound inp lim bs sch store d i p q v h w), λ a. complete inp lim sch store d i p q v (rw e a))

  -- what is refused is no row within the limits
  pub refused : (p q : Pos) (v : Value) (r : Refusal) → walk sch inp lim d i p ≡ Refused r → Accepted s inp lim p v q → ⊥
  refused p q v r w a = differ (sym w ∙ complete inp lim sch store d i p q v (rw (denotes_tree sch store is d within) a))
    where
      differ : Refused r ≡ Got v q → ⊥
      differ e = subst (λ (x : Answer Value). IsRefused x) e tt
        where
          IsRefused : Answer Value → Type 0
          IsRefused (Got a b) = ⊥
          IsRefused (Refused a) = Unit

  -- the canonical bytes of a value that conforms are read as that value
  pub read_back : (p : Pos) (v : Value) → Valid s → Conforms s v → Fits v → Stands inp p.at (encoded s v) → Within (blob_limit lim) v → costs lim.charge v ≤ p.left → walk sch inp lim d i p ≡ Got v (after lim v (length (encoded s v)) p)
  read_back p v ok c f st l a =
      complete inp lim sch store d i p (after lim v (length (encoded s v)) p) v (rw (denotes_tree sch store is d within)
      (record { bytes = encoded s v; is = encoded_row_lem c f ok; stands = st; within = l; afford = a; ends = refl }))
