-- The one loop over the children of any node: a turn of it, and what is left after it.
-- Assumes nothing.
use Rattle.read.specs.declared.walk.Next.{Next}
use Rattle.std.proofs.Common.{Result, Ok, Err}
use Prim.Native.Nat.{ℕ, zero, suc, ◌+◌, ◌-◌, ◌≤◌, ◌<◌}
use mathlib.Core.Path.{◌≡◌, refl, sym, subst, ◌∙◌, ap}
use mathlib.Core.Bool.{Bool, true, false}
use mathlib.Core.List.{List}
use native.Mathlib.Omega.{arith}
use native.Mathlib.Nat.{add-zero, sub-zero}
use borrow.Author.Tests.{ltb-true, ltb-false, leb-true, le-ltb}
use lib.Dec.{leb, ltb, eqb}
use lib.ListN.{length}
use Rattle.rules.specs.Choice.{pick}
use Rattle.rules.specs.Bytes.{le_at}
use Rattle.rules.specs.Wire.{form, width_of, end_tag}
use Rattle.rules.specs.declared.refusal.Refusal.{Refusal}
use Rattle.rules.specs.Refusals.{Truncated, InvalidVariantTag}
use Rattle.leaves.specs.Fields.{read_number_at}
use Rattle.leaves.specs.Shapes.{Shape, as_variant, as_repeated, as_tuple, shape_of, ends_at}
use Rattle.read.specs.Children.{by_tag, picked}
use Rattle.leaves.specs.Leaf.{standing, ◌>>=◌, reading}
use Rattle.read.specs.Skim.{Skimmer, skim_child, skim_variant, skim_pairs, skim_fields, skim_form}
use Rattle.leaves.specs.declared.leaf.SkipPos.{SkipPos}
use Rattle.leaves.proofs.Codes.{form_variant, form_repeated, form_tuple, shape_variant, shape_repeated, shape_tuple, tag_some}

-- a position, moved
abbrev pub moved : SkipPos → ℕ → SkipPos
moved p at = standing at p.budget p.records p.payload

-- only pairs have fuel: more than the bytes that are left
unfoldable pub Fuelled : Shape → ℕ → ℕ → Type 0
Fuelled (as_variant w) left enough = Unit
Fuelled (as_repeated w) left enough = left < enough
Fuelled as_tuple left enough = Unit

pub fuel_all : (s : Shape) (left : ℕ) → Fuelled s left (suc left)
unfolding Fuelled
fuel_all (as_variant w) left = tt
fuel_all (as_repeated w) left = omega arith
fuel_all as_tuple left = tt

fields_step : (rec : Skimmer) (first count i : ℕ) (p : SkipPos) → i < count → skim_fields rec (first + i) (count - i) p ≡ rec (first + i) p >>= skim_fields rec (first + (i + 1)) (count - (i + 1))
unfolding skim_fields
fields_step rec first count i p h =
    let e : count - i ≡ suc (count - (i + 1)) = omega arith in
    let f : (first + i) + 1 ≡ first + (i + 1) = omega arith in
    rw (e, f)

fields_end : (rec : Skimmer) (first count i : ℕ) (p : SkipPos) → count ≤ i → skim_fields rec (first + i) (count - i) p ≡ Ok p
unfolding skim_fields
fields_end rec first count i p h = let e : count - i ≡ 0 = omega arith in rw e

module _ (inp : List ℕ) (rec : Skimmer) (code first count : ℕ) where
  -- what is left of a node's children after i of them
  unfoldable pub steps : Shape → ℕ → ℕ → SkipPos → Result SkipPos Refusal
  steps (as_variant w) i enough p = skim_variant inp rec code first count w p
  steps (as_repeated w) i enough p = skim_pairs inp rec code first count w enough p
  steps as_tuple i enough p = skim_fields rec (first + i) (count - i) p

  -- after a child: a variant has no other
  unfoldable pub go_on : Shape → ℕ → ℕ → SkipPos → Result SkipPos Refusal
  go_on (as_variant w) i enough p = Ok p
  go_on (as_repeated w) i enough p = steps (as_repeated w) (i + 1) enough p
  go_on as_tuple i enough p = steps as_tuple (i + 1) enough p

  -- what follows from the next child
  unfoldable pub follow : Shape → ℕ → ℕ → SkipPos → Result Next Refusal → Result SkipPos Refusal
  follow s i enough p (Ok (Next.Child c at)) = rec c (moved p at) >>= go_on s i enough
  follow s i enough p (Ok (Next.End at)) = Ok (moved p at)
  follow s i enough p (Err r) = Err r

  module _ (i enough : ℕ) (p : SkipPos) where
    last : (w : ℕ) (s : Result SkipPos Refusal) → s ≡ s >>= go_on (as_variant w) i enough
    unfolding go_on ◌>>=◌
    last w (Ok q) = refl
    last w (Err r) = refl

    turn_variant : (w : ℕ) → skim_variant inp rec code first count w p ≡ follow (as_variant w) i enough p (picked code first count inp (as_variant w) i p.at)
    unfolding skim_variant reading skim_child picked by_tag follow pick ends_at
    turn_variant w = go (read_number_at inp w (14 + w) p.at)
      where
        child : (b : Bool) (tag next : ℕ) →
            pick b (rec (first + tag) (moved p next)) (Err (InvalidVariantTag code tag count p.at))
            ≡ follow (as_variant w) i enough p (pick b (Ok (Next.Child (first + tag) next)) (Err (InvalidVariantTag code tag count p.at)))
        child true tag next = last w _
        child false tag next = refl

        go : (t : Result (ℕ × ℕ) Refusal) → reading t p (skim_child inp rec code first count p.at) ≡ follow (as_variant w) i enough p (by_tag code first count (as_variant w) p.at t)
        go (Ok (tag, next)) = child (ltb tag count) tag next
        go (Err r) = refl

    turn_repeated : (w : ℕ) → skim_pairs inp rec code first count w (suc enough) p ≡ follow (as_repeated w) i enough p (picked code first count inp (as_repeated w) i p.at)
    unfolding skim_pairs reading skim_child picked by_tag follow pick ends_at go_on steps ◌>>=◌
    turn_repeated w = go (read_number_at inp w (14 + w) p.at)
      where
        child : (b : Bool) (tag next : ℕ) →
            pick b (rec (first + tag) (moved p next)) (Err (InvalidVariantTag code tag count p.at)) >>= skim_pairs inp rec code first count w enough
            ≡ follow (as_repeated w) i enough p (pick b (Ok (Next.Child (first + tag) next)) (Err (InvalidVariantTag code tag count p.at)))
        child true tag next = refl
        child false tag next = refl

        ended : (b : Bool) (tag next : ℕ) →
            pick b (Ok (moved p next)) (skim_child inp rec code first count p.at tag (moved p next) >>= skim_pairs inp rec code first count w enough)
            ≡ follow (as_repeated w) i enough p (pick b (Ok (Next.End next)) (pick (ltb tag count) (Ok (Next.Child (first + tag) next)) (Err (InvalidVariantTag code tag count p.at))))
        ended true tag next = refl
        ended false tag next = child (ltb tag count) tag next

        go : (t : Result (ℕ × ℕ) Refusal) →
            reading t p (λ tag q. pick (eqb tag (end_tag w)) (Ok q) (skim_child inp rec code first count p.at tag q >>= skim_pairs inp rec code first count w enough))
            ≡ follow (as_repeated w) i enough p (by_tag code first count (as_repeated w) p.at t)
        go (Ok (tag, next)) = ended (eqb tag (end_tag w)) tag next
        go (Err r) = refl

    turn_tuple : skim_fields rec (first + i) (count - i) p ≡ follow as_tuple i enough p (picked code first count inp as_tuple i p.at)
    unfolding picked follow pick go_on steps
    turn_tuple = go (ltb i count) refl
      where
        go : (b : Bool) → ltb i count ≡ b → skim_fields rec (first + i) (count - i) p ≡ follow as_tuple i enough p (pick b (Ok (Next.Child (first + i) p.at)) (Ok (Next.End p.at)))
        go true e = fields_step rec first count i p (ltb-true _ _ e)
        go false e = fields_end rec first count i p (ltb-false _ _ e)

  -- one turn: what is left is what follows from the next child
  turn : (s : Shape) (i enough : ℕ) (p : SkipPos) (left : ℕ) → Fuelled s left enough → steps s i enough p ≡ follow s i (enough - 1) p (picked code first count inp s i p.at)
  unfolding steps Fuelled
  turn (as_variant w) i enough p left h = turn_variant i (enough - 1) p w
  turn (as_repeated w) i zero p left h = absurd (omega arith)
  turn (as_repeated w) i (suc enough) p left h = let e : suc enough - 1 ≡ enough = omega arith in rw e (turn_repeated i enough p w)
  turn as_tuple i enough p left h = turn_tuple i (enough - 1) p

  -- a node that goes on after a child
  go_on_lem : (i enough : ℕ) (p : SkipPos) → 17 ≤ code → go_on (shape_of code) i enough p ≡ steps (shape_of code) (i + 1) enough p
  unfolding go_on shape_of pick
  go_on_lem i enough p h = rw (le-ltb code 17 h) (go (ltb code 19))
    where
      go : (b : Bool) → go_on (pick b (as_repeated (width_of (form code))) as_tuple) i enough p ≡ steps (pick b (as_repeated (width_of (form code))) as_tuple) (i + 1) enough p
      go true = refl
      go false = refl

  -- the loop starts with the whole
  pub steps_all : (p : SkipPos) → 14 < code → code ≤ 19 → steps (shape_of code) 0 (suc (length inp - p.at)) p ≡ skim_form inp rec code first count (form code) p
  unfolding steps skim_form width_of
  steps_all p h m = by (ltb code 17) (ltb code 19) refl refl
    where
      by : (a b : Bool) → ltb code 17 ≡ a → ltb code 19 ≡ b → steps (shape_of code) 0 (suc (length inp - p.at)) p ≡ skim_form inp rec code first count (form code) p
      by true b e f = let l = ltb-true code 17 e in rw (shape_variant code l, form_variant code h l)
      by false true e f = let k = ltb-false code 17 e in let l = ltb-true code 19 f in rw (shape_repeated code k l, form_repeated code k l)
      by false false e f = let k = ltb-false code 19 f in rw (shape_tuple code k, form_tuple code k m, add-zero, sub-zero)

  -- what the loop met comes to the whole
  module _ (s : Shape) (i enough : ℕ) (p : SkipPos) (left : ℕ) (f : Fuelled s left enough) (whole : Result SkipPos Refusal) (all : steps s i enough p ≡ whole) (t : Result Next Refusal) (is : t ≡ picked code first count inp s i p.at) where
    turned : whole ≡ follow s i (enough - 1) p t
    turned = sym all ∙ rw is (turn s i enough p left f)

    pub turn_child : (c at : ℕ) → t ≡ Ok (Next.Child c at) → whole ≡ rec c (moved p at) >>= go_on s i (enough - 1)
    unfolding follow
    turn_child c at e = turned ∙ ap (λ (x : Result Next Refusal). follow s i (enough - 1) p x) e

    pub turn_end : (at : ℕ) → t ≡ Ok (Next.End at) → whole ≡ Ok (moved p at)
    unfolding follow
    turn_end at e = turned ∙ ap (λ (x : Result Next Refusal). follow s i (enough - 1) p x) e

    pub turn_refused : (r : Refusal) → t ≡ Err r → whole ≡ Err r
    unfolding follow
    turn_refused r e = turned ∙ ap (λ (x : Result Next Refusal). follow s i (enough - 1) p x) e

  -- and what is left after a child too
  pub turn_on : (i enough : ℕ) (p : SkipPos) (left : ℕ) (f : Fuelled (shape_of code) left enough) (whole : Result SkipPos Refusal) (all : steps (shape_of code) i enough p ≡ whole) (t : Result Next Refusal) → t ≡ picked code first count inp (shape_of code) i p.at →
      (c at : ℕ) → t ≡ Ok (Next.Child c at) → (x : Result SkipPos Refusal) → x ≡ rec c (moved p at) → (q : SkipPos) → x ≡ Ok q → 17 ≤ code → steps (shape_of code) (i + 1) (enough - 1) q ≡ whole
  unfolding ◌>>=◌
  turn_on i enough p left f whole all t is c at e x y q z h =
      sym (go_on_lem i (enough - 1) q h)
      ∙ ap (λ (v : Result SkipPos Refusal). v >>= go_on (shape_of code) i (enough - 1)) (sym z ∙ y)
      ∙ sym (turn_child (shape_of code) i enough p left f whole all t is c at e)

-- ---- what the next child tells: it is one of the node's, it starts no earlier, and the loop goes on

unfoldable pub Past : Shape → ℕ → ℕ → Type 0
Past (as_variant w) p q = p < q
Past (as_repeated w) p q = p < q
Past as_tuple p q = Unit

pub fuel_next : (s : Shape) (len p q r enough : ℕ) → Fuelled s (len - p) enough → Past s p q → q ≤ r → r ≤ len → Fuelled s (len - r) (enough - 1)
unfolding Fuelled Past
fuel_next (as_variant w) len p q r enough h a b c = tt
fuel_next (as_repeated w) len p q r enough h a b c = omega arith
fuel_next as_tuple len p q r enough h a b c = tt

pub record Moved (s : Shape) (len first count i p c q : ℕ) : Type 0 where
  pub high : c < first + count
  pub from : p ≤ q
  pub within : q ≤ len
  pub counts : i + 1 ≤ count + q
  pub falls : count - (i + 1) + (len - q) < count - i + (len - p)
  pub past : Past s p q

data Picks (s : Shape) (len first count i p : ℕ) : Result Next Refusal → Type 0 where
  child : {c q : ℕ} → Moved s len first count i p c q → Picks s len first count i p (Ok (Next.Child c q))
  end : {q : ℕ} → Picks s len first count i p (Ok (Next.End q))
  off : {r : Refusal} → Picks s len first count i p (Err r)

-- a tag of some bytes
unfoldable pub Wide : Shape → Type 0
Wide (as_variant w) = 0 < w
Wide (as_repeated w) = 0 < w
Wide as_tuple = Unit

pub wide_shape : (code : ℕ) → 14 < code → Wide (shape_of code)
unfolding Wide shape_of pick
wide_shape code h = by (ltb code 17) (ltb code 19) refl refl
  where
    by : (a b : Bool) → ltb code 17 ≡ a → ltb code 19 ≡ b → Wide (pick a (as_variant (width_of (form code))) (pick b (as_repeated (width_of (form code))) as_tuple))
    by true b e f = let l = ltb-true code 17 e in tag_some code h (omega arith)
    by false true e f = tag_some code h (ltb-true code 19 f)
    by false false e f = tt

module _ (inp : List ℕ) (code first count i p : ℕ) (h : p ≤ length inp) (k : i ≤ count + p) where
  by_tag_lem : (s : Shape) (w : ℕ) → 0 < w → Past s p (p + w) → Picks s (length inp) first count i p (by_tag code first count s p (read_number_at inp w (14 + w) p))
  unfolding by_tag read_number_at pick
  by_tag_lem s w z a = fits (leb w (length inp - p)) refl
    where
      named : (b : Bool) (tag : ℕ) → ltb tag count ≡ b → w ≤ length inp - p → Picks s (length inp) first count i p (pick b (Ok (Next.Child (first + tag) (p + w))) (Err (InvalidVariantTag code tag count p)))
      named true tag e f =
          let l = ltb-true tag count e in
          child {c = first + tag} {q = p + w} (record { high = omega (arith, l); from = omega arith; within = omega arith; counts = omega arith; falls = omega arith; past = a })
      named false tag e f = off

      ended : (b : Bool) (tag : ℕ) → w ≤ length inp - p → Picks s (length inp) first count i p (pick b (Ok (Next.End (p + w))) (pick (ltb tag count) (Ok (Next.Child (first + tag) (p + w))) (Err (InvalidVariantTag code tag count p))))
      ended true tag f = end
      ended false tag f = named (ltb tag count) tag refl f

      fits : (b : Bool) → leb w (length inp - p) ≡ b → Picks s (length inp) first count i p (by_tag code first count s p (pick b (Ok ((le_at inp p w), (p + w))) (Err (Truncated (14 + w) p))))
      fits true e = ended (ends_at s (le_at inp p w)) (le_at inp p w) (leb-true _ _ e)
      fits false e = off

  picks : (s : Shape) → Wide s → Picks s (length inp) first count i p (picked code first count inp s i p)
  unfolding picked pick Past Wide
  picks (as_variant w) z = by_tag_lem (as_variant w) w z (omega arith)
  picks (as_repeated w) z = by_tag_lem (as_repeated w) w z (omega arith)
  picks as_tuple z = go (ltb i count) refl
    where
      go : (b : Bool) → ltb i count ≡ b → Picks as_tuple (length inp) first count i p (pick b (Ok (Next.Child (first + i) p)) (Ok (Next.End p)))
      go true e =
          let l = ltb-true i count e in
          child {c = first + i} {q = p} (record { high = omega (arith, l); from = omega arith; within = h; counts = omega (arith, l); falls = omega (arith, l); past = tt })
      go false e = end

  is_child : (s : Shape) (c q : ℕ) → Picks s (length inp) first count i p (Ok (Next.Child c q)) → Moved s (length inp) first count i p c q
  is_child s c q (child m) = m

  pub picked_child : (s : Shape) → Wide s → (t : Result Next Refusal) (c q : ℕ) → t ≡ picked code first count inp s i p → t ≡ Ok (Next.Child c q) → Moved s (length inp) first count i p c q
  picked_child s z t c q is at = is_child s c q (subst (λ (x : Result Next Refusal). Picks s (length inp) first count i p x) (sym is ∙ at) (picks s z))
