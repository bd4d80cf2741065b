-- At one position of the input stands at most one row of a schema.
-- Assumes nothing.
use Prim.Native.Nat.{ℕ, zero, suc, ◌+◌, ◌^◌, ◌<◌}
use mathlib.Core.Path.{◌≡◌, refl, sym, ap, ◌∙◌}
use mathlib.Core.List.{List, [], ◌++◌}
use native.Mathlib.Omega.{arith}
use lib.ListN.{length, length-append}
use Rattle.rules.specs.Bytes.{le, le_at, Stands}
use Rattle.rules.specs.Wire.{Form, end_tag}
use Rattle.rules.specs.Schema.{Schema, Schemas, child}
use Rattle.rules.specs.Value.{Value, number, wide, blob, repeated, tuple, Items, Values}
use Rattle.rules.specs.Grammar.{Row, row, Body, a_nothing, a_false, a_true, a_number, a_wide, a_blob, a_variant, a_repeated, a_tuple, Pairs, end, pair, Fields, no_field, field}
use Rattle.rules.proofs.Stands.{length-le, stands_left, stands_right, stands_le, stands_part, stands_seam}

pub end_fits : (w : ℕ) → end_tag w < 256 ^ w
unfolding end_tag
end_fits zero = omega arith
end_fits (suc w) = omega (arith, end_fits w)

-- a tag that is no end tag has a byte
pub tag_wide : (t w : ℕ) → t < end_tag w → 0 < w
unfolding end_tag
tag_wide t zero h = omega arith
tag_wide t (suc w) h = omega arith

module _ (s : List ℕ) where
  -- a number, and what comes after it
  pub record Starts (at w t : ℕ) (x b : List ℕ) : Type 0 where
    pub reads : le_at s at w ≡ t
    pub rest : Stands s (at + w) x
    pub size : length b ≡ w + length x

  pub starts : (at w t : ℕ) (x b : List ℕ) → t < 256 ^ w → b ≡ le w t ++ x → Stands s at b → Starts at w t x b
  starts at w t x b h e st =
      let z : Stands s at (le w t ++ x) = rw e at st in
      record {
        reads = stands_le s at w t h (stands_left s at (le w t) x z);
        rest = rw (length-le w t) at (stands_right s at (le w t) x z);
        size = rw (e, length-append, length-le w t);
      }

  same_bytes : (at : ℕ) (x y : List ℕ) → length x ≡ length y → Stands s at x → Stands s at y → x ≡ y
  same_bytes at x y l h k = sym (stands_part s at x h) ∙ rw l (stands_part s at y k)

  abbrev Same : {A : Type 0} → A → A → List ℕ → List ℕ → Type 0
  Same v v' b b' = (v ≡ v') × (length b ≡ length b')

  mutual
    unfolding Stands

    pub only : {c : Schema} {v v' : Value} {b b' : List ℕ} → Row c v b → Row c v' b' → (at : ℕ) → Stands s at b → Stands s at b' → Same v v' b b'
    only (row h) (row h') at st st' = only_body h h' at st st'

    only_body : {f : Form} {k : ℕ} {ss : Schemas} {v v' : Value} {b b' : List ℕ} → Body f k ss v b → Body f k ss v' b' → (at : ℕ) → Stands s at b → Stands s at b' → Same v v' b b'
    only_body a_nothing a_nothing at st st' = (refl, refl)
    only_body a_false a_false at st st' = (refl, refl)
    only_body a_false (a_true h) at st st' = absurd (omega (arith, st.0.1, st'.0.1))
    only_body (a_true h) a_false at st st' = absurd (omega (arith, st.0.1, st'.0.1))
    only_body (a_true h) (a_true h') at st st' = (refl, refl)
    only_body (a_number {w = w} {k = k} {x = x} h e) (a_number {x = x'} h' e') at st st' =
        let a = stands_le s at w x h (rw e at st) in
        let b = stands_le s at w x' h' (rw e' at st') in
        (ap (number k) (sym a ∙ b), rw (e, e', length-le w x, length-le w x'))
    only_body (a_wide {k = k} h) (a_wide h') at st st' = (ap (wide k) (same_bytes at _ _ (h ∙ sym h') st st'), h ∙ sym h')
    only_body (a_blob {k = k} {x = x} {b = b} h e) (a_blob {x = x'} {b = b'} h' e') at st st' =
        let a = starts at 4 (length x) x b h e st in
        let c = starts at 4 (length x') x' b' h' e' st' in
        let l : length x ≡ length x' = omega (arith, a.reads, c.reads) in
        (ap (blob k) (same_bytes (at + 4) x x' l a.rest c.rest), omega (arith, a.size, c.size))
    only_body (a_variant {w = w} {t = t} {ss = ss} {v = v} {x = x} {b = b} h l r e) (a_variant {t = t'} {v = v'} {x = x'} {b = b'} h' l' r' e') at st st' =
        let a = starts at w t x b h e st in
        let c = starts at w t' x' b' h' e' st' in
        let z : t' ≡ t = sym c.reads ∙ a.reads in
        let y : Row (child ss t) v' x' = rw z at r' in
        let i = only r y (at + w) a.rest c.rest in
        (rw (i.0, z), omega (arith, a.size, c.size, i.1))
    only_body (a_repeated p) (a_repeated p') at st st' =
        let i = only_pairs p p' at st st' in
        (ap repeated i.0, i.1)
    only_body (a_tuple p) (a_tuple p') at st st' =
        let i = only_fields p p' at st st' in
        (ap tuple i.0, i.1)

    only_pairs : {w : ℕ} {ss : Schemas} {is is' : Items} {b b' : List ℕ} → Pairs w ss is b → Pairs w ss is' b' → (at : ℕ) → Stands s at b → Stands s at b' → Same is is' b b'
    only_pairs (end e) (end e') at st st' = (refl, ap length (e ∙ sym e'))
    only_pairs (end {w = w} e) (pair {t = t} {x = x} {y = y} {b = b} h l r p e') at st st' =
        absurd (omega (arith, end_fits w, stands_le s at w (end_tag w) (end_fits w) (rw e at st), (starts at w t (x ++ y) b (omega (arith, end_fits w)) e' st').reads))
    only_pairs (pair {w = w} {t = t} {x = x} {y = y} {b = b} h l r p e) (end e') at st st' =
        absurd (omega (arith, end_fits w, stands_le s at w (end_tag w) (end_fits w) (rw e' at st'), (starts at w t (x ++ y) b (omega (arith, end_fits w)) e st).reads))
    only_pairs (pair {w = w} {t = t} {ss = ss} {v = v} {is = is} {x = x} {y = y} {b = b} h l r p e) (pair {t = t'} {v = v'} {is = is'} {x = x'} {y = y'} {b = b'} h' l' r' p' e') at st st' =
        let a = starts at w t (x ++ y) b (omega (arith, end_fits w)) e st in
        let c = starts at w t' (x' ++ y') b' (omega (arith, end_fits w)) e' st' in
        let z : t' ≡ t = sym c.reads ∙ a.reads in
        let u : Row (child ss t) v' x' = rw z at r' in
        let i = only r u (at + w) (stands_left s (at + w) x y a.rest) (stands_left s (at + w) x' y' c.rest) in
        let m : Stands s ((at + w) + length x) y' = rw (← i.1) at (stands_right s (at + w) x' y' c.rest) in
        let j = only_pairs p p' ((at + w) + length x) (stands_right s (at + w) x y a.rest) m in
        (rw (i.0, j.0, z), omega (arith, a.size, c.size, i.1, j.1, length-append x y, length-append x' y'))

    only_fields : {ss : Schemas} {vs vs' : Values} {b b' : List ℕ} → Fields ss vs b → Fields ss vs' b' → (at : ℕ) → Stands s at b → Stands s at b' → Same vs vs' b b'
    only_fields no_field no_field at st st' = (refl, refl)
    only_fields (field {x = x} {y = y} r p e) (field {x = x'} {y = y'} r' p' e') at st st' =
        let a : Stands s at (x ++ y) = rw e at st in
        let c : Stands s at (x' ++ y') = rw e' at st' in
        let i = only r r' at (stands_left s at x y a) (stands_left s at x' y' c) in
        let m : Stands s (at + length x) y' = rw (← i.1) at (stands_right s at x' y' c) in
        let j = only_fields p p' (at + length x) (stands_right s at x y a) m in
        (rw (i.0, j.0), rw (e, e', length-append x y, length-append x' y', i.1, j.1))

-- two rows of one schema that begin one list are one row of one value
pub unambiguous : {c : Schema} {v v' : Value} {b b' : List ℕ} (r r' : List ℕ) → Row c v b → Row c v' b' → b ++ r ≡ b' ++ r' → (v ≡ v') × (b ≡ b')
unambiguous {b = b} {b' = b'} r r' h h' e =
    let st : Stands (b' ++ r') 0 b = rw e at (stands_seam [] b r) in
    let st' : Stands (b' ++ r') 0 b' = stands_seam [] b' r' in
    let i = only (b' ++ r') h h' 0 st st' in
    (i.0, same_bytes (b' ++ r') 0 b b' i.1 st st')
