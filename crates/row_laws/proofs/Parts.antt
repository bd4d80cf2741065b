-- Reading a part of a stream, and reading the stream there: the same answer, its places moved by where the part starts, unless
-- the part was cut and the stream goes on.
-- Assumes nothing.
use Prim.Native.Nat.{ℕ, zero, suc, ◌+◌, ◌-◌, ◌≤◌, ◌<◌}
use mathlib.Core.Path.{◌≡◌, refl, sym, ◌∙◌}
use mathlib.Core.Bool.{Bool, true, false}
use mathlib.Core.List.{List, [], ◌∷◌, ◌++◌, append-nil}
use native.Mathlib.Omega.{arith}
use native.Mathlib.Nat.{add-zero}
use borrow.Author.Tests.{le-leb, lt-leb, leb-true, leb-false, eqb-false}
use lib.Dec.{leb}
use lib.ListN.{length, get_or, take, drop, length-drop, take-append-drop}
use lib.Seq.{length-take-le}
use Rattle.rules.specs.Choice.{pick}
use Rattle.rules.specs.Bytes.{le_at, part, Stands}
use Rattle.rules.specs.Wire.{Form, empty, truth, fixed, raw, sized, variant_form, repeated_form, tuple_form, unknown, form, end_tag}
use Rattle.rules.specs.Refusals.{line_of, BadSchemaTable, TooDeep, UnknownRegistryReference, Truncated}
use Rattle.rules.specs.Block.{node_at, block}
use Rattle.rules.specs.Format.{Format, table_schema}
use Rattle.rules.specs.Value.{Value}
use Rattle.rules.specs.Walk.{Limits, Pos, Answer, Got, Refused, ◌>>=◌, onward, number_of, bytes_of, charged, blob_of, Walker, child_of, pairs_of, fields_of, value_of, walk}
use Rattle.rules.specs.Reading.{start, root_from, row_at}
use Rattle.rules.specs.Windows.{moved, PlaceInside, moved_answer, WasCut}
use Rattle.rules.specs.declared.table_record.Node.{Node}
use Rattle.rules.specs.declared.table_record.Located.{Located}
use Rattle.rules.specs.declared.table_record.Located.TheVariants.{Block, NoTable, NoEntry}
use Rattle.rules.specs.declared.refusal.Refusal.{Refusal}
use Rattle.rules.specs.declared.refusal.Why.{Why}
use Rattle.rules.proofs.Tests.{either_both}
use Rattle.rules.proofs.Stands.{stands_in, stands_seam, stands_self}

-- a byte of what stands somewhere
stands_byte : (s xs : List ℕ) (at i : ℕ) → Stands s at xs → i < length xs → get_or s (i + at) 0 ≡ get_or xs i 0
unfolding Stands
stands_byte s [] at i h l = absurd (omega arith)
stands_byte s (x ∷ xs) at zero h l = let e : 0 + at ≡ at = omega arith in rw e h.0.1
stands_byte s (x ∷ xs) at (suc i) h l = let e : suc i + at ≡ i + (at + 1) = omega arith in rw e (stands_byte s xs (at + 1) i h.1 (omega arith))

-- a tag that does not end a list has a byte
tag_long : (s : List ℕ) (at w : ℕ) → (le_at s at w ≡ end_tag w → ⊥) → 0 < w
unfolding le_at end_tag
tag_long s at zero f = absurd (f refl)
tag_long s at (suc w) f = omega arith

pick_then : {A B : Type 0} (t : Bool) (x y : Answer A) (k : A × Pos → Answer B) → (pick t x y >>= k) ≡ pick t (x >>= k) (y >>= k)
unfolding pick
pick_then true x y k = refl
pick_then false x y k = refl

module _ (b : ℕ) (inp whole : List ℕ) (st : Stands whole b inp) where
  number_same : (at w : ℕ) → at + w ≤ length inp → le_at whole (at + b) w ≡ le_at inp at w
  unfolding le_at
  number_same at zero h = refl
  number_same at (suc w) h =
      let e : (at + b) + 1 ≡ (at + 1) + b = omega arith in
      rw (e, stands_byte whole inp b at st (omega arith), number_same (at + 1) w (omega arith))

  part_same : (at n : ℕ) → at + n ≤ length inp → part whole (at + b) n ≡ part inp at n
  unfolding part
  part_same at zero h = refl
  part_same at (suc n) h =
      let e : (at + b) + 1 ≡ (at + 1) + b = omega arith in
      rw (e, stands_byte whole inp b at st (omega arith), part_same (at + 1) n (omega arith))

  -- the answer for the part and that for the whole, b bytes further on; a reading does not go back, and stays in the part
  pub data Follows {A : Type 0} (from : ℕ) : Answer A → Answer A → Type 0 where
    same : {a : A} {q : Pos} →
        from ≤ q.at → q.at ≤ length inp →
        Follows from (Got a q) (Got a (onward b q))
    refused : {r : Refusal} →
        PlaceInside (length inp) r →
        Follows from (Refused r) (Refused (moved b r))
    cut : {context place : ℕ} {y : Answer A} →
        place ≤ length inp → b + length inp < length whole →
        Follows from (Refused (Truncated context place)) y

  -- a refusal whose place moves, and one whose place stays
  refused_there : {A : Type 0} {from place : ℕ} {w : Why} → (line_of w).moves ≡ true → place ≤ length inp → Follows {A = A} from (Refused (record { why = w; place = place })) (Refused (record { why = w; place = place + b }))
  refused_there {A = A} {from = from} {place = place} {w = w} m h =
      let e : moved b (record { why = w; place = place }) ≡ record { why = w; place = place + b } = unfold moved pick in rw m in
      let f : Follows {A = A} from (Refused (record { why = w; place = place })) (Refused (moved b (record { why = w; place = place }))) = refused (λ _. h) in
      rw e at f

  refused_here : {A : Type 0} {from : ℕ} (r : Refusal) → (line_of r.why).moves ≡ false → Follows {A = A} from (Refused r) (Refused r)
  refused_here {A = A} {from = from} r m =
      let e : moved b r ≡ r = unfold moved pick in rw m in
      let f : Follows {A = A} from (Refused r) (Refused (moved b r)) = refused (λ l. let z : false ≡ true = sym m ∙ l in let n : ◌≡◌ {A = ℕ} 0 1 = cc in absurd (omega arith)) in
      rw e at f

  later : {A : Type 0} {m n : ℕ} {x y : Answer A} → Follows m x y → n ≤ m → Follows n x y
  later (same {q = q} f h) n = same {q = q} (omega arith) h
  later (refused i) n = refused i
  later (cut i h) n = cut i h

  then : {A B : Type 0} {from : ℕ} {x y : Answer A} {k : A × Pos → Answer B} (l : A × Pos → Answer B) → Follows from x y →
      ((z : A × Pos) → from ≤ z.1.at → z.1.at ≤ length inp → Follows z.1.at (k z) (l (z.0, onward b z.1))) → Follows from (x >>= k) (y >>= l)
  unfolding ◌>>=◌
  then l (same {a = a} {q = q} f h) g = later (g (a, q) f h) f
  then l (refused i) g = refused i
  then l (cut i h) g = cut i h

  -- a field of n bytes that is there in the part, or is cut
  field_follows : {A : Type 0} {x y : Answer A} (n context : ℕ) (p : Pos) → p.at ≤ length inp → (p.at + n ≤ length inp → Follows p.at x y) →
      Follows p.at (pick (leb n (length inp - p.at)) x (Refused (Truncated context p.at))) (pick (leb n (length whole - (p.at + b))) y (Refused (Truncated context (p.at + b))))
  unfolding pick line_of
  field_follows {x = x} {y = y} n context p h f = by (leb n (length inp - p.at)) refl (leb (length whole) (b + length inp)) refl
    where
      by : (t : Bool) → leb n (length inp - p.at) ≡ t → (u : Bool) → leb (length whole) (b + length inp) ≡ u → Follows p.at (pick t x (Refused (Truncated context p.at))) (pick (leb n (length whole - (p.at + b))) y (Refused (Truncated context (p.at + b))))
      by true e u k =
          let l = leb-true n (length inp - p.at) e in
          rw (le-leb n (length whole - (p.at + b)) (omega (arith, stands_in whole b inp st))) (f (omega arith))
      by false e true k =
          let l = leb-false n (length inp - p.at) e in
          rw (lt-leb n (length whole - (p.at + b)) (omega (arith, leb-true (length whole) (b + length inp) k))) (refused_there refl h)
      by false e false k = cut h (leb-false _ _ k)

  number_follows : (w context : ℕ) (p : Pos) → p.at ≤ length inp → Follows p.at (number_of inp w context p) (number_of whole w context (onward b p))
  unfolding number_of
  number_follows w context p h = field_follows w context p h (λ i.
      let e : (p.at + b) + w ≡ (p.at + w) + b = omega arith in
      rw (e, number_same p.at w i) (same {q = onward w p} (omega arith) i))

  bytes_follows : (n context : ℕ) (p : Pos) → p.at ≤ length inp → Follows p.at (bytes_of inp n context p) (bytes_of whole n context (onward b p))
  unfolding bytes_of
  bytes_follows n context p h = field_follows n context p h (λ i.
      let e : (p.at + b) + n ≡ (p.at + n) + b = omega arith in
      rw (e, part_same p.at n i) (same {q = record { at = p.at + n; left = p.left; records = p.records; payload = p.payload + n }} (omega arith) i))

  -- a number, and then what is read on by it
  numbered : {B : Type 0} (k l : ℕ × Pos → Answer B) (w context : ℕ) (p : Pos) → p.at ≤ length inp →
      (p.at + w ≤ length inp → Follows p.at (k (le_at inp p.at w, onward w p)) (l (le_at inp p.at w, onward b (onward w p)))) → Follows p.at (number_of inp w context p >>= k) (number_of whole w context (onward b p) >>= l)
  unfolding number_of ◌>>=◌
  numbered k l w context p h g = rw (pick_then _ _ _ k, pick_then _ _ _ l) (field_follows w context p h (λ i.
      let e : (p.at + b) + w ≡ (p.at + w) + b = omega arith in
      rw (e, number_same p.at w i) (g i)))

  module _ (lim : Limits) where
    charge_follows : (cost r place : ℕ) (p : Pos) → p.at ≤ length inp → place ≤ length inp → Follows p.at (charged lim cost r place p) (charged lim cost r (place + b) (onward b p))
    unfolding charged line_of
    charge_follows cost r place p h l = either_both (Follows _) _ (λ e. same {q = record { at = p.at; left = p.left - cost; records = p.records + r; payload = p.payload }} (omega arith) h) (λ e. refused_there refl l)

    blob_follows : (code : ℕ) (p : Pos) → p.at ≤ length inp → Follows p.at (blob_of inp lim code p) (blob_of whole lim code (onward b p))
    unfolding blob_of line_of
    blob_follows code p h =
        then _ (number_follows 4 13 p h) (λ (n, q) f i.
        either_both (Follows _) _ (λ e. then _ (charge_follows n 0 p.at q i h) (λ (_, r) g j. then _ (bytes_follows n 14 r j) (λ (x, s) k l. same {q = s} (omega arith) l))) (λ e. refused_there refl h))

    -- two readings of children that follow each other
    module _ (rec rec' : Walker) (ok : (i : ℕ) (p : Pos) → p.at ≤ length inp → Follows p.at (rec i p) (rec' i (onward b p))) where
      child_follows : (n : Node) (tag place : ℕ) (p : Pos) → p.at ≤ length inp → place ≤ length inp → Follows p.at (child_of rec n tag place p) (child_of rec' n tag (place + b) (onward b p))
      unfolding child_of line_of
      child_follows n tag place p h l = either_both (Follows _) _ (λ e. ok (n.first + tag) p h) (λ e. refused_there refl l)

      fields_follows : (i n : ℕ) (p : Pos) → p.at ≤ length inp → Follows p.at (fields_of rec i n p) (fields_of rec' i n (onward b p))
      unfolding fields_of
      fields_follows i zero p h = same {q = p} (omega arith) h
      fields_follows i (suc n) p h = then _ (ok i p h) (λ (v, q) f l. then _ (fields_follows (i + 1) n q l) (λ (vs, r) g m. same {q = r} (omega arith) m))

      -- enough turns for the part, and enough for the whole
      pairs_follows : (n : Node) (w fuel fuel' : ℕ) (p : Pos) → p.at ≤ length inp → length inp - p.at < fuel → length whole - (p.at + b) < fuel' → Follows p.at (pairs_of inp rec n w fuel p) (pairs_of whole rec' n w fuel' (onward b p))
      unfolding pairs_of
      pairs_follows n w zero fuel' p h x y = absurd (omega arith)
      pairs_follows n w (suc fuel) zero p h x y = absurd (omega arith)
      pairs_follows n w (suc fuel) (suc fuel') p h x y = numbered _ _ w (14 + w) p h (λ i.
          either_both (Follows _) _ (λ e. same {q = onward w p} (omega arith) i)
          (λ e.
          let l = tag_long inp p.at w (eqb-false _ _ e) in
          later (then _ (child_follows n (le_at inp p.at w) p.at (onward w p) i h) (λ (v, r) f j.
          then _ (pairs_follows n w fuel fuel' r j (omega arith) (omega (arith, stands_in whole b inp st))) (λ (is, s) g m. same {q = s} (omega arith) m))) (omega arith)))

      value_follows : (n : Node) (f : Form) (p : Pos) → p.at ≤ length inp → Follows p.at (value_of inp lim rec n f p) (value_of whole lim rec' n f (onward b p))
      unfolding value_of line_of
      value_follows n empty p h = same {q = p} (omega arith) h
      value_follows n truth p h = then _ (number_follows 1 n.code p h) (λ (x, q) f i. same {q = q} (omega arith) i)
      value_follows n (fixed w) p h = then _ (number_follows w n.code p h) (λ (x, q) f i. same {q = q} (omega arith) i)
      value_follows n (raw w) p h = then _ (bytes_follows w n.code p h) (λ (x, q) f i. same {q = q} (omega arith) i)
      value_follows n sized p h = blob_follows n.code p h
      value_follows n (variant_form w) p h =
          then _ (number_follows w (14 + w) p h) (λ (tag, q) f i.
          then _ (child_follows n tag p.at q i h) (λ (v, r) g j. same {q = r} (omega arith) j))
      value_follows n (repeated_form w) p h = then _ (pairs_follows n w _ _ p h (omega arith) (omega arith)) (λ (is, q) f i. same {q = q} (omega arith) i)
      value_follows n tuple_form p h = then _ (fields_follows n.first n.children p h) (λ (vs, q) f i. same {q = q} (omega arith) i)
      value_follows n unknown p h = refused_here BadSchemaTable refl

    walk_follows : (sch : List ℕ) (d i : ℕ) (p : Pos) → p.at ≤ length inp → Follows p.at (walk sch inp lim d i p) (walk sch whole lim d i (onward b p))
    unfolding walk line_of
    walk_follows sch zero i p h = refused_here TooDeep refl
    walk_follows sch (suc d) i p h =
        then _ (charge_follows lim.charge 1 p.at p h h) (λ (_, q) f j.
        value_follows (walk sch inp lim d) (walk sch whole lim d) (walk_follows sch d) (node_at sch i) (form (node_at sch i).code) q j)

    module _ (f : Format) (at : ℕ) (h : at ≤ length inp) where
      root_follows : (t : ℕ) (l : Located) (q : Pos) → q.at ≤ length inp → Follows q.at (root_from f inp lim at t l q) (root_from f whole lim (at + b) t l (onward b q))
      unfolding root_from line_of
      root_follows t (Block first n) q i = then _ (walk_follows (block f.table first n) 64 0 q i) (λ (v, r) g j. same {q = r} (omega arith) j)
      root_follows t NoTable q i = refused_there refl h
      root_follows t NoEntry q i = refused_here (UnknownRegistryReference t) refl

      -- a row of the part, and the row of the whole that stands there
      pub row_follows : Follows at (row_at f inp lim at) (row_at f whole lim (at + b))
      unfolding row_at start
      row_follows = then _ (number_follows 2 17 (start lim at) h) (λ (t, q) g i. root_follows t (table_schema f t) q i)

-- ---- bytes after a row

-- nothing is moved by 0
pub moved_none : (r : Refusal) → moved 0 r ≡ r
unfolding moved pick
moved_none r = rw (add-zero, same_either (line_of r.why).moves r.place)
  where
    same_either : (b : Bool) (n : ℕ) → pick b n n ≡ n
    same_either true n = refl
    same_either false n = refl

-- a row that is not cut is read alike where more bytes come after
pub row_stays : (f : Format) (inp more : List ℕ) (lim : Limits) (at : ℕ) → at ≤ length inp → (WasCut (row_at f inp lim at) → ⊥) → row_at f (inp ++ more) lim at ≡ row_at f inp lim at
unfolding WasCut line_of
row_stays f inp more lim at h n = rw add-zero at (from n (row_follows 0 inp (inp ++ more) (stands_seam [] inp more) lim f at h))
  where
    from : {x y : Answer (ℕ × Value)} → (WasCut x → ⊥) → Follows 0 inp (inp ++ more) (stands_seam [] inp more) at x y → y ≡ x
    from n (same {a = a} {q = q} f h) = let e : q.at + 0 ≡ q.at = omega arith in rw e
    from n (refused {r = r} i) = rw (moved_none r)
    from n (cut i l) = absurd (n refl)

-- ---- a row further on

-- what is left of a list stands where it starts
stands_drop : (s : List ℕ) (n : ℕ) → n ≤ length s → Stands s n (drop n s)
stands_drop s n h = rw (append-nil, take-append-drop n s, length-take-le n s h) at (stands_seam (take n s) (drop n s) [])

-- a row n bytes further on is the row of the stream without its first n bytes, its places moved by n
pub row_moves : (f : Format) (inp : List ℕ) (lim : Limits) (n at : ℕ) → n ≤ length inp → at ≤ length (drop n inp) → row_at f inp lim (at + n) ≡ moved_answer n (row_at f (drop n inp) lim at)
unfolding moved_answer
row_moves f inp lim n at h l = from (row_follows n (drop n inp) inp (stands_drop inp n h) lim f at l)
  where
    from : {x y : Answer (ℕ × Value)} → Follows n (drop n inp) inp (stands_drop inp n h) at x y → y ≡ moved_answer n x
    from (same f h) = refl
    from (refused i) = refl
    from (cut i l) = absurd (omega (arith, length-drop n inp))

-- ---- places

-- a refused row has its place in the input
pub row_inside : (f : Format) (inp : List ℕ) (lim : Limits) (at : ℕ) → at ≤ length inp → (r : Refusal) → row_at f inp lim at ≡ Refused r → PlaceInside (length inp) r
unfolding line_of
row_inside f inp lim at h r e = from (rw e at (row_follows 0 inp inp (stands_self inp) lim f at h))
  where
    from : {r : Refusal} {y : Answer (ℕ × Value)} → Follows 0 inp inp (stands_self inp) at (Refused r) y → PlaceInside (length inp) r
    from (refused i) = i
    from (cut i l) = λ _. i
