-- What the writing rule accepts conforms, is within the limit, and is written canonically; and it accepts all such values.
-- Assumes nothing.
use Prim.Native.Nat.{ℕ, zero, suc, ◌+◌, ◌<◌}
use mathlib.Core.Path.{◌≡◌, refl, sym, ap}
use mathlib.Core.List.{List, ◌++◌}
use mathlib.Core.Logic.{◌↔◌}
use native.Mathlib.Omega.{arith}
use borrow.Author.Tests.{lt-ltb, le-leb, eq-eqb, leb-true, eqb-true}
use lib.ListN.{length}
use Rattle.rules.specs.Choice.{pick}
use Rattle.rules.specs.Bytes.{le}
use Rattle.rules.specs.Wire.{Form, form, width_of}
use Rattle.rules.specs.Schema.{Name, Schema, node, Schemas, count, child}
use Rattle.rules.specs.Block.{node_at, Denotes, denotes, DenoteAll, no_node, a_node}
use Rattle.rules.specs.Value.{Value, nothing, boolean, number, wide, blob, variant, repeated, tuple, Items, done, item, Values, none, more, values, records_of, Within, WithinI, WithinV, Fits, FitsI, FitsV}
use Rattle.rules.specs.Grammar.{Conforms, conforms, Suits, s_nothing, s_boolean, s_number, s_wide, s_blob, s_variant, s_repeated, s_tuple, SuitI, s_done, s_item, SuitV, s_none, s_more, form_of, children_of, bytes_v, bytes_i, bytes_f, encoded, encoded_row}
use Rattle.rules.specs.Walk.{Limits, blob_limit}
use Rattle.rules.specs.Writing.{Wrote, Put, ◌>>=◌, kind_for, fitting, tagged, write, write_i, write_v, write_row}
use Rattle.rules.proofs.Tests.{either}
use Rattle.value_laws.proofs.Says.{Any, WroteSays, puts, refuses, then, put, fits, tags}
use Rattle.value_laws.proofs.Codes.{empty_code, truth_code, plain, scalar_taken, nothing_taken, boolean_taken, variant_taken, repeated_taken, tuple_taken}

module _ (sch store : List ℕ) where
  -- a node has as many children as the schema that it denotes
  pub denote_count : {j n : ℕ} {ss : Schemas} → DenoteAll sch store j n ss → count ss ≡ n
  unfolding count
  denote_count no_node = refl
  denote_count (a_node a b) = ap suc (denote_count b)

  -- the child that a tag names is denoted by the node that the tag names
  pub denote_child : {j n : ℕ} {ss : Schemas} → DenoteAll sch store j n ss → (t : ℕ) → t < n → Denotes sch store (j + t) (child ss t)
  unfolding child
  denote_child no_node t h = absurd (omega arith)
  denote_child (a_node {i = j} a b) zero h = let z : j + 0 ≡ j = omega arith in rw z a
  denote_child (a_node {i = j} a b) (suc t) h = let z : j + suc t ≡ (j + 1) + t = omega arith in rw z (denote_child b t (omega arith))

  -- a tuple's values are as many as the node's children
  denote_values : {j n : ℕ} {ss : Schemas} {vs : Values} → SuitV ss vs → DenoteAll sch store j n ss → values vs ≡ n
  unfolding values
  denote_values s_none no_node = refl
  denote_values {j = j} (s_more c h) (a_node d a) = ap suc (denote_values {j = j + 1} h a)

-- v conforms to the schema, each blob is within the limit of its kind, and b is the canonical writing
pub record Fair (lim : Limits) (s : Schema) (v : Value) (b : List ℕ) : Type 0 where
  pub conforms : Conforms s v
  pub within : Within (blob_limit lim) v
  pub bytes : b ≡ encoded s v

-- the same of pairs with tags of w bytes, and of a tuple's children
record FairI (lim : Limits) (w : ℕ) (ss : Schemas) (is : Items) (b : List ℕ) : Type 0 where
  suits : SuitI ss is
  within : WithinI (blob_limit lim) is
  bytes : b ≡ bytes_i is w ss

record FairV (lim : Limits) (ss : Schemas) (vs : Values) (b : List ℕ) : Type 0 where
  suits : SuitV ss vs
  within : WithinV (blob_limit lim) vs
  bytes : b ≡ bytes_f vs ss

module _ (sch store : List ℕ) (lim : Limits) where
  -- the pairs of a repeated node, and the children of a tuple
  items_fair : (k : ℕ) (ss : Schemas) (is : Items) {m : Name} {w : Wrote} → 16 ≡ kind_for k (form k) → WroteSays (FairI lim (width_of (form k)) ss is) Any w → WroteSays (Fair lim (node k m ss) (repeated is)) Any w
  unfolding encoded bytes_v form_of children_of Within
  items_fair k ss is q (puts y) =
      let z : Suits (form k) k ss (repeated is) = rw (repeated_taken k q) (s_repeated y.suits) in
      puts (record { conforms = conforms z; within = y.within; bytes = y.bytes })
  items_fair k ss is q (refuses h) = refuses h

  values_fair : (k : ℕ) (ss : Schemas) (vs : Values) {m : Name} {w : Wrote} → 17 ≡ kind_for k (form k) → WroteSays (FairV lim ss vs) Any w → WroteSays (Fair lim (node k m ss) (tuple vs)) Any w
  unfolding encoded bytes_v form_of children_of Within
  values_fair k ss vs q (puts y) =
      let z : Suits (form k) k ss (tuple vs) = rw (tuple_taken k q) (s_tuple y.suits) in
      puts (record { conforms = conforms z; within = y.within; bytes = y.bytes })
  values_fair k ss vs q (refuses h) = refuses h

  mutual
    unfolding write Within encoded bytes_v form_of children_of Fits values plain Any

    -- what is written is so canonically
    write_fair : (v : Value) (i r : ℕ) {s : Schema} → Denotes sch store i s → Fits v → WroteSays (Fair lim s v) Any (write sch lim v i r)
    write_fair nothing i r (denotes {k = k} {ss = ss} l e m a) h = fits sch lim 0 i r (λ n. tt) (λ q.
        let z : Suits (form k) k ss nothing = rw (nothing_taken k (rw e at q)) s_nothing in
        puts (record { conforms = conforms z; within = tt; bytes = refl }))
    write_fair (boolean x) i r (denotes {k = k} {ss = ss} l e m a) h = fits sch lim 1 i r (λ n. tt) (λ q.
        let z : Suits (form k) k ss (boolean x) = rw (boolean_taken k (rw e at q)) s_boolean in
        puts (record { conforms = conforms z; within = tt; bytes = refl }))
    write_fair (number c x) i r (denotes {k = k} {ss = ss} l e m a) h = fits sch lim c i r (λ n. tt) (λ q.
        let z : Suits (form k) k ss (number c x) = rw (scalar_taken c k (rw h.1.0) (rw e at q), h.1.0) s_number in
        puts (record { conforms = conforms z; within = tt; bytes = rw e }))
    write_fair (wide c x) i r (denotes {k = k} {ss = ss} l e m a) h = fits sch lim c i r (λ n. tt) (λ q.
        let z : Suits (form k) k ss (wide c x) = rw (scalar_taken c k (rw h) (rw e at q), h) s_wide in
        puts (record { conforms = conforms z; within = tt; bytes = refl }))
    write_fair (blob c x) i r (denotes {k = k} {ss = ss} l e m a) h = fits sch lim c i r (λ n. tt) (λ q.
        let z : Suits (form k) k ss (blob c x) = rw (scalar_taken c k (rw h.0) (rw e at q), h.0) s_blob in
        either (WroteSays _ _) _ (λ n. puts (record { conforms = conforms z; within = leb-true (length x) (blob_limit lim c) n; bytes = refl })) (λ n. refuses tt))
    write_fair (variant t v) i r (denotes {k = k} {ss = ss} l e m a) h = fits sch lim 15 i r (λ n. tt) (λ q. tags sch lim t i (r + 1) (λ n. tt) (λ n.
        let lt : t < count ss = rw (denote_count sch store a) n in
        then (write_fair v ((node_at sch i).first + t) (r + 1) (denote_child sch store a t n) h.1) (λ x y.
        let z : Suits (form k) k ss (variant t v) = rw (variant_taken k (rw e at q)) (s_variant lt y.conforms) in
        puts (record { conforms = conforms z; within = y.within; bytes = rw (e, y.bytes) }))))
    write_fair (repeated is) i r (denotes {k = k} {ss = ss} l e m a) h = fits sch lim 16 i r (λ n. tt) (λ q.
        items_fair k ss is (rw e at q) (write_i_fair is i (r + 1) k e a h))
    write_fair (tuple vs) i r (denotes {k = k} {ss = ss} l e m a) h = fits sch lim 17 i r (λ n. tt) (λ q.
        either (WroteSays _ _) _ (λ n. values_fair k ss vs (rw e at q) (write_v_fair vs (node_at sch i).first (r + 1) a (eqb-true (values vs) (node_at sch i).children n) h)) (λ n. refuses tt))

    write_i_fair : (is : Items) (i r k : ℕ) {ss : Schemas} → (node_at sch i).code ≡ k → DenoteAll sch store (node_at sch i).first (node_at sch i).children ss → FitsI is → WroteSays (FairI lim (width_of (form k)) ss is) Any (write_i sch lim is i r)
    write_i_fair done i r k e a h = rw e (puts (record { suits = s_done; within = tt; bytes = refl }))
    write_i_fair (item t v is) i r k {ss = ss} e a h = tags sch lim t i r (λ n. tt) (λ n.
        let lt : t < count ss = rw (denote_count sch store a) n in
        then (write_fair v ((node_at sch i).first + t) r (denote_child sch store a t n) h.1.0) (λ x y.
        then (write_i_fair is i (r + records_of v) k e a h.1.1) (λ u z.
        puts (record { suits = s_item lt y.conforms z.suits; within = (y.within, z.within); bytes = rw (e, y.bytes, z.bytes) }))))

    write_v_fair : (vs : Values) (j r : ℕ) {n : ℕ} {ss : Schemas} → DenoteAll sch store j n ss → values vs ≡ n → FitsV vs → WroteSays (FairV lim ss vs) Any (write_v sch lim vs j r)
    write_v_fair none j r no_node q h = puts (record { suits = s_none; within = tt; bytes = refl })
    write_v_fair none j r (a_node d a) q h = absurd (omega arith)
    write_v_fair (more v vs) j r no_node q h = absurd (omega arith)
    write_v_fair (more v vs) j r (a_node d a) q h =
        then (write_fair v j r d h.0) (λ x y.
        then (write_v_fair vs (j + 1) (r + records_of v) a (omega arith) h.1) (λ u z.
        puts (record { suits = s_more y.conforms z.suits; within = (y.within, z.within); bytes = rw (y.bytes, z.bytes) })))

  mutual
    unfolding write Within encoded bytes_v form_of children_of width_of values fitting tagged pick ◌>>=◌ kind_for

    -- all that conforms within the limit is written
    write_all : {s : Schema} {v : Value} → Conforms s v → (i r : ℕ) → Denotes sch store i s → Within (blob_limit lim) v → write sch lim v i r ≡ Put (encoded s v)
    write_all (conforms h) i r (denotes l e m a) n = suits_all h i r e refl a n

    suits_all : {f : Form} {k : ℕ} {ss : Schemas} {v : Value} → Suits f k ss v → (i r : ℕ) → (node_at sch i).code ≡ k → f ≡ form k →
        DenoteAll sch store (node_at sch i).first (node_at sch i).children ss → Within (blob_limit lim) v → write sch lim v i r ≡ Put (bytes_v v f ss)
    suits_all (s_nothing {k = k}) i r e q a n = rw (e, ← q, empty_code k (sym q))
    suits_all (s_boolean {k = k}) i r e q a n = rw (e, ← q, truth_code k (sym q))
    suits_all (s_number {k = k}) i r e q a n = rw (e, ← q, eq-eqb k k refl)
    suits_all (s_wide {k = k}) i r e q a n = rw (e, ← q, eq-eqb k k refl)
    suits_all (s_blob {k = k} {x = x}) i r e q a n = rw (e, ← q, eq-eqb k k refl, le-leb (length x) (blob_limit lim k) n)
    suits_all (s_variant {t = t} {ss = ss} l c) i r e q a n =
        let lt : t < (node_at sch i).children = rw (denote_count sch store a) at l in
        rw (e, ← q, lt-ltb t (node_at sch i).children lt, write_all c ((node_at sch i).first + t) (r + 1) (denote_child sch store a t lt) n)
    suits_all (s_repeated {w = w} h) i r e q a n =
        let x : width_of (form (node_at sch i).code) ≡ w = rw (e, ← q) in
        rw (e, ← q, items_all h i (r + 1) x a n)
    suits_all (s_tuple {vs = vs} h) i r e q a n =
        rw (e, ← q, eq-eqb (values vs) (node_at sch i).children (denote_values sch store h a), values_all h (node_at sch i).first (r + 1) a n)

    items_all : {w : ℕ} {ss : Schemas} {is : Items} → SuitI ss is → (i r : ℕ) → width_of (form (node_at sch i).code) ≡ w →
        DenoteAll sch store (node_at sch i).first (node_at sch i).children ss → WithinI (blob_limit lim) is → write_i sch lim is i r ≡ Put (bytes_i is w ss)
    items_all s_done i r x a n = rw x
    items_all (s_item {t = t} {ss = ss} {v = v} l c h) i r x a n =
        let lt : t < (node_at sch i).children = rw (denote_count sch store a) at l in
        rw (lt-ltb t (node_at sch i).children lt, write_all c ((node_at sch i).first + t) r (denote_child sch store a t lt) n.0, items_all h i (r + records_of v) x a n.1, x)

    values_all : {ss : Schemas} {vs : Values} → SuitV ss vs → (j r : ℕ) {n : ℕ} → DenoteAll sch store j n ss → WithinV (blob_limit lim) vs → write_v sch lim vs j r ≡ Put (bytes_f vs ss)
    values_all s_none j r a n = refl
    values_all (s_more {v = v} c h) j r (a_node d a) n = rw (write_all c j r d n.0, values_all h (j + 1) (r + records_of v) a n.1)

-- v conforms to the schema of a row, each blob is within the limit of its kind, and b is the canonical row
pub record FairRow (lim : Limits) (s : Schema) (v : Value) (b : List ℕ) : Type 0 where
  pub conforms : Conforms s v
  pub within : Within (blob_limit lim) v
  pub bytes : b ≡ encoded_row s v

-- The rule writes b just if the value conforms, its blobs are within the limit, and b is table tag 0 and the value's canonical writing.
pub writes_row : (sch store : List ℕ) (lim : Limits) (v : Value) (s : Schema) (b : List ℕ) → Denotes sch store 0 s → Fits v → (write_row sch lim v ≡ Put b) ↔ FairRow lim s v b
unfolding write_row encoded_row ◌>>=◌
writes_row sch store lim v s b d h = (λ e. put (rw e at good), λ f. rw (write_all sch store lim f.conforms 0 0 d f.within, f.bytes))
  where
    good : WroteSays (FairRow lim s v) Any (write_row sch lim v)
    good = then (write_fair sch store lim v 0 0 d h) (λ x y. puts (record { conforms = y.conforms; within = y.within; bytes = ap (λ (z : List ℕ). le 2 0 ++ z) y.bytes }))
