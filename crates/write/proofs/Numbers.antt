-- A number that is written byte by byte: what is left to write, over what is written, is the whole.
-- Assumes nothing.
use Prim.Native.Nat.{ℕ, suc, ◌+◌, ◌-◌, ◌/◌, ◌%◌, ◌≤◌, ◌<◌}
use mathlib.Core.Path.{◌≡◌, refl, ap, ◌∙◌}
use mathlib.Core.List.{List, [], ◌++◌}
use native.Mathlib.Omega.{arith}
use native.Mathlib.Nat.{add-zero, sub-zero}
use borrow.Author.Tests.{lt-ltb, le-ltb, lt-leb, le-leb}
use lib.ListN.{length, set}
use Rattle.rules.specs.Choice.{pick}
use Rattle.rules.specs.Bytes.{le, part, over}
use Rattle.rules.specs.Wire.{form, width_of}
use Rattle.rules.proofs.Over.{over-at}
use Rattle.rules.proofs.Stands.{length-le}
use Rattle.leaves.specs.Fields.{payload_of_fixed}
use Rattle.write.specs.Putting.{leaf_kept, leaf_size, leaf_bytes}
use Rattle.write.specs.declared.put.WritePos.{WritePos}

module _ (s : List ℕ) (at w x : ℕ) where
  pub le-none : over s (at + 0) (le (w - 0) x) ≡ over s at (le w x)
  le-none = simp (add-zero, sub-zero)

  pub le-first : (n : ℕ) → over s at (le (suc n) x) ≡ over (set s at (x % 256)) (at + 1) (le n (x / 256))
  unfolding over le
  le-first n = refl

pub le_turn : (s : List ℕ) (at w x k : ℕ) → k < w → over s (at + k) (le (w - k) x) ≡ over (set s (at + k) (x % 256)) (at + (k + 1)) (le (w - (k + 1)) (x / 256))
le_turn s at w x k h =
    let e : w - k ≡ suc (w - (k + 1)) = omega arith in
    let f : (at + k) + 1 ≡ at + (k + 1) = omega arith in
    rw (e, ← f) (le-first s (at + k) w x (w - (k + 1)))

pub le-end : (s : List ℕ) (at w x k : ℕ) → w ≤ k → over s (at + k) (le (w - k) x) ≡ s
unfolding over le
le-end s at w x k h = let e : w - k ≡ 0 = omega arith in rw e

-- ---- bytes that are a number, or none

module _ (s : List ℕ) (to : ℕ) (bs : List ℕ) where
  pub nothing_put : bs ≡ [] → (to ≡ to + length bs) × (s ≡ over s to bs)
  unfolding over
  nothing_put e = rw e (omega arith, refl)

  module _ (w x : ℕ) (e : bs ≡ le w x) where
    pub number_room : (n : ℕ) → to + length bs ≤ n → to + w ≤ n
    number_room n h = omega (arith, h, ap length e, length-le w x)

    pub number_put : (s' : List ℕ) → s' ≡ over s to (le w x) → (to + w ≡ to + length bs) × (s' ≡ over s to bs)
    number_put s' h = (omega (arith, ap length e, length-le w x), rw e h)

-- ---- a value without children

pub record LeafIs (store : List ℕ) (code size content from k n : ℕ) (bytes : List ℕ) : Type 0 where
  pub kept : leaf_kept code size ≡ k
  pub long : leaf_size code size ≡ n
  pub bytes_are : leaf_bytes store code size content from ≡ bytes

module _ (store : List ℕ) (code size content from : ℕ) where
  pub blob_is : 12 < code → LeafIs store code size content from size (4 + size) (le 4 size ++ part store from size)
  unfolding leaf_kept leaf_size leaf_bytes pick
  blob_is h = let e = le-ltb code 13 h in record { kept = rw e; long = rw e; bytes_are = rw e }

  pub wide_is : (w : ℕ) → code ≤ 12 → w ≡ width_of (form code) → 8 < w → LeafIs store code size content from w w (part store from w)
  unfolding leaf_kept leaf_size leaf_bytes payload_of_fixed pick
  wide_is w h e l = let a = lt-ltb code 13 (omega arith) in let b = lt-leb w 8 l in record { kept = rw (a, ← e, b); long = rw (a, ← e); bytes_are = rw (a, ← e, b) }

  pub narrow_is : (w : ℕ) → code ≤ 12 → w ≡ width_of (form code) → w ≤ 8 → LeafIs store code size content from 0 w (le w content)
  unfolding leaf_kept leaf_size leaf_bytes payload_of_fixed pick
  narrow_is w h e l = let a = lt-ltb code 13 (omega arith) in let b = le-leb w 8 l in record { kept = rw (a, ← e, b); long = rw (a, ← e); bytes_are = rw (a, ← e, b) }

-- what it takes, of the payload and of the output
module _ (code size : ℕ) where
  abbrev Takes : ℕ → ℕ → Type 0
  Takes k n = (leaf_kept code size ≡ k) × (leaf_size code size ≡ n)

  pub blob_takes : 12 < code → Takes size (4 + size)
  blob_takes h = let l = blob_is [] code size 0 0 h in (l.kept, l.long)

  pub wide_takes : (w : ℕ) → code ≤ 12 → w ≡ width_of (form code) → 8 < w → Takes w w
  wide_takes w h e g = let l = wide_is [] code size 0 0 w h e g in (l.kept, l.long)

  pub narrow_takes : (w : ℕ) → code ≤ 12 → w ≡ width_of (form code) → w ≤ 8 → Takes 0 w
  narrow_takes w h e g = let l = narrow_is [] code size 0 0 w h e g in (l.kept, l.long)

-- what was put is the leaf's
pub leaf_put : (store : List ℕ) (code size content from k n : ℕ) (bytes : List ℕ) → LeafIs store code size content from k n bytes → (at to : ℕ) (q : WritePos) (s s' : List ℕ) →
    q ≡ record { at = at + 1; from = from + k; to = to + n } → s' ≡ over s to bytes →
    (q ≡ record { at = at + 1; from = from + leaf_kept code size; to = to + leaf_size code size }) × (s' ≡ over s to (leaf_bytes store code size content from))
leaf_put store code size content from k n bytes l at to q s s' e h = (rw (l.kept, l.long) e, rw l.bytes_are h)

-- the length, and then the bytes
pub blob_put : (s a b bytes : List ℕ) (to n : ℕ) → a ≡ over s to (le 4 n) → b ≡ over a (to + 4) bytes → b ≡ over s to (le 4 n ++ bytes)
blob_put s a b bytes to n e h = h ∙ rw e (over-at (le 4 n) bytes s to (to + 4) (rw length-le))
