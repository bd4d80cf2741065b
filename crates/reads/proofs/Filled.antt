-- A slice that is filled by one read after another.
-- Assumes nothing.
use Rattle.std.proofs.Common.{◌≡◌, ℕ, ◌+◌, ◌≤◌, List, ◌++◌, length, take, drop, Option, None, Some, ap, ◌∙◌, append_assoc}
use Rattle.std.proofs.lemmas.List.{take-append-le, length-take-le}
use lib.Seq.{take-append-add}
use borrow.Rule.Slice.PartMut.{put_mid}
use Rattle.std.specs.Io.KnownBytes.{Consumes}

-- n more bytes behind the first d
pub filled_more : (d k n : ℕ) (xs ys : List ℕ) → d ≤ length xs → n ≤ length ys → take (d + n) (put_mid d k xs ys) ≡ take d xs ++ take n ys
filled_more d k n xs ys h l =
    let size = length-take-le d xs h in
    rw size at (take-append-add (take d xs) (ys ++ drop k (drop d xs)) n) ∙ ap (λ (zs : List ℕ). take d xs ++ zs) (take-append-le n ys (drop k (drop d xs)) l)

-- two reads are one
pub consumes_more : (old mid new : Option (List ℕ)) (xs ys : List ℕ) → Consumes old mid xs → Consumes mid new ys → Consumes old new (xs ++ ys)
consumes_more None mid new xs ys p q = tt
consumes_more (Some a) None new xs ys p q = absurd p
consumes_more (Some a) (Some b) None xs ys p q = q
consumes_more (Some a) (Some b) (Some c) xs ys p q = rw (p, q, append_assoc)
