-- Piece after piece: what is left of the listing is the pieces from a position on.
-- Assumes nothing.
use Prim.Native.Nat.{ℕ, zero, suc, ◌+◌, ◌-◌, ◌≤◌, ◌<◌}
use mathlib.Core.Path.{◌≡◌, refl, sym, ap, ◌∙◌}
use mathlib.Core.List.{List, [], ◌∷◌}
use native.Mathlib.Omega.{arith}
use native.Mathlib.Nat.{add-zero}
use lib.ListN.{length, get_or, take, drop, length-drop}
use lib.Seq.{get_or-drop, drop-drop}
use Rattle.rules.specs.Bytes.{Bytes}
use Rattle.rules.specs.Listing.{Piece, row_piece, last_piece, files_piece, and_then, pieces_from, pieces}
use Rattle.listing_lines.specs.Pieces.{PieceShown, shown_length, piece_shown}
use Rattle.listing_lines.specs.declared.pieces.Shown.{Shown}
use Rattle.listing_lines.specs.declared.pieces.Shown.TheVariants.{Row, Last, NoRoom}
use Rattle.listing_lines.proofs.FromDecode.{files_piece_goes, row_shown, last_shown, some_shown}
use Rattle.listings.specs.Telling.{IsPiece}

-- the piece is no longer than its room
pub row_end : (s : Shown) (end bytes : ℕ) → s ≡ Row end bytes → shown_length s ≤ 655360 → end ≤ 655360
unfolding shown_length
row_end s end bytes e h = rw e at h

pub last_end : (s : Shown) (end : ℕ) → s ≡ Last end → shown_length s ≤ 655360 → end ≤ 655360
unfolding shown_length
last_end s end e h = rw e at h

module _ (schema names stream : List ℕ) where
  pub record Telling (row at : ℕ) : Type 0 where
    pub within : at ≤ length stream
    pub few : row ≤ at
    pub enough : ℕ
    pub left : length stream - at < enough
    pub rest : drop row (pieces schema names stream) ≡ pieces_from schema names stream enough row at

  pub telling_first : Telling 0 0
  unfolding pieces
  telling_first = record { within = omega arith; few = omega arith; enough = suc (length stream); left = omega arith; rest = refl }

  module _ (row at : ℕ) (t : Telling row at) where
    opened : (n : ℕ) → 0 < n → pieces_from schema names stream n row at ≡ and_then (pieces_from schema names stream (n - 1) (row + 1)) at (files_piece schema names stream row at)
    unfolding pieces_from
    opened zero h = absurd (omega arith)
    opened (suc n) h = let e : suc n - 1 ≡ n = omega arith in rw e

    here : (p : Piece) → files_piece schema names stream row at ≡ p → drop row (pieces schema names stream) ≡ and_then (pieces_from schema names stream (t.enough - 1) (row + 1)) at p
    here p e = t.rest ∙ opened t.enough (omega (arith, t.left)) ∙ ap (and_then (pieces_from schema names stream (t.enough - 1) (row + 1)) at) e

    -- the first of what is left is piece `row`
    first_is : (x : List ℕ) (xs : List (List ℕ)) → drop row (pieces schema names stream) ≡ x ∷ xs → IsPiece schema names stream row x
    first_is x xs e = record {
      there = let l : length (pieces schema names stream) - row ≡ suc (length xs) = sym (length-drop row (pieces schema names stream)) ∙ ap length e in omega (arith, l);
      is = let g : get_or (drop row (pieces schema names stream)) 0 [] ≡ get_or (pieces schema names stream) (row + 0) [] = get_or-drop row (pieces schema names stream) 0 [] in (rw (e, add-zero row) at g);
    }

    pub row_is : (x : List ℕ) (bytes : ℕ) → files_piece schema names stream row at ≡ row_piece x bytes → IsPiece schema names stream row x
    unfolding and_then
    row_is x bytes e = first_is x _ (here _ e)

    pub telling_next : Bytes stream → (x : List ℕ) (bytes : ℕ) → files_piece schema names stream row at ≡ row_piece x bytes → Telling (row + 1) (at + bytes)
    unfolding and_then
    telling_next bs x bytes e =
        let g = files_piece_goes schema names stream row at bs x bytes e in
        record {
          within = g.1;
          few = omega (arith, g.0, t.few);
          enough = t.enough - 1;
          left = omega (arith, t.left, g.0, g.1);
          rest = sym (drop-drop 1 row (pieces schema names stream)) ∙ ap (drop 1) (here _ e);
        }

    pub last_is : (x : List ℕ) → files_piece schema names stream row at ≡ last_piece x → IsPiece schema names stream row x × (row + 1 ≡ length (pieces schema names stream))
    unfolding and_then
    last_is x e =
        let p = first_is x [] (here _ e) in
        let l : length (pieces schema names stream) - row ≡ 1 = sym (length-drop row (pieces schema names stream)) ∙ ap length (here _ e) in
        (p, omega (arith, l))

    -- what stands in the buffer
    module _ (text : List ℕ) (roomy : 655360 ≤ length text) (x : PieceShown) (is : x ≡ piece_shown schema names stream row at text) where
      pub row_handed : (end bytes : ℕ) → x.shown ≡ Row end bytes → end ≤ 655360 → IsPiece schema names stream row (take end x.text)
      row_handed end bytes e h = row_is _ bytes (row_shown schema names stream row at text roomy x is end bytes e h)

      pub row_goes : Bytes stream → (end bytes : ℕ) → x.shown ≡ Row end bytes → end ≤ 655360 → (2 ≤ bytes) × (at + bytes ≤ length stream)
      row_goes bs end bytes e h = files_piece_goes schema names stream row at bs _ bytes (row_shown schema names stream row at text roomy x is end bytes e h)

      pub row_told : Bytes stream → (end bytes : ℕ) → x.shown ≡ Row end bytes → end ≤ 655360 → Telling (row + 1) (at + bytes)
      row_told bs end bytes e h = telling_next bs _ bytes (row_shown schema names stream row at text roomy x is end bytes e h)

      pub last_handed : (end : ℕ) → x.shown ≡ Last end → end ≤ 655360 → IsPiece schema names stream row (take end x.text) × (row + 1 ≡ length (pieces schema names stream))
      last_handed end e h = last_is _ (last_shown schema names stream row at text roomy x is end e h)

      pub never : {A : Type 0} → x.shown ≡ NoRoom → A
      never e = absurd (some_shown schema names stream row at text roomy x is e)
