-- What is told of a record, by its kind.
-- Assumes nothing.
use Prim.Native.Nat.{ℕ, ◌+◌, ◌≤◌, ◌<◌}
use mathlib.Core.Path.{◌≡◌, refl}
use mathlib.Core.Bool.{true, false}
use mathlib.Core.List.{List, [], ◌∷◌, ◌++◌, append_assoc}
use native.Mathlib.Omega.{arith}
use borrow.Author.Tests.{lt-ltb, le-ltb, eq-eqb, ne_eqb}
use lib.IntN.{ℤ}
use lib.ListN.{length}
use mir.Syntax.{w64}
use mir.Val.{SFits, of_z, to_z}
use mir.ValLaws.{to_z-of_z}
use Rattle.std.specs.List.{between}
use Rattle.rules.specs.Choice.{pick}
use Rattle.rules.specs.Wire.{form, width_of}
use Rattle.rules.specs.Names.{ascii}
use Rattle.rules.specs.Refusals.{report_of}
use Rattle.rules.specs.Lines.{decimal}
use Rattle.rules.specs.declared.refusal.Refusal.{Refusal}
use Rattle.rules.specs.declared.refusal.Report.{Report}
use Rattle.rules.specs.Query.{signed}
use Rattle.rules.specs.Numerals.{integer_in, integer_text}
use Rattle.rules.specs.Listing.{hex_number, hex_bytes, kind_word, number_text, listing_line, refusal_line}
use Rattle.rules.specs.declared.table_record.ValueRecord.{ValueRecord}
use Rattle.rules.proofs.Slices.{part-between}
use Rattle.query.proofs.Says.{signed_fits}
use Rattle.lines.specs.Puts.{TextPut}
use Rattle.text_hex.proofs.Texts.{text_of_part}
use Rattle.texts.specs.Records.{is_stored, kept, IsNumber, payload_text, bytes_text, content_text, line_front, record_line}

-- ---- the bits of a number

module _ (s t : List ℕ) (at end kind x : ℕ) where
  pub put_signed : IsNumber kind x → kind < 8 → (w : ℕ) → w ≡ width_of (form kind) → (z : ℤ) → z ≡ signed w x → TextPut s at (integer_in 10 (to_z w64 (of_z w64 z))) t end → TextPut s at (number_text kind x) t end
  unfolding number_text pick
  put_signed n h w f z e p =
      let k : SFits w64 z = rw (e, f) (signed_fits (width_of (form kind)) x n.narrow n.fits) in
      rw (lt-ltb kind 8 h, ← f, ← e) (rw (to_z-of_z w64 z k) at p)

  pub put_unsigned : 8 ≤ kind → kind < 12 → TextPut s at (decimal x) t end → TextPut s at (number_text kind x) t end
  unfolding number_text pick
  put_unsigned h l p = rw (le-ltb kind 8 h, lt-ltb kind 12 l) p

  pub put_double : 12 ≤ kind → TextPut s at (hex_number 16 x) t end → TextPut s at (number_text kind x) t end
  unfolding number_text pick
  put_double h p = rw (le-ltb kind 8 (omega arith), le-ltb kind 12 h) p

-- ---- payload

module _ (s t payload : List ℕ) (at end kind : ℕ) where
  pub put_integer_payload : kind < 8 → TextPut s at (integer_text payload) t end → TextPut s at (bytes_text kind payload) t end
  unfolding bytes_text pick
  put_integer_payload h p = rw (lt-ltb kind 8 h) p

  pub put_blob_payload : 8 ≤ kind → TextPut s at (hex_bytes payload) t end → TextPut s at (bytes_text kind payload) t end
  unfolding bytes_text pick
  put_blob_payload h p = rw (le-ltb kind 8 h) p

-- the slice of a store that the payload is
pub payload_slice : (kind : ℕ) (store : List ℕ) (from count : ℕ) → from + count ≤ length store → bytes_text kind (between from (from + count) store) ≡ payload_text kind store from count
unfolding bytes_text payload_text
payload_slice kind store from count h = rw (text_of_part store from count h, part-between store from (from + count) count refl h)

-- ---- a record's size and content

pub kept_is : (r : ValueRecord) → is_stored r.kind ≡ true → kept r ≡ r.size
unfolding kept pick
kept_is r h = rw h

module _ (s t store : List ℕ) (at end : ℕ) (r : ValueRecord) where
  pub put_stored : is_stored r.kind ≡ true → TextPut s at (payload_text r.kind store r.content r.size) t end → TextPut s at (content_text r store) t end
  unfolding content_text pick
  put_stored h p = rw h p

  module _ (h : is_stored r.kind ≡ false) where
    pub put_count : 14 < r.kind → TextPut s at (decimal r.size) t end → TextPut s at (content_text r store) t end
    unfolding content_text pick
    put_count l p = rw (h, lt-ltb 14 r.kind l) p

    module _ (l : r.kind ≤ 14) where
      pub put_nothing : r.kind ≡ 0 → TextPut s at (ascii "-") t end → TextPut s at (content_text r store) t end
      unfolding content_text pick
      put_nothing e p = rw (h, le-ltb 14 r.kind l, eq-eqb r.kind 0 e) p

      module _ (n : r.kind ≡ 0 → ⊥) where
        pub put_truth : r.kind ≡ 1 → TextPut s at (decimal r.content) t end → TextPut s at (content_text r store) t end
        unfolding content_text pick
        put_truth e p = rw (h, le-ltb 14 r.kind l, ne_eqb r.kind 0 n, eq-eqb r.kind 1 e) p

        pub put_the_number : (r.kind ≡ 1 → ⊥) → TextPut s at (number_text r.kind r.content) t end → TextPut s at (content_text r store) t end
        unfolding content_text pick
        put_the_number m p = rw (h, le-ltb 14 r.kind l, ne_eqb r.kind 0 n, ne_eqb r.kind 1 m) p

-- ---- a line

pub put_the_line : (s t store : List ℕ) (at end row depth : ℕ) (r : ValueRecord) (w : List ℕ) → w ≡ kind_word r.kind →
    TextPut s at (line_front row depth r.tag ++ ((ascii " " ++ w) ++ ((ascii " " ++ content_text r store) ++ (10 ∷ [])))) t end → TextPut s at (record_line row depth r store) t end
unfolding record_line listing_line line_front
put_the_line s t store at end row depth r w e p =
    let rest : List ℕ = (ascii " " ++ kind_word r.kind) ++ ((ascii " " ++ content_text r store) ++ (10 ∷ [])) in
    let d : List ℕ = ascii " " ++ decimal depth in
    let g : List ℕ = ascii " " ++ decimal r.tag in
    rw (← (append_assoc d g rest), ← (append_assoc (decimal row) (d ++ g) rest)) (rw e at p)

-- ---- the line of a refusal

pub put_refusal : (s t : List ℕ) (end : ℕ) (r : Refusal) (n : Report) → n ≡ report_of r → TextPut s 0 ((ascii "refused " ++ decimal n.number) ++ ((ascii " " ++ decimal n.place) ++ (10 ∷ []))) t end → TextPut s 0 (refusal_line r) t end
unfolding refusal_line report_of
put_refusal s t end r n e p = rw e at p
