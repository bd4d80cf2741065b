-- Digits put one behind another.
-- Assumes nothing.
use Prim.Native.Nat.{ℕ, zero, suc, ◌+◌, ◌-◌, ◌*◌, ◌/◌, ◌%◌, ◌≤◌, ◌<◌}
use mathlib.Core.Path.{◌≡◌, refl, ◌∙◌}
use mathlib.Core.List.{List, [], ◌∷◌}
use native.Mathlib.Omega.{arith}
use lib.ListN.{length, get_or, set, length-set}
use Rattle.rules.specs.Bytes.{part, over}
use Rattle.rules.proofs.Stands.{length_part}
use Rattle.wire.proofs.Parts.{part_none, part_step, part_end}
use Rattle.rules.specs.Choice.{pick}
use Rattle.rules.specs.Names.{ascii}
use Rattle.rules.specs.Lines.{is_none}
use Rattle.rules.specs.Numerals.{digit}
use Rattle.rules.specs.Listing.{hex, hex_number, hex_bytes}
use Rattle.lines.specs.Puts.{TextPut}
use Rattle.lines.proofs.Putting.{put_both, put_none, put_digit}

-- ---- bytes in hex, turn by turn: what is left to put, over what is put, is the whole

length-hex : (bs : List ℕ) → length (hex bs) ≡ 2 * length bs
unfolding hex
length-hex [] = refl
length-hex (b ∷ bs) = omega (arith, length-hex bs)

module _ (s₀ store : List ℕ) (at from count : ℕ) where
  pub record PutsHex (s : List ℕ) (k next : ℕ) : Type 0 where
    pub within : k ≤ count
    pub position : next ≡ at + 2 * k
    pub size : length s ≡ length s₀
    pub left : over s next (hex (part store (from + k) (count - k))) ≡ over s₀ at (hex (part store from count))

  pub puts_hex_none : PutsHex s₀ 0 at
  puts_hex_none = record { within = omega arith; position = omega arith; size = refl; left = rw (part_none store from count) }

  module _ (s : List ℕ) (k next : ℕ) (p : PutsHex s k next) where
    pub puts_hex_turn : (x y : ℕ) → k < count → x ≡ digit (get_or store (from + k) 0 / 16) → y ≡ digit (get_or store (from + k) 0 % 16) → PutsHex (set (set s next x) (next + 1) y) (k + 1) (next + 2)
    unfolding over hex
    puts_hex_turn x y h d e =
        let n : (next + 1) + 1 ≡ next + 2 = omega arith in
        let f : hex (part store (from + k) (count - k)) ≡ x ∷ y ∷ hex (part store (from + (k + 1)) (count - (k + 1))) = rw (d, e, part_step store from count k h) in
        record {
          within = omega arith;
          position = omega (arith, p.position);
          size = length-set (set s next x) (next + 1) y ∙ length-set s next x ∙ p.size;
          left = rw (← n) (rw f at p.left);
        }

    pub puts_hex_end : count ≤ k → TextPut s₀ at (hex (part store from count)) s next × (next ≡ at + 2 * count)
    unfolding over hex
    puts_hex_end h =
        let e : k ≡ count = omega (arith, p.within) in
        (record { holds = rw (part_end store (from + k) count k h) at p.left; ends = omega (arith, p.position, e, length-hex (part store from count), length_part store from count) }, omega (arith, p.position, e))

-- ---- a number by so many digits

pub put_no_digits : (s : List ℕ) (at count x : ℕ) → count ≡ 0 → TextPut s at (hex_number count x) s at
unfolding hex_number
put_no_digits s at count x e = rw e (put_none s at)

pub put_one_more : (s₀ s : List ℕ) (at last count x d : ℕ) → (count ≡ 0 → ⊥) → TextPut s₀ at (hex_number (count - 1) (x / 16)) s last → d ≡ digit (x % 16) → TextPut s₀ at (hex_number count x) (set s last d) (last + 1)
unfolding hex_number
put_one_more s₀ s at last zero x d h p e = absurd (h refl)
put_one_more s₀ s at last (suc n) x d h p e =
    let k : suc n - 1 ≡ n = omega arith in
    rw e (put_both _ _ _ _ _ _ _ _ (rw k at p) (put_digit s last (digit (x % 16))))

-- ---- bytes, or that there are none

pub put_no_bytes : (s t bytes : List ℕ) (at end : ℕ) → length bytes ≡ 0 → TextPut s at (ascii "-") t end → TextPut s at (hex_bytes bytes) t end
unfolding hex_bytes is_none pick
put_no_bytes s t [] at end h p = p
put_no_bytes s t (x ∷ xs) at end h p = absurd (omega arith)

pub put_some_bytes : (s t bytes : List ℕ) (at end : ℕ) → (length bytes ≡ 0 → ⊥) → TextPut s at (hex bytes) t end → TextPut s at (hex_bytes bytes) t end
unfolding hex_bytes is_none pick
put_some_bytes s t [] at end h p = absurd (h refl)
put_some_bytes s t (x ∷ xs) at end h p = p
