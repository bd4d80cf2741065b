-- The check of a string byte by byte accepts exactly the good strings, and a string decodes in one way.
-- Assumes nothing.
use Prim.Native.Nat.{ℕ, zero, suc, ◌+◌, ◌-◌, ◌*◌, ◌/◌, ◌^◌, ◌≤◌, ◌<◌}
use mathlib.Core.Path.{◌≡◌, refl, sym, ap, ap₂, ◌∙◌}
use mathlib.Core.Bool.{true}
use mathlib.Core.List.{List, [], ◌∷◌, ◌++◌, tail, append_assoc, append-nil}
use mathlib.Core.Logic.{◌↔◌}
use native.Mathlib.Omega.{arith}
use native.Mathlib.Nat.{div-div-eq-div-mul, pow-suc}
use lib.ListN.{length, get_or, length-append}
use Rattle.rules.specs.Utf8.{ScalarValue, mark, following, byte_form, room_of, shortest, encoding, encodings, ScalarValues, Utf8}
use Rattle.rules.specs.Utf8.{awaited, lowest, highest, rest_utf8, is_utf8}
use Rattle.rules.proofs.Tests.{and_both, and_true, false_not}
use Rattle.block_laws.proofs.FirstBytes.{between_is, announces, first_says, bounds_within}
use Rattle.block_laws.proofs.Characters.{shortest_room, between_characters, only_shortest, taken}

-- the bits above n + 1 groups of six are those above n groups without the lowest six
group : (c n : ℕ) → c / 64 ^ suc n ≡ c / 64 ^ n / 64
group c n = ap (λ (p : ℕ). c / p) (pow-suc 64 n) ∙ sym (div-div-eq-div-mul c (64 ^ n) 64)

-- ---- what is good is accepted

-- characters before a string change nothing
encodings_before : (cs ys : List ℕ) → ScalarValues cs → is_utf8 (encodings cs ++ ys) ≡ is_utf8 ys
unfolding encodings ScalarValues is_utf8
encodings_before [] ys i = refl
encodings_before (c ∷ cs) ys i =
    rw (append_assoc (encoding c) (encodings cs) ys) (taken c i.0 0x80 0xBF (encodings cs ++ ys) ∙ encodings_before cs ys i.1)

-- ---- what is accepted is good

-- the bounds of the first byte that follows are those of any that follows, or narrower
widened : (b n : ℕ) (s : List ℕ) → rest_utf8 n (lowest b) (highest b) s ≡ true → rest_utf8 n 0x80 0xBF s ≡ true
unfolding rest_utf8
widened b zero s e = between_characters 0x80 0xBF s ∙ sym (between_characters (lowest b) (highest b) s) ∙ e
widened b (suc n) [] e = e
widened b (suc n) (x ∷ s) e =
    let p = and_both _ _ e in
    let i = (between_is (lowest b) (highest b) x).0 p.0 in
    and_true _ _ ((between_is 0x80 0xBF x).1 (omega (arith, i, bounds_within b))) p.1

-- n bytes that may follow are the last groups of a number, whose upper bits may be any
continued : (n x : ℕ) (s : List ℕ) → rest_utf8 n 0x80 0xBF s ≡ true → (c : ℕ) × (c / 64 ^ n ≡ x) × (t : List ℕ) × (s ≡ following n c ++ t)
unfolding rest_utf8 following
continued zero x s e = (x, omega arith, s, refl)
continued (suc n) x [] e = false_not e
continued (suc n) x (b ∷ s) e =
    let p = and_both _ _ e in
    let i = (between_is 0x80 0xBF b).0 p.0 in
    let (c, is, t, rest) = continued n (64 * x + (b - 0x80)) s p.1 in
    (c, rw (group c n) (omega arith), t, ap₂ ◌∷◌ (omega arith) rest)

-- the first character of an accepted string
first : (b : ℕ) (s : List ℕ) → is_utf8 (b ∷ s) ≡ true → (c : ℕ) × ScalarValue c × (t : List ℕ) × (b ∷ s ≡ encoding c ++ t) × (is_utf8 t ≡ true)
unfolding is_utf8 rest_utf8 byte_form encoding
first b s e =
    let p = and_both _ _ e in
    let (few, from, room) = first_says b p.0 in
    let (c, is, t, rest) = continued (awaited b) (b - mark (awaited b)) s (widened b (awaited b) s p.1) in
    let whole : b ∷ s ≡ byte_form (awaited b) c ++ t = ap₂ ◌∷◌ (omega arith) rest in
    let (good, short, then) = only_shortest c (awaited b) few (room c is) 0x80 0xBF t (ap (rest_utf8 0 0x80 0xBF) (sym whole) ∙ e) in
    (c, good, t, rw short whole, then)

decoded : (k : ℕ) (s : List ℕ) → length s < k → is_utf8 s ≡ true → Utf8 s
unfolding ScalarValues encodings encoding byte_form
decoded zero s h e = absurd (omega arith)
decoded (suc k) [] h e = record { scalars = []; each = tt; bytes = refl }
decoded (suc k) (b ∷ s) h e =
    let (c, good, t, whole, then) = first b s e in
    let shorter = ap length whole in
    let rest = decoded k t (omega (arith, shorter, length-append (following (shortest c) c) t)) then in
    record { scalars = c ∷ rest.scalars; each = (good, rest.each); bytes = ap (λ (l : List ℕ). encoding c ++ l) rest.bytes ∙ sym whole }

-- ---- both

pub utf8_exactly : (s : List ℕ) → (is_utf8 s ≡ true) ↔ Utf8 s
unfolding is_utf8 rest_utf8
utf8_exactly s = (decoded (suc (length s)) s (omega arith), accepted)
  where
    accepted : Utf8 s → is_utf8 s ≡ true
    accepted u = rw (← u.bytes, ← append-nil (encodings u.scalars)) (encodings_before u.scalars [] u.each)

-- ---- a string decodes in one way

following_once : (n c d : ℕ) (s t : List ℕ) → c / 64 ^ n ≡ d / 64 ^ n → following n c ++ s ≡ following n d ++ t → (c ≡ d) × (s ≡ t)
unfolding following
following_once zero c d s t q e = (omega arith, e)
following_once (suc n) c d s t q e =
    let last = ap (λ (l : List ℕ). get_or l 0 0) e in
    following_once n c d s t (omega (arith, q, last, group c n, group d n)) (ap tail e)

-- of two forms that begin alike the first byte says that they have one length
formed_once : (n m c d : ℕ) (s t : List ℕ) → n ≤ 3 → c < room_of n → m ≤ 3 → d < room_of m → byte_form n c ++ s ≡ byte_form m d ++ t → (c ≡ d) × (s ≡ t)
unfolding byte_form
formed_once n m c d s t few room few' room' e =
    let first = ap (λ (l : List ℕ). get_or l 0 0) e in
    let same : m ≡ n = sym (announces d m few' room') ∙ ap awaited (sym first) ∙ announces c n few room in
    let more = rw same at (ap tail e) in
    let above = rw same at first in
    following_once n c d s t (omega (arith, above)) more

pub decodes_once : (cs ds : List ℕ) → ScalarValues cs → ScalarValues ds → encodings cs ≡ encodings ds → cs ≡ ds
unfolding encodings encoding byte_form ScalarValues
decodes_once [] [] i j e = refl
decodes_once [] (d ∷ ds) i j e = let l = ap length e in absurd (omega (arith, l))
decodes_once (c ∷ cs) [] i j e = let l = ap length e in absurd (omega (arith, l))
decodes_once (c ∷ cs) (d ∷ ds) i j e =
    let (few, room) = shortest_room c i.0 in
    let (few', room') = shortest_room d j.0 in
    let both = formed_once (shortest c) (shortest d) c d (encodings cs) (encodings ds) few room few' room' e in
    ap₂ ◌∷◌ both.0 (decodes_once cs ds i.1 j.1 both.1)
