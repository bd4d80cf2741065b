-- Laws of what a call gives.
-- Assumes nothing.
use Rattle.rules.specs.declared.host_answer.Scalar.{Scalar}
use Rattle.rules.specs.declared.answer.Extent.{Extent}
use Rattle.rules.specs.declared.refusal.Refusal.{Refusal}
use Rattle.std.proofs.Common.{Result, Option}
use Prim.Native.Nat.{ℕ, ◌≤◌, ◌<◌}
use mathlib.Core.Path.{◌≡◌}
use mathlib.Core.List.{List}
use borrow.Author.Tests.{le-leb, lt-leb}
use lib.ListN.{length}
use Rattle.rules.specs.Choice.{pick}
use Rattle.rules.specs.Bytes.{over}
use Rattle.rules.specs.Reading.{Decoded, untouched}
use Rattle.rules.specs.Query.{query_rule}
use Rattle.scalars.specs.Numbers.{SaysBits}
use Rattle.scalars.proofs.Said.{query_says_bits}
use Rattle.answers.specs.declared.AnswerNumbers.{AnswerNumbers}
use Rattle.answers.specs.Answers.{answer_layout, answer_of_read}
use Rattle.skiff.specs.Calls.{Given, given, view_given, given_row, given_slice}

-- ---- what a call gives

pub short_given : (s : List ℕ) (a : AnswerNumbers) → length s < 88 → record { number = 1; answer = s } ≡ given s a
unfolding given pick
short_given s a h = rw (lt-leb 88 (length s) h)

pub room_given : {A : Type 0} (f : A → AnswerNumbers) (x y : A) (a : AnswerNumbers) (s s' : List ℕ) (n : ℕ) → 88 ≤ length s → a ≡ f x → x ≡ y → (n ≡ a.why.number) × (s' ≡ over s 0 (answer_layout a)) → record { number = n; answer = s' } ≡ given s (f y)
unfolding given pick
room_given f x y a s s' n h p q g = rw (← q, ← p, le-leb 88 (length s) h, g.0, g.1)

-- the value that the query answers with has bits, so that it can be told in numbers
pub says_bits : (x : Result Scalar Refusal) (table : List ℕ) (i : ℕ) → x ≡ query_rule table i → SaysBits x
says_bits x table i e = rw e (query_says_bits table i)

-- what is seen from a record, by whichever rule
pub seen_given : (x y : Result ℕ Refusal) (g : Given) (s : List ℕ) → x ≡ y → g ≡ view_given x s → g ≡ view_given y s
seen_given x y g s p q = rw (← p) q

-- ---- what decode gives: the two slices too

pub short_row : (s : List ℕ) (d : Decoded) (rs ps : List ℕ) → length s < 88 → record { number = 1; answer = s; records = rs; payload = ps } ≡ given_row s d rs ps
unfolding given_row pick
short_row s d rs ps h = rw (lt-leb 88 (length s) h)

pub room_row : (x : Result (Option Extent) Refusal) (d : Decoded) (a : AnswerNumbers) (s s' rs rs' ps ps' : List ℕ) (n : ℕ) → 88 ≤ length s → a ≡ answer_of_read x → untouched x rs' ps' ≡ d → (n ≡ a.why.number) × (s' ≡ over s 0 (answer_layout a)) →
    record { number = n; answer = s'; records = rs'; payload = ps' } ≡ given_row s d rs ps
unfolding given_row pick
room_row x d a s s' rs rs' ps ps' n h p q g = rw (← q, ← p, le-leb 88 (length s) h, g.0, g.1)

-- ---- what a call gives that writes one slice: that slice too

pub short_slice : (s : List ℕ) (a : AnswerNumbers) (left lent : List ℕ) → length s < 88 → record { number = 1; answer = s; lent = lent } ≡ given_slice s a left lent
unfolding given_slice pick
short_slice s a left lent h = rw (lt-leb 88 (length s) h)

pub room_slice : {A : Type 0} (f : A → AnswerNumbers) (x y : A) (a : AnswerNumbers) (s s' left left' lent : List ℕ) (n : ℕ) → 88 ≤ length s → a ≡ f x → x ≡ y → left' ≡ left → (n ≡ a.why.number) × (s' ≡ over s 0 (answer_layout a)) →
    record { number = n; answer = s'; lent = left' } ≡ given_slice s (f y) left lent
unfolding given_slice pick
room_slice f x y a s s' left left' lent n h p q t g = rw (← q, ← p, t, le-leb 88 (length s) h, g.0, g.1)
