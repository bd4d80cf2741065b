-- An answer in numbers, by what was read, written, checked, known, asked for or seen, or why a run stopped.
-- Assumes nothing.
use Rattle.std.specs.Prelude.{⊤}
use Rattle.std.proofs.Common.{Result, Option, Ok, Err, Some, None}
use Prim.Native.Nat.{ℕ}
use mathlib.Core.Path.{◌≡◌}
use Rattle.rules.specs.Choice.{pick}
use Rattle.rules.specs.Refusals.{report_of}
use Rattle.rules.specs.Wire.{code_of}
use Rattle.rules.specs.Windows.{goes_on}
use Rattle.rules.specs.declared.refusal.Report.{Report}
use Rattle.rules.specs.declared.wire_type.WireType.{WireType}
use Rattle.rules.specs.declared.host_answer.Scalar.{Scalar}
use Rattle.rules.specs.declared.answer.Extent.{Extent}
use Rattle.rules.specs.declared.refusal.Refusal.{Refusal}
use Rattle.scalars.specs.Numbers.{HasBits, SaysBits, scalar_numbers}
use Rattle.scalars.specs.declared.ScalarNumbers.{ScalarNumbers}
use Rattle.answers.specs.declared.AnswerNumbers.{AnswerNumbers}
use Rattle.answers.specs.Answers.{no_refusal, extent_of_bytes, answer_of_read, answer_of_written, answer_of_text, answer_of_checked, answer_of_known, answer_of_queried, answer_of_viewed, answer_of_ran, what_of, why_of, answer_of_window}

pub told_row : (w : Report) (x : Result (Option Extent) Refusal) (e : Extent) → x ≡ Ok (Some e) → w ≡ no_refusal → record { what = 0; why = w; rows = 1; row = e } ≡ answer_of_read x
unfolding answer_of_read
told_row w x e p q = rw (p, q)

pub known_wire : (w : Report) (x : Option WireType) (t : WireType) (code : ℕ) → x ≡ Some t → w ≡ no_refusal → code ≡ code_of t →
    record { what = 0; why = w; rows = 0; row = record { table = code; bytes = 0; records = 0; payload = 0 } } ≡ answer_of_known x
unfolding answer_of_known
known_wire w x t code p q c = rw (p, q, c)

-- a record's value
pub value_bits : (x : Result Scalar Refusal) (s : Scalar) → SaysBits x → x ≡ Ok s → HasBits s
unfolding SaysBits
value_bits x s b p = rw p at b

pub value_told : (w : Report) (x : Result Scalar Refusal) (s : Scalar) (n : ScalarNumbers) → x ≡ Ok s → n ≡ scalar_numbers s → w ≡ no_refusal →
    record { what = 0; why = w; rows = 0; row = record { table = n.which; bytes = 0; records = n.number; payload = n.length } } ≡ answer_of_queried x
unfolding answer_of_queried
value_told w x s n p q r = rw (p, ← q, r)

pub number_told : (w : Report) (x : Result ℕ Refusal) (n : ℕ) → x ≡ Ok n → w ≡ no_refusal →
    record { what = 0; why = w; rows = 0; row = record { table = 0; bytes = 0; records = n; payload = 0 } } ≡ answer_of_viewed x
unfolding answer_of_viewed
number_told w x n p q = rw (p, q)

pub text_told : (w : Report) (r : Extent) (x : Result ℕ Refusal) (n : ℕ) → x ≡ Ok n → w ≡ no_refusal → r ≡ extent_of_bytes n → record { what = 0; why = w; rows = 0; row = r } ≡ answer_of_text x
unfolding answer_of_text
text_told w r x n p q e = rw (p, q, e)

module _ (a : AnswerNumbers) where
  pub written_row : (x : Result Extent Refusal) (e : Extent) → x ≡ Ok e → a ≡ answer_of_read (Ok (Some e)) → a ≡ answer_of_written x
  unfolding answer_of_written
  written_row x e p q = rw p q

  pub written_refused : (x : Result Extent Refusal) (r : Refusal) → x ≡ Err r → a ≡ answer_of_read (Err r) → a ≡ answer_of_written x
  unfolding answer_of_written
  written_refused x r p q = rw p q

  pub query_refused : (x : Result Scalar Refusal) (r : Refusal) → x ≡ Err r → a ≡ answer_of_read (Err r) → a ≡ answer_of_queried x
  unfolding answer_of_queried
  query_refused x r p q = rw p q

  pub view_refused : (x : Result ℕ Refusal) (r : Refusal) → x ≡ Err r → a ≡ answer_of_read (Err r) → a ≡ answer_of_viewed x
  unfolding answer_of_viewed
  view_refused x r p q = rw p q

  pub text_refused : (x : Result ℕ Refusal) (r : Refusal) → x ≡ Err r → a ≡ answer_of_read (Err r) → a ≡ answer_of_text x
  unfolding answer_of_text
  text_refused x r p q = rw p q

  pub checked_refused : (x : Result ⊤ Refusal) (r : Refusal) → x ≡ Err r → a ≡ answer_of_read (Err r) → a ≡ answer_of_checked x
  unfolding answer_of_checked
  checked_refused x r p q = rw p q

module _ (w : Report) (n : Extent) where
  pub told_end : (x : Result (Option Extent) Refusal) → x ≡ Ok None → w ≡ no_refusal → n ≡ extent_of_bytes 0 → record { what = 1; why = w; rows = 0; row = n } ≡ answer_of_read x
  unfolding answer_of_read
  told_end x p q m = rw (p, q, m)

  pub told_refused : (x : Result (Option Extent) Refusal) (r : Refusal) → x ≡ Err r → w ≡ report_of r → n ≡ extent_of_bytes 0 → record { what = 2; why = w; rows = 0; row = n } ≡ answer_of_read x
  unfolding answer_of_read
  told_refused x r p q m = rw (p, q, m)

  pub checked_accepted : (x : Result ⊤ Refusal) → x ≡ Ok tt → w ≡ no_refusal → n ≡ extent_of_bytes 0 → record { what = 0; why = w; rows = 0; row = n } ≡ answer_of_checked x
  unfolding answer_of_checked
  checked_accepted x p q m = rw (p, q, m)

  pub known_none : (x : Option WireType) → x ≡ None → w ≡ no_refusal → n ≡ extent_of_bytes 0 → record { what = 3; why = w; rows = 0; row = n } ≡ answer_of_known x
  unfolding answer_of_known
  known_none x p q m = rw (p, q, m)

  pub ran_end : (x : Result ⊤ Refusal) (rows bytes : ℕ) → x ≡ Ok tt → w ≡ no_refusal → n ≡ extent_of_bytes bytes → record { what = 1; why = w; rows = rows; row = n } ≡ answer_of_ran (record { rows = rows; bytes = bytes; stop = x })
  unfolding answer_of_ran what_of why_of
  ran_end x rows bytes p q m = rw (p, q, m)

  pub ran_refused : (x : Result ⊤ Refusal) (rows bytes : ℕ) (r : Refusal) → x ≡ Err r → w ≡ report_of r → n ≡ extent_of_bytes bytes → record { what = 2; why = w; rows = rows; row = n } ≡ answer_of_ran (record { rows = rows; bytes = bytes; stop = x })
  unfolding answer_of_ran what_of why_of
  ran_refused x rows bytes r p q m = rw (p, q, m)

pub window_told : (a : AnswerNumbers) (x : Result ⊤ Refusal) (rows bytes n : ℕ) → a ≡ answer_of_ran (record { rows = rows; bytes = bytes; stop = x }) → n ≡ pick (goes_on x) 1 0 →
    record { what = a.what; why = a.why; rows = rows; row = record { table = n; bytes = bytes; records = 0; payload = 0 } } ≡ answer_of_window (record { rows = rows; bytes = bytes; stop = x })
unfolding answer_of_ran answer_of_window
window_told a x rows bytes n p q = rw (p, q)
