-- No second answer of the calls that write an integer as text, said of their own contracts.
-- Assumes nothing.
use mathlib.Core.Path.{sym, ◌∙◌, ap}
use mathlib.Core.List.{[], ◌∷◌}
use Rattle.text_hex.proofs.hex_digit
use Rattle.text_hex.proofs.put_hex_bytes
use Rattle.text_hex.proofs.put_hex_number
use Rattle.text_hex.proofs.integers.put_signed
use Rattle.text_hex.proofs.integers.integer_text
use Rattle.skiff.proofs.printing.skiff2_integer_text
use Rattle.answers.proofs.answer_of_text
use Rattle.call_promises.proofs.OneAnswer.{OneAnswer, OneOutcome}

pub integer_text_one_answer : OneOutcome integer_text.Kinds.ps integer_text.Kinds.r (λ κs (bytes, (text, _)). text.now ∷ []) integer_text.Reads.Post
integer_text_one_answer κs a x y s t p q = (ap (λ d. d.answer) (p ∙ sym q), ap (λ d. d.text ∷ []) (p ∙ sym q))

pub skiff2_integer_text_one_answer : OneOutcome skiff2_integer_text.Kinds.ps skiff2_integer_text.Kinds.r (λ κs (bytes, (text, (answer, _))). answer.now ∷ text.now ∷ []) skiff2_integer_text.Reads.Post
skiff2_integer_text_one_answer κs a x y s t p q = (ap (λ d. d.number) (p ∙ sym q), ap (λ d. d.answer ∷ d.lent ∷ []) (p ∙ sym q))

-- ---- the steps below them

pub answer_of_text_one_answer : OneAnswer answer_of_text.Kinds.ps answer_of_text.Kinds.r answer_of_text.Reads.Post
answer_of_text_one_answer κs a x y s t p q = p ∙ sym q

pub hex_digit_one_answer : OneAnswer hex_digit.Kinds.ps hex_digit.Kinds.r hex_digit.Reads.Post
hex_digit_one_answer κs a x y s t p q = p ∙ sym q

pub put_signed_one_answer : OneOutcome put_signed.Kinds.ps put_signed.Kinds.r (λ κs (buffer, (at, (number, _))). buffer.now ∷ []) put_signed.Reads.Post
put_signed_one_answer κs a x y s t p q = (p.ends ∙ sym q.ends, ap (λ u. u ∷ []) (p.holds ∙ sym q.holds))

pub put_hex_bytes_one_answer : OneOutcome put_hex_bytes.Kinds.ps put_hex_bytes.Kinds.r (λ κs (buffer, (at, (bytes, _))). buffer.now ∷ []) put_hex_bytes.Reads.Post
put_hex_bytes_one_answer κs a x y s t p q = (p.0.ends ∙ sym q.0.ends, ap (λ u. u ∷ []) (p.0.holds ∙ sym q.0.holds))

pub put_hex_number_one_answer : OneOutcome put_hex_number.Kinds.ps put_hex_number.Kinds.r (λ κs (buffer, (at, (count, (x, _)))). buffer.now ∷ []) put_hex_number.Reads.Post
put_hex_number_one_answer κs a x y s t p q = (p.0.ends ∙ sym q.0.ends, ap (λ u. u ∷ []) (p.0.holds ∙ sym q.0.holds))
