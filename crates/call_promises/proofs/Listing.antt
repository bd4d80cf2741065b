-- No second answer of the calls that make a listing, said of their own contracts: whatever answer, and whatever later contents of the
-- buffer, meets one on some arguments is the same as any other that does.
-- Assumes nothing.
use mathlib.Core.Path.{sym, ◌∙◌, ap}
use mathlib.Core.List.{[], ◌∷◌}
use Rattle.texts.proofs.put_line
use Rattle.texts.proofs.put_refusal_line
use Rattle.listing_lines.proofs.rows.list_row
use Rattle.listing_lines.proofs.pieces.put_piece
use Rattle.query.proofs.signed
use Rattle.call_promises.proofs.OneAnswer.{OneAnswer, OneOutcome}

-- a piece of the listing of three files
pub put_piece_one_answer : OneOutcome put_piece.Kinds.ps put_piece.Kinds.r (λ κs (schema, (names, (stream, (row, (at, (text, _)))))). text.now ∷ []) put_piece.Reads.Post
put_piece_one_answer κs a x y s t p q = (ap (λ d. d.shown) (p.0 ∙ sym q.0), ap (λ d. d.text ∷ []) (p.0 ∙ sym q.0))

-- ---- the steps below it

pub list_row_one_answer : OneOutcome list_row.Kinds.ps list_row.Kinds.r (λ κs (records, (store, (row, (text, _)))). text.now ∷ []) list_row.Reads.Post
list_row_one_answer κs a x y s t p q = (p.0.ends ∙ sym q.0.ends, ap (λ u. u ∷ []) (p.0.holds ∙ sym q.0.holds))

pub put_line_one_answer : OneOutcome put_line.Kinds.ps put_line.Kinds.r (λ κs (buffer, (at, (row, (depth, (r, (store, _)))))). buffer.now ∷ []) put_line.Reads.Post
put_line_one_answer κs a x y s t p q = (p.0.ends ∙ sym q.0.ends, ap (λ u. u ∷ []) (p.0.holds ∙ sym q.0.holds))

pub put_refusal_line_one_answer : OneOutcome put_refusal_line.Kinds.ps put_refusal_line.Kinds.r (λ κs (buffer, (refusal, _)). buffer.now ∷ []) put_refusal_line.Reads.Post
put_refusal_line_one_answer κs a x y s t p q = (p.0.ends ∙ sym q.0.ends, ap (λ u. u ∷ []) (p.0.holds ∙ sym q.0.holds))

pub signed_one_answer : OneAnswer signed.Kinds.ps signed.Kinds.r signed.Reads.Post
signed_one_answer κs a x y s t p q = p ∙ sym q
