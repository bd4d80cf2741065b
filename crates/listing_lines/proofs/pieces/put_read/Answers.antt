use Rattle.std.proofs.Common.{Ok}
use mathlib.Core.Path.{ap, ◌∙◌}
-- By decode's answer under the one table.
-- Assumes nothing.
use native.Mathlib.Omega.{arith}
use Rattle.listing_lines.specs.Pieces.{shown_length}
use Rattle.listing_lines.proofs.FromDecode.{row_listable, read_row, read_end, read_refused}
use Rattle.listing_lines.proofs.pieces.put_read.Goals as goal

pub list_row-requires : goal.list_row-requires
list_row-requires c = row_listable _ _ _ c.args.row _ _ _ c.requires.0 c.requires.1 _ c.new.ensures _ c.inline_table-reference.ensures.0 _ c.next_row-read.ensures (λ j. omega (arith, c.type_inv.stream j)) _ (c.in-Ok.is ∙ ap Ok c.in-Some.is) _ c.next_row-read.auto.records c.next_row-read.auto.payload c.requires.2

pub returns-in-Some : goal.returns-in-Some
unfolding shown_length
returns-in-Some c = record { text_after = read_row _ _ _ c.args.row _ _ _ c.requires.0 c.requires.1 _ c.new.ensures _ c.inline_table-reference.ensures.0 _ c.next_row-read.ensures (λ j. omega (arith, c.type_inv.stream j)) _ (c.in-Ok.is ∙ ap Ok c.in-Some.is) _ _ _ c.next_row-read.auto.records c.list_row.ensures.text_put; result_bound = c.list_row.ensures.upper_bound }

pub returns-in-None : goal.returns-in-None
unfolding shown_length
returns-in-None c = record { text_after = read_end _ _ _ c.args.row _ _ _ c.requires.0 c.requires.1 _ c.new.ensures _ c.inline_table-reference.ensures.0 _ c.next_row-read.ensures _ _ _ (c.in-Ok.is ∙ ap Ok c.in-None.is) c.put_end_line.ensures.text_put; result_bound = omega (arith, c.put_end_line.ensures.upper_bound) }

pub returns-in-Err : goal.returns-in-Err
unfolding shown_length
returns-in-Err c = record { text_after = read_refused _ _ _ c.args.row _ _ _ c.requires.0 c.requires.1 _ c.new.ensures _ c.inline_table-reference.ensures.0 _ c.next_row-read.ensures _ _ _ _ c.in-Err.is c.put_refusal_line.ensures.text_put; result_bound = omega (arith, c.put_refusal_line.ensures.upper_bound) }
