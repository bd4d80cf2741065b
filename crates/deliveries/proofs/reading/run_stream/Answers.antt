-- What is read and not yet run over lies in the window, the run so far is over what was read, and at most 4,294,967,295 bytes are.
-- Assumes nothing.
use Rattle.std.proofs.Common.{rules, arith}
use Rattle.windows.proofs.Streams.{stream_first, stream_on}
use Rattle.deliveries.proofs.Streams.{ends_short, ends_full, ends_long, bytes_filled}
use Rattle.deliveries.proofs.reading.run_stream.Goals as goal

pub loop-end-init : goal.loop-end-init
loop-end-init g c = record {
  standing = search rules;
  stream = stream_first _ _ _ _ _ c.no_rows.ensures.rows_value.0 c.no_rows.ensures.rows_value.1 c.run_window-ran.ensures.value;
  bytes = search rules;
}

pub returns-then-got-eq0 : goal.returns-then-got-eq0
returns-then-got-eq0 g c =
    let l = c.loop-end in
    ends_short _ _ l.space c.read_full-got.new.space l.ran c.read_full-got.result (search rules) (λ j. omega (arith, c.type_inv.space j)) (search rules) l.invariant.stream (search rules) _ _ c.outcome_of_last_read.ensures

pub returns-then-read : goal.returns-then-read
returns-then-read g c =
    let l = c.loop-end in
    ends_long _ _ l.space c.read_full-got.new.space l.ran c.read_full-got.result (search rules) (λ j. omega (arith, c.type_inv.space j)) (search rules) l.invariant.stream c.if-read.true _ _ c.no_rows-then-read.ensures.value

pub loop-end-preserved : goal.loop-end-preserved
loop-end-preserved g c =
    let l = c.loop-end in
    let t = c.run_filled_window-reading.ensures in
    record {
      standing = search rules;
      stream = stream_on _ _ l.space c.read_full-got.new.space l.ran c.read_full-got.result (search rules) (bytes_filled l.space l.end c.read_full-got.new.space l.invariant.bytes c.read_full-got.ensures.bytes) (search rules) l.invariant.stream c.if-read.false _ _ _ t.goes_over t.ends_unchanged;
      bytes = λ j. omega (arith, c.type_inv.space j);
    }

pub returns : goal.returns
returns g c = ends_full _ _ _ _ _ _ c.loop-end.invariant.stream (search rules) (search rules) c.outcome_of_last_read-2.ensures
