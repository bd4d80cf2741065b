-- What is read and not yet run over lies in the window, the run so far is over what was read, and at most 4,294,967,295 bytes are.
use Rattle.std.proofs.Common.{◌-◌, length}
use Rattle.rules.specs.Bytes.{Bytes}
use Rattle.windows.specs.Bounds.{Standing}
use Rattle.windows.specs.Steps.{format_in, Stream}
use Rattle.deliveries.proofs.reading.run_stream.Given as goal

abbrev pub invariant-loop-end : goal.invariant-loop-end
invariant-loop-end g l = record {
  standing : Standing l.ran l.ends.registry l.end (length l.space) l.read;
  stream : Stream (format_in l.initial.space l.ends) l.settings l.ends l.space l.end l.ran l.read;
  bytes : Bytes l.space;
}

abbrev pub decreases-loop-end : goal.decreases-loop-end
decreases-loop-end g l = 4294967295 - l.read
