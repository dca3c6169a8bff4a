use Rattle.std.proofs.Common.{length, ◌-◌, ◌≡◌, ◌≤◌, take}
use Rattle.std.specs.Io.KnownBytes.{Appends}
use Rattle.edge_io.proofs.whole.write_whole.Given as goal

abbrev pub invariant-loop-done : goal.invariant-loop-done
invariant-loop-done g l = record {
  within : l.done ≤ length l.bytes;
  appended : Appends (g.K.Sink.written l.initial.out) (g.K.Sink.written l.out) (take l.done l.bytes);
  no_fault : g.K.Sink.faults l.out ≡ g.K.Sink.faults l.initial.out;
  sure : g.K.Sink.Takes l.initial.out (length l.bytes) → g.K.Sink.Takes l.out (length l.bytes - l.done);
}

abbrev pub decreases-loop-done : goal.decreases-loop-done
decreases-loop-done g l = length l.bytes - l.done
