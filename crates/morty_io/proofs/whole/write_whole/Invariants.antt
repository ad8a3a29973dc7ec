-- What was written so far, and the measure of what is left.
use Rattle.std.proofs.Common.{length, take, ◌-◌, ◌≤◌}
use Rattle.morty_io.specs.Bytes.{Takes}
use Rattle.morty_io.proofs.whole.write_whole.Given as goal

-- the first `done` bytes were taken
abbrev pub invariant-loop-done : goal.invariant-loop-done
invariant-loop-done g l = record {
  in_range : l.done ≤ length l.bytes;
  taken : Takes (g.K.Sink.taken l.initial.out) (g.K.Sink.taken l.out) (take l.done l.bytes);
  counted : g.K.Sink.faults l.initial.out ≤ g.K.Sink.faults l.out;
}

abbrev pub decreases-loop-done : goal.decreases-loop-done
decreases-loop-done g l = length l.bytes - l.done
