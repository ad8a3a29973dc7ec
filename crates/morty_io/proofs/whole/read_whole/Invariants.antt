-- What was read so far, and the measure of what may still be read.
use Rattle.std.proofs.Common.{◌≡◌, ◌-◌, ◌+◌, ◌≤◌, length, vec_len}
use Rattle.morty_io.specs.Bytes.{Gives}
use Rattle.morty_io.proofs.whole.read_whole.Given as goal

-- the bytes read so far came from the front, and are within the limit
abbrev pub invariant-loop-n : goal.invariant-loop-n
invariant-loop-n g l = record {
  chunk_len : length l.chunk ≡ 4096;
  within : vec_len l.bytes ≤ l.limit;
  given : Gives (g.S.Source.left l.initial.src) (g.S.Source.left l.src) l.bytes.items;
  counted : g.S.Source.faults l.initial.src ≤ g.S.Source.faults l.src;
}

abbrev pub decreases-loop-n : goal.decreases-loop-n
decreases-loop-n g l = l.limit + 1 - vec_len l.bytes
