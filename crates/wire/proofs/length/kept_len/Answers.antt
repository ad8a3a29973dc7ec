-- One more entry.
use Rattle.std.proofs.Common.{arith}
use Rattle.wire.proofs.Lengths.{kept_more}
use Rattle.wire.proofs.length.kept_len.Goals as goal

pub loop-entry-preserved : goal.loop-entry-preserved
loop-entry-preserved c =
    let more = kept_more c.as_slice-entries.result.now c.loop-entry.entry-index c.entry-item.result c.loop-entry-test.true c.entry-item.is in
    record { value = omega (arith, more); small = omega arith }
