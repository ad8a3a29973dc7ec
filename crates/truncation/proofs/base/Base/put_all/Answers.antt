-- One entry more is put.
use Rattle.std.proofs.Common.{ap, ◌∙◌}
use Rattle.protocol.specs.Warden.Base.{put_entry}
use Rattle.truncation.proofs.BaseLemmas.{puts_one}
use Rattle.truncation.proofs.base.Base.put_all.Goals as goal

pub loop-entry-preserved : goal.loop-entry-preserved
loop-entry-preserved c =
    c.in_ok-put.ensures
    ∙ (ap (put_entry _) c.loop-entry.invariant ∙ puts_one c.args.self.now c.args.entries.now c.loop-entry.entry-index _ c.loop-entry-test.true)
