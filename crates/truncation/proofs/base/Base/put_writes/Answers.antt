-- One write more is put.
use Rattle.std.proofs.Common.{ap, ◌∙◌}
use Rattle.protocol.specs.Warden.Base.{put_entry}
use Rattle.truncation.proofs.BaseLemmas.{puts_write}
use Rattle.truncation.proofs.base.Base.put_writes.Goals as goal

pub loop-at-preserved : goal.loop-at-preserved
loop-at-preserved c =
    c.in_ok-put.ensures
    ∙ (ap (λ e. put_entry e c.loop-at.self) c.in_ok-entry.ensures
    ∙ (ap (put_entry _) c.loop-at.invariant ∙ puts_write c.args.exec c.args.self.now c.args.writes.now c.loop-at.at _ c.loop-at-test.true))
