-- The writes of one content more are put.
use Rattle.std.proofs.Common.{ap, sym, ◌∙◌}
use Rattle.std.specs.Prelude.{cond, []}
use Rattle.protocol.specs.Words.{Kept, before}
use Rattle.protocol.specs.Warden.Base.{put_entries, entries_of}
use Rattle.truncation.proofs.BaseLemmas.{puts_step, puts_none, puts_some}
use Rattle.truncation.proofs.base.Base.put_committed.Goals as goal
use Rattle.truncation.proofs.base.Base.put_committed.Goals.{then-not-is_before+in_ok-put_writes, else-not-is_before}

pub loop-kept-preserved : goal.loop-kept-preserved
loop-kept-preserved c =
    let k = c.kept-item.result in
    let writes = entries_of k.exec 1 k.content.writes in
    puts_step (λ (k : Kept). cond (before c.args.w k.exec.ver) []
    (entries_of k.exec 1 k.content.writes)) c.args.self.now c.args.committed.now c.loop-kept.kept-index k c.loop-kept.self c.if-not-is_before.self
    c.loop-kept-test.true c.kept-item.is c.loop-kept.invariant
    (elim c.if-not-is_before.branch [
      | then-not-is_before+in_ok-put_writes w ↦ puts_some (before c.args.w k.exec.ver) c.loop-kept.self c.if-not-is_before.self writes
          (sym c.is_before.ensures ∙ w.if-not-is_before.true)
          (w.self-is ∙ (w.in_ok-put_writes.ensures ∙ ap (λ l. put_entries c.loop-kept.self (entries_of k.exec 1 l)) w.as_slice.ensures))
      | else-not-is_before w ↦ puts_none (before c.args.w k.exec.ver) c.loop-kept.self c.if-not-is_before.self writes
          (sym c.is_before.ensures ∙ w.if-not-is_before.false) w.self-is
    ])
