-- The writes of one execution more are put.
use Rattle.std.proofs.Common.{sym, ◌∙◌}
use Rattle.std.specs.Prelude.{cond, []}
use Rattle.protocol.specs.Words.{Kept, before}
use Rattle.protocol.specs.Warden.Base.{decided_entries_of}
use Rattle.protocol.specs.Warden.State.{decision_on}
use Rattle.truncation.proofs.BaseLemmas.{puts_step, puts_none, puts_some}
use Rattle.truncation.proofs.base.Base.put_decided.Goals as goal
use Rattle.truncation.proofs.base.Base.put_decided.Goals.{then-not-is_before+in_ok-put_decision, else-not-is_before}

pub loop-kept-preserved : goal.loop-kept-preserved
loop-kept-preserved c =
    let k = c.kept-item.result in let s = c.args.rec.now.state in
    let writes = decided_entries_of k.exec (decision_on s k.exec) in
    puts_step (λ (k : Kept). cond (before c.args.w k.exec.ver) []
    (decided_entries_of k.exec (decision_on s k.exec))) c.args.self.now c.args.voted.now c.loop-kept.kept-index k c.loop-kept.self c.if-not-is_before.self
    c.loop-kept-test.true c.kept-item.is c.loop-kept.invariant
    (elim c.if-not-is_before.branch [
      | then-not-is_before+in_ok-put_decision w ↦ puts_some (before c.args.w k.exec.ver) c.loop-kept.self c.if-not-is_before.self writes
          (sym c.is_before.ensures ∙ w.if-not-is_before.true) (w.self-is ∙ w.in_ok-put_decision.ensures)
      | else-not-is_before w ↦ puts_none (before c.args.w k.exec.ver) c.loop-kept.self c.if-not-is_before.self writes
          (sym c.is_before.ensures ∙ w.if-not-is_before.false) w.self-is
    ])
