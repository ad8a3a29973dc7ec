-- The step of a client that is given its segment back.
use Rattle.std.proofs.Common.{sym, subst}
use Rattle.continuation.specs.declared.segment.JobAt.{JobAt}
use Rattle.continuation.specs.Job.{IsJobRun}
use Rattle.flat_code.specs.Operation.{Flat}
use Rattle.protocol.specs.Client.State.{Turn}
use Rattle.coordinator.specs.Memory.{Takes}
use Rattle.coordinator.proofs.JobLemmas.{code_is, pending_says}
use Rattle.coordinator.proofs.StepLemmas.{runs_step, does}
use Rattle.coordinator.proofs.coordinator.Coordinator.ran.Goals as goal

pub returns-clause-used : goal.returns-clause-used
returns-clause-used c = λ waits g k t s step named.
    let turn = runs_step g.rules k t step in
    let m = c.args.self.now.memory in
    let p = code_is g k m c.args.done.now.job c.args.done.now.code s.memory (c.requires waits) named in
    let l = p.0 in
    let at = (pending_says m c.args.done.now.job (c.requires waits)).at in
    let run = subst (λ (f : Flat). IsJobRun f c.args.self.now.memory.execution.job c.args.done.now.seg) p.2
    (subst (λ (a : JobAt). IsJobRun c.args.done.now.code a c.args.done.now.seg) at (subst (λ x. IsJobRun c.args.done.now.code c.args.done.now.job.at x) c.seg.ensures.value c.seg.ensures.run)) in
    let same = subst (λ x. IsJobRun l.code c.args.self.now.memory.execution.job x) (sym c.seg.ensures.value) run in
    let takes = subst (λ (u : Turn). Takes g u c.ran.new.self c.in_ok-sent.sent) (sym turn.2) (c.in_ok-sent.ensures g k turn.0 l s.memory turn.1 p.1 same) in
    does g t c.ran.new.self c.in_ok-sent.sent c.as_slice.result.now c.args.out.now c.send.new.out takes c.as_slice.ensures c.in_ok-send.ensures.ok
