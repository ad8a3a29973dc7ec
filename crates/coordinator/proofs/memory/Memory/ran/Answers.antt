-- The segment that was given back brings the turn of the definitions.
use Rattle.std.proofs.Common.{◌≡◌, ◌∙◌, ◌++◌, false, true, sym, subst, ap, refl}
use Rattle.std.specs.Prelude.{is_none, ◌||◌, ◌&&◌, not, nat_lt}
use Rattle.exec_log.specs.Log.{asked_by}
use Rattle.protocol.specs.Client.State.{Turn}
use Rattle.protocol.specs.Client.State.Phase.{Running}
use Rattle.protocol.specs.Client.Attempts.{is_between, question}
use Rattle.coordinator.specs.Execution as execution
use Rattle.coordinator.specs.Execution.{is_pending}
use Rattle.coordinator.specs.Memory.{Takes}
use Rattle.coordinator.specs.declared.memory.Memory.{Memory}
use Rattle.coordinator.specs.declared.memory.Stage.TheVariants as stage
use Rattle.coordinator.proofs.SegmentLemmas.{runs_bare, runs_so, stands_ran, sent_ran, wrote_now}
use Rattle.coordinator.proofs.memory.Memory.ran.Goals as goal

pub returns : goal.returns
returns c = λ g k given l s runs is run.
    let e = c.take.new.self in
    let m : Memory = record c.args.self.now { execution = e; stage = stage.Running true } in
    let follows = c.in_ok-take.ensures.stands l (subst (λ o. execution.StandsFor o c.args.self.now.execution) is s.execution) run in
    let now = stands_ran g k c.args.self.now e c.args.seg.now.next s (ap is_between runs) (runs_bare g k c.args.self.now true given s runs)
    (subst (λ o. execution.StandsFor o e) (sym is) follows) c.in_ok-take.ensures.answers c.in_ok-take.ensures.next c.in_ok-take.ensures.nexts in
    let still : is_pending e ≡ false = ap is_none c.in_ok-take.ensures.next in
    let pending = (runs_so g k c.args.self.now true given s runs).1 in
    let wrote = ap (nat_lt 0) c.len.ensures ∙ sym (wrote_now g k c.args.self.now l c.args.seg.now s is pending run) in
    let due = c.is_due-due.ensures g k true given s runs ∙ ap (λ b. b || (not given && nat_lt 0 k.exec.eid)) wrote in
    subst (λ (t : Turn). Takes g t c.prepare_if_ready.new.self c.in_ok-sent.sent)
    (sent_ran g k m given c.is_due-due.result c.in_ok-asked.asked now still due
    (c.in_ok-asked.ensures ∙ ap (λ ps. ps ++ question c.args.self.now.course.exec (asked_by e.log.next)) c.in_ok-puts.ensures))
    (c.in_ok-sent.ensures g (record k { phase = Running false true }) true now refl)
