-- The question is answered, and a job is pending.
use Rattle.std.proofs.Common.{sym, subst}
use Rattle.protocol.specs.Client.State.{idle}
use Rattle.protocol.specs.Client.Following.{answered}
use Rattle.coordinator.specs.Memory.{Takes, current}
use Rattle.coordinator.specs.declared.memory.Memory.{Memory}
use Rattle.coordinator.proofs.SegmentLemmas.{runs_bare}
use Rattle.coordinator.proofs.FollowingLemmas.{stands_given}
use Rattle.coordinator.proofs.memory.Memory.answer.Goals as goal

pub returns : goal.returns
returns c = λ g k pending given s runs.
    let o = current g.programs c.args.self.now.plan c.args.self.now.course.begun in
    let done = c.in_ok-answer.ensures in
    let bare = runs_bare g k c.args.self.now pending given s runs in
    subst (λ (m : Memory). Takes g (idle (answered k c.args.new)) m c.new.result) (sym c.bump.ensures)
    (record {
      state = stands_given g k c.args.self.now c.answer.new.self c.args.new pending given s runs
          (done.stands o s.execution) (done.answers bare) done.pending done.nexts;
      sent = c.new.ensures;
    })
