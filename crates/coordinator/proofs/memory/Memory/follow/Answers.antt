-- A read has another label, and then the execution may be ready.
use Rattle.std.proofs.Common.{None, ap}
use Rattle.protocol.specs.Client.Following.{with_answer}
use Rattle.coordinator.specs.declared.execution.Execution.{Execution}
use Rattle.coordinator.specs.Memory.{current}
use Rattle.coordinator.proofs.SegmentLemmas.{runs_bare}
use Rattle.coordinator.proofs.FollowingLemmas.{next_bare, stands_followed}
use Rattle.coordinator.proofs.memory.Memory.follow.Goals as goal

pub returns : goal.returns
returns c = λ g k pending given s runs value.
    let o = current g.programs c.args.self.now.plan c.args.self.now.course.begun in
    let log = c.relabel.ensures.log s.execution.whole in
    c.in_ok-out.ensures g (with_answer k c.args.i (record { label = c.args.new; next = None })) pending given
    (stands_followed g k c.args.self.now c.relabel.new.self c.args.i c.args.new pending given s runs value
    (next_bare c.args.self.now.execution c.args.i (runs_bare g k c.args.self.now pending given s runs))
    (c.relabel.ensures.stands o s.execution) (c.relabel.ensures.answers s.execution.whole)
    (ap (λ (x : Execution). x.log.next) log) (ap (λ (x : Execution). x.nexts) log)) runs
