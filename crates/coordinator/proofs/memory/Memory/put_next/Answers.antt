-- The read has another next label.
use Rattle.coordinator.specs.Memory.{current}
use Rattle.coordinator.proofs.NextLabelLemmas.{stands_next}
use Rattle.coordinator.proofs.memory.Memory.put_next.Goals as goal

pub returns : goal.returns
returns c = λ g k content votes proposal accepts s is.
    let done = c.in_ok-set_next.ensures in
    stands_next g k c.args.self.now c.set_next.new.self c.args.i c.args.next content votes proposal accepts s is
    (done.stands (current g.programs c.args.self.now.plan c.args.self.now.course.begun) s.execution) done.answers done.log
