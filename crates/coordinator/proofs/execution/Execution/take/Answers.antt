-- The segment of the pending job is the run that the log waits for.
use Rattle.coordinator.proofs.ExecutionLemmas.{waits, stands_taken}
use Rattle.coordinator.proofs.execution.Execution.take.Goals as goal

pub returns-clause-stands : goal.returns-clause-stands
returns-clause-stands c = λ l s run.
    stands_taken l c.args.self.now (record { log = c.take.new.self; job = c.args.self.now.job; nexts = c.args.self.now.nexts }) c.args.seg.now c.args.seg.now.next s
    (waits c.args.self.now.log.next c.requires) run c.in_ok-take.ensures.stands c.in_ok-take.ensures.next c.in_ok-take.ensures.whole
