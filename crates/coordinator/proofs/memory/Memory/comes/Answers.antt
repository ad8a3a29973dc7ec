-- What comes is taken by the stage of the execution.
use Rattle.coordinator.specs.declared.memory.Stage.TheVariants as stage
use Rattle.coordinator.specs.Execution.{is_pending}
use Rattle.coordinator.specs.Memory.{accepts_of, choice_of}
use Rattle.coordinator.proofs.EnvelopeLemmas.{comes_between, comes_while_prepared, comes_while_running, phase_is}
use Rattle.coordinator.proofs.memory.Memory.comes.Goals as goal

pub returns-in-Between : goal.returns-in-Between
returns-in-Between c = λ g k s. comes_between g k c.args.self.now c.args.from c.args.body.now c.new.result s c.in-Between.is c.new.ensures

pub returns-in_ok-out-in-Running : goal.returns-in_ok-out-in-Running
returns-in_ok-out-in-Running c = λ g k s.
    let runs = phase_is g k c.args.self.now (stage.Running c.in-Running.given) s c.in-Running.is in
    comes_while_running g k c.comes_running.new.self (is_pending c.args.self.now.execution) c.in-Running.given c.args.from c.args.body.now c.in_ok-out-in-Running.out runs
    (c.in_ok-out-in-Running.ensures g k (is_pending c.args.self.now.execution) c.in-Running.given s runs)

pub returns-in_ok-out-in-Prepared : goal.returns-in_ok-out-in-Prepared
returns-in_ok-out-in-Prepared c = λ g k s.
    let b = c.in-Prepared.field-0 in
    let is = phase_is g k c.args.self.now (stage.Prepared b) s c.in-Prepared.is in
    comes_while_prepared g k c.comes_prepared.new.self b.content b.tally.votes (choice_of b.proposal) (accepts_of b.proposal) c.args.from c.args.body.now c.in_ok-out-in-Prepared.out is
    (c.in_ok-out-in-Prepared.ensures g k b.content b.tally.votes (choice_of b.proposal) (accepts_of b.proposal) s is)
