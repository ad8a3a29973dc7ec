-- It is prepared once it has ended and is sure.
use Rattle.std.proofs.Common.{◌∙◌, sym}
use Rattle.coordinator.proofs.SegmentLemmas.{ended_so, takes_unready, takes_ready}
use Rattle.coordinator.proofs.memory.Memory.prepare_if_ready.Goals as goal

pub prepare-requires : goal.prepare-requires
prepare-requires c = ended_so _ _ (sym c.is_ready.ensures ∙ c.if-not-is_ready.false)

pub returns-then-not-is_ready : goal.returns-then-not-is_ready
returns-then-not-is_ready c = λ g k given s runs. takes_unready g k c.args.self.now given c.args.sent s runs (sym c.is_ready.ensures ∙ c.if-not-is_ready.true)

pub returns : goal.returns
returns c = λ g k given s runs.
    takes_ready g k c.args.self.now c.prepare.new.self given c.args.sent c.in_ok-sent.sent s runs (sym c.is_ready.ensures ∙ c.if-not-is_ready.false)
    (λ how ends. c.in_ok-sent.ensures g k given how s runs ends)
