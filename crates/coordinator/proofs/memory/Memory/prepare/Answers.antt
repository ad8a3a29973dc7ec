-- The execution is prepared with its content.
use Rattle.std.proofs.Common.{refl, ap, ◌∙◌, [], None}
use Rattle.coordinator.proofs.SegmentLemmas.{stands_prepared}
use Rattle.coordinator.proofs.memory.Memory.prepare.Goals as goal

pub returns : goal.returns
returns c = λ g k given how s runs ends.
    stands_prepared g k c.args.self.now given how
    (record { content = c.in_ok-content.content; tally = c.new.result; proposal = None }) c.args.sent c.push.new.self c.in_ok-copy.copy
    s runs ends c.in_ok-content.ensures c.in_ok-copy.ensures (c.new.ensures ∙ ap (λ n. record { replicas = n; votes = [] }) c.min.ensures) refl c.in_ok-push.ensures.ok
