-- The first acceptance of a replica counts.
use Rattle.std.proofs.Common.{◌∙◌, sym, true, false}
use Rattle.protocol.specs.Client.Counting.{sender}
use Rattle.coordinator.proofs.AcceptLemmas.{accepter_is}
use Rattle.coordinator.proofs.memory.Proposed.count.Goals as goal

pub returns-then-has_accepted-clause-first : goal.returns-then-has_accepted-clause-first
returns-then-has_accepted-clause-first c = λ j of new.
    absurd (let yes = accepter_is (sender c.args.replicas c.args.from) c.in-Some.replica j c.args.self.now.accepts true (sym c.sender.ensures ∙ c.in-Some.is) of
    (sym c.has_accepted.ensures ∙ c.if-has_accepted.true) in cc)

pub returns-clause-again : goal.returns-clause-again
returns-clause-again c = λ j of again.
    absurd (let no = accepter_is (sender c.args.replicas c.args.from) c.in-Some.replica j c.args.self.now.accepts false (sym c.sender.ensures ∙ c.in-Some.is) of
    (sym c.has_accepted.ensures ∙ c.if-has_accepted.false) in cc)
