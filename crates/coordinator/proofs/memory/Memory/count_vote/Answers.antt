-- What is left is what the votes call for.
use Rattle.std.proofs.Common.{◌∙◌, ap, sym}
use Rattle.protocol.specs.Words.{Exec, same_exec}
use Rattle.coordinator.proofs.DecidingLemmas.{exec_is}
use Rattle.coordinator.proofs.CountingLemmas.{leaves_all, not_elsewhere}
use Rattle.coordinator.proofs.VoteLemmas.{vote_counts, vote_elsewhere}
use Rattle.coordinator.proofs.memory.Memory.count_vote.Goals as goal

pub returns-then-not-is_same_exec : goal.returns-then-not-is_same_exec
returns-then-not-is_same_exec c = λ g k content votes proposal accepts s is.
    leaves_all g k c.args.self.now content votes proposal accepts _ _ s is
    (vote_elsewhere g.rules k content votes proposal accepts c.args.from c.args.exec c.args.vote
    (ap (λ (x : Exec). same_exec c.args.exec x) (exec_is g k c.args.self.now s) ∙ sym c.is_same_exec.ensures ∙ c.if-not-is_same_exec.true))

pub returns-in-Prepared : goal.returns-in-Prepared
returns-in-Prepared c = λ g k content votes proposal accepts s is.
    vote_counts g k c.args.self.now content votes proposal accepts c.args.from c.args.exec c.args.vote c.in-Prepared.ballot c.count_vote.new.self c.count_vote.result s is c.in-Prepared.is
    (ap (λ (x : Exec). same_exec c.args.exec x) (exec_is g k c.args.self.now s) ∙ sym c.is_same_exec.ensures ∙ c.if-not-is_same_exec.false)
    c.count_vote.ensures.proposed c.count_vote.ensures.stranger c.count_vote.ensures.again c.count_vote.ensures.first

pub returns-in_default : goal.returns-in_default
returns-in_default c = λ g k content votes proposal accepts s is. absurd (not_elsewhere g k c.args.self.now content votes proposal accepts s is c.in_default.not-Prepared)
