-- What is left is to decide what a quorum accepted.
use Rattle.std.proofs.Common.{◌∙◌, ap, sym}
use Rattle.protocol.specs.Words.{Exec, same_exec}
use Rattle.coordinator.proofs.DecidingLemmas.{exec_is}
use Rattle.coordinator.proofs.CountingLemmas.{leaves_all, not_elsewhere}
use Rattle.coordinator.proofs.AcceptLemmas.{accept_counts, accept_elsewhere, accept_later, first_view, later_view}
use Rattle.coordinator.proofs.memory.Memory.count_accept.Goals as goal

pub returns-then-view-ne0 : goal.returns-then-view-ne0
returns-then-view-ne0 c = λ g k content votes proposal accepts s is.
    leaves_all g k c.args.self.now content votes proposal accepts _ _ s is
    (accept_later g.rules k content votes proposal accepts c.args.from c.args.exec c.args.view (later_view c.args.view c.if-view-ne0.true))

pub returns-then-not-is_same_exec : goal.returns-then-not-is_same_exec
returns-then-not-is_same_exec c = λ g k content votes proposal accepts s is.
    leaves_all g k c.args.self.now content votes proposal accepts _ _ s is
    (accept_elsewhere g.rules k content votes proposal accepts c.args.from c.args.exec c.args.view
    (ap (λ (x : Exec). same_exec c.args.exec x) (exec_is g k c.args.self.now s) ∙ sym c.is_same_exec.ensures ∙ c.if-not-is_same_exec.true))

pub returns-in_default : goal.returns-in_default
returns-in_default c = λ g k content votes proposal accepts s is. absurd (not_elsewhere g k c.args.self.now content votes proposal accepts s is c.in_default.not-Prepared)

pub returns : goal.returns
returns c = λ g k content votes proposal accepts s is.
    accept_counts g k c.args.self.now content votes proposal accepts c.args.from c.args.exec c.args.view c.in-Prepared.ballot c.count_accept.new.self c.in_ok-choice.choice s is c.in-Prepared.is
    (ap (λ (x : Exec). same_exec c.args.exec x) (exec_is g k c.args.self.now s) ∙ sym c.is_same_exec.ensures ∙ c.if-not-is_same_exec.false) (first_view c.args.view c.if-view-ne0.false)
    c.in_ok-choice.ensures.unproposed c.in_ok-choice.ensures.stranger c.in_ok-choice.ensures.again c.in_ok-choice.ensures.first
