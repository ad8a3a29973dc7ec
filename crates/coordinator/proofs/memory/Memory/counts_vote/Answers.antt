-- What is left is what the votes call for.
use Rattle.std.proofs.Common.{sym, subst}
use Rattle.protocol.specs.Client.State.{Turn}
use Rattle.coordinator.specs.Memory.{Takes}
use Rattle.coordinator.proofs.EnvelopeLemmas.{takes_idle}
use Rattle.coordinator.proofs.memory.Memory.counts_vote.Goals as goal

pub returns-in-Wait : goal.returns-in-Wait
returns-in-Wait c = λ g k content votes proposal accepts s is.
    let l = c.in-Wait.ensures g k content votes proposal accepts s is in
    takes_idle g l.now c.count_vote.new.self _ c.new.result l.stands l.turn c.new.ensures

pub returns-in_ok-out-in-FastCommit : goal.returns-in_ok-out-in-FastCommit
returns-in_ok-out-in-FastCommit c = λ g k content votes proposal accepts s is.
    let l = c.in-FastCommit.ensures g k content votes proposal accepts s is in
    subst (λ (t : Turn). Takes g t c.decide.new.self c.in_ok-out-in-FastCommit.out) (sym l.turn)
    (c.in_ok-out-in-FastCommit.ensures g l.now content l.votes l.proposal l.accepts l.stands l.phase)

pub returns-in_ok-out-in-FastAbandon : goal.returns-in_ok-out-in-FastAbandon
returns-in_ok-out-in-FastAbandon c = λ g k content votes proposal accepts s is.
    let l = c.in-FastAbandon.ensures g k content votes proposal accepts s is in
    subst (λ (t : Turn). Takes g t c.decide-in-FastAbandon.new.self c.in_ok-out-in-FastAbandon.out) (sym l.turn)
    (c.in_ok-out-in-FastAbandon.ensures g l.now content l.votes l.proposal l.accepts l.stands l.phase)

pub returns-in_ok-out-in-Propose : goal.returns-in_ok-out-in-Propose
returns-in_ok-out-in-Propose c = λ g k content votes proposal accepts s is.
    let l = c.in-Propose.ensures g k content votes proposal accepts s is in
    subst (λ (t : Turn). Takes g t c.propose.new.self c.in_ok-out-in-Propose.out) (sym l.turn)
    (c.in_ok-out-in-Propose.ensures g l.now content l.votes l.proposal l.accepts l.stands l.phase)
