-- What comes is taken by its body.
use Rattle.std.proofs.Common.{◌≡◌, ℤ, sym, subst, w64, to_z, of_z, rules}
use Rattle.protocol.specs.Words.{Body, same_version}
use Rattle.protocol.specs.Client.State.{idle, turn_when}
use Rattle.protocol.specs.Client.Following.{note_prepared}
use Rattle.protocol.specs.Client.Step.{comes_prepared}
use Rattle.coordinator.specs.Memory.{Takes}
use Rattle.coordinator.proofs.EnvelopeLemmas.{prepared_else, takes_idle}
use Rattle.coordinator.proofs.memory.Memory.comes_prepared.Goals as goal

pub returns-in_ok-out-in-Note : goal.returns-in_ok-out-in-Note
unfolding comes_prepared
returns-in_ok-out-in-Note c = λ g k content votes proposal accepts s is.
    let same : to_z w64 (of_z w64 c.in-Note.value) ≡ c.in-Note.value = search rules in
    subst (λ (b : Body). Takes g (comes_prepared g.rules k content votes proposal accepts c.args.from b) c.noted_prepared.new.self c.in_ok-out-in-Note.out) (sym c.in-Note.is)
    (subst (λ (x : ℤ). Takes g
    (turn_when (same_version c.in-Note.ver k.exec.ver) k (idle (note_prepared g.rules k c.in-Note.key (record { wid = c.in-Note.wid; value = x; sure = c.in-Note.sure }) c.in-Note.gone)))
    c.noted_prepared.new.self c.in_ok-out-in-Note.out) same (c.in_ok-out-in-Note.ensures g k content votes proposal accepts s is))

pub returns-in_ok-out-in-Decide : goal.returns-in_ok-out-in-Decide
unfolding comes_prepared
returns-in_ok-out-in-Decide c = λ g k content votes proposal accepts s is.
    subst (λ (b : Body). Takes g (comes_prepared g.rules k content votes proposal accepts c.args.from b) c.told_prepared.new.self c.in_ok-out-in-Decide.out) (sym c.in-Decide.is)
    (c.in_ok-out-in-Decide.ensures g k content votes proposal accepts s is)

pub returns-in_ok-out-in-Vote : goal.returns-in_ok-out-in-Vote
returns-in_ok-out-in-Vote c = λ g k content votes proposal accepts s is.
    subst (λ (b : Body). Takes g (comes_prepared g.rules k content votes proposal accepts c.args.from b) c.counts_vote.new.self c.in_ok-out-in-Vote.out) (sym c.in-Vote.is)
    (c.in_ok-out-in-Vote.ensures g k content votes proposal accepts s is)

pub returns-in_ok-out-in-Accepted : goal.returns-in_ok-out-in-Accepted
returns-in_ok-out-in-Accepted c = λ g k content votes proposal accepts s is.
    subst (λ (b : Body). Takes g (comes_prepared g.rules k content votes proposal accepts c.args.from b) c.counts_accept.new.self c.in_ok-out-in-Accepted.out) (sym c.in-Accepted.is)
    (c.in_ok-out-in-Accepted.ensures g k content votes proposal accepts s is)

pub returns-in_default : goal.returns-in_default
returns-in_default c = λ g k content votes proposal accepts s is.
    takes_idle g k c.args.self.now _ c.new.result s
    (prepared_else g.rules k content votes proposal accepts c.args.from c.args.body.now c.in_default.not-Note c.in_default.not-Decide c.in_default.not-Vote c.in_default.not-Accepted) c.new.ensures
