-- What comes is taken by its body.
use Rattle.std.proofs.Common.{◌≡◌, ℤ, ap, sym, subst, w64, to_z, of_z, rules}
use Rattle.protocol.specs.Words.{Body, same_version}
use Rattle.protocol.specs.Client.State.{turn_when}
use Rattle.protocol.specs.Client.Attempts.{is_between}
use Rattle.protocol.specs.Client.Following.{note_running}
use Rattle.protocol.specs.Client.Step.{comes_running}
use Rattle.coordinator.specs.Memory.{Takes}
use Rattle.coordinator.proofs.EnvelopeLemmas.{running_else, takes_idle}
use Rattle.coordinator.proofs.memory.Memory.comes_running.Goals as goal

pub returns-in_ok-out-in-Note : goal.returns-in_ok-out-in-Note
unfolding comes_running
returns-in_ok-out-in-Note c = λ g k pending given s runs.
    let same : to_z w64 (of_z w64 c.in-Note.value) ≡ c.in-Note.value = search rules in
    subst (λ (b : Body). Takes g (comes_running g.rules k pending c.args.from b) c.noted_running.new.self c.in_ok-out-in-Note.out) (sym c.in-Note.is)
    (subst (λ (x : ℤ). Takes g
    (turn_when (same_version c.in-Note.ver k.exec.ver) k (note_running g.rules k pending c.in-Note.key (record { wid = c.in-Note.wid; value = x; sure = c.in-Note.sure }) c.in-Note.gone))
    c.noted_running.new.self c.in_ok-out-in-Note.out) same (c.in_ok-out-in-Note.ensures g k pending given s runs))

pub returns-in_ok-out-in-TooOld : goal.returns-in_ok-out-in-TooOld
unfolding comes_running
returns-in_ok-out-in-TooOld c = λ g k pending given s runs.
    subst (λ (b : Body). Takes g (comes_running g.rules k pending c.args.from b) c.too_old.new.self c.in_ok-out-in-TooOld.out) (sym c.in-TooOld.is)
    (c.in_ok-out-in-TooOld.ensures g k s (ap is_between runs))

pub returns-in-Decide : goal.returns-in-Decide
unfolding comes_running
returns-in-Decide c = λ g k pending given s runs.
    subst (λ (b : Body). Takes g (comes_running g.rules k pending c.args.from b) c.told_running.new.self c.told_running.result) (sym c.in-Decide.is)
    (c.told_running.ensures g k s (ap is_between runs))

pub returns-in_default : goal.returns-in_default
returns-in_default c = λ g k pending given s runs.
    takes_idle g k c.args.self.now _ c.new.result s
    (running_else g.rules k pending c.args.from c.args.body.now c.in_default.not-Note c.in_default.not-TooOld c.in_default.not-Decide) c.new.ensures
