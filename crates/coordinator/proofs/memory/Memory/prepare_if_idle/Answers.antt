-- A pending client waits; another may be ready.
use Rattle.std.proofs.Common.{◌≡◌, ◌∙◌, sym, subst}
use Rattle.protocol.specs.Client.State.Phase.{Running}
use Rattle.coordinator.proofs.SegmentLemmas.{runs_so}
use Rattle.coordinator.proofs.FollowingLemmas.{idle_goes, idle_waits}
use Rattle.coordinator.proofs.memory.Memory.prepare_if_idle.Goals as goal

pub returns-then-is_pending : goal.returns-then-is_pending
returns-then-is_pending c = λ g k pending given s runs.
    let so = runs_so g k c.args.self.now pending given s runs in
    let same = sym so.1 ∙ sym c.is_pending.ensures ∙ c.if-is_pending.true in
    idle_waits g k c.args.self.now given c.new-sent.result s (subst (λ p. k.phase ≡ Running p given) same runs) c.new-sent.ensures

pub returns : goal.returns
returns c = λ g k pending given s runs.
    let so = runs_so g k c.args.self.now pending given s runs in
    let same = sym so.1 ∙ sym c.is_pending.ensures ∙ c.if-is_pending.false in
    let still = subst (λ p. k.phase ≡ Running p given) same runs in
    idle_goes g k c.prepare_if_ready.new.self given c.new-sent.result c.in_ok-out.out still c.new-sent.ensures (c.in_ok-out.ensures g k given s still)
