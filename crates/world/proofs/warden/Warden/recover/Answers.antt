-- A recovery beside the truncations is a turn of the warden.
use Rattle.std.proofs.Common.{subst, ◌∙◌}
use Rattle.std.proofs.lemmas.Result.{on_ok_weaker}
use Rattle.protocol.specs.Warden.State.{WardenRules}
use Rattle.protocol.specs.Warden.Recovery.{recover}
use Rattle.protocol.specs.World.State.{warden_rules}
use Rattle.truncation.specs.Truncator.{StandsAt}
use Rattle.world.proofs.WardenTurns.{same_can, takes}
use Rattle.world.proofs.warden.Warden.recover.Goals as goal

pub recover-requires : goal.recover-requires
recover-requires c = λ whole. same_can c.requires.0 c.requires.1 c.requires.2 c.args.self.now c.args.x c.requires.3 ∙ c.requires.4

pub returns : goal.returns
returns c = on_ok_weaker c.recover.result (λ d. λ p k s h.
    let w = c.args.self.now in
    let at = c.recoveries_stand.ensures w.truncator w.recoverer c.recover.new.self s c.args.x c.args.out.now c.recover.new.out h.stands d in
    takes p k c.recover.new.self w.truncator (recover (warden_rules p k) s c.args.x) c.args.out.now c.recover.new.out (d.rules ∙ h.rules)
    (subst (λ (r : WardenRules). StandsAt w.truncator c.recover.new.self c.args.out.now c.recover.new.out (recover r s c.args.x)) h.rules at)) c.recover.ensures.ok
