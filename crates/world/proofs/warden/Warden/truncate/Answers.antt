-- A truncation is a turn of the warden.
use Rattle.std.proofs.lemmas.Result.{on_ok_weaker}
use Rattle.protocol.specs.Warden.Truncation.{truncate}
use Rattle.world.proofs.WardenTurns.{takes}
use Rattle.world.proofs.warden.Warden.truncate.Goals as goal

pub returns : goal.returns
returns c = on_ok_weaker c.truncate.result (λ f. λ p k s h.
    let w = c.args.self.now in
    takes p k w.recoverer c.truncate.new.self (truncate s c.args.w) c.args.out.now c.truncate.new.out h.rules (f w.recoverer s h.stands)) c.truncate.ensures.ok
