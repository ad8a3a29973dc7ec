-- Asking in the next view is the turn of the definitions.
use Rattle.std.proofs.Common.{◌∷◌, ap, sym, ◌∙◌}
use Rattle.std.proofs.lemmas.Result.{on_ok_weaker}
use Rattle.protocol.specs.Warden.Recovery.{next_view, recover}
use Rattle.protocol.specs.Warden.State.{Round, WardenState}
use Rattle.recovery.proofs.StateLemmas.{at_state, bare, recovers}
use Rattle.recovery.proofs.state.State.recover.Goals as goal

pub returns : goal.returns
returns c = on_ok_weaker c.send_to_all.result (λ sent.
    at_state c.args.rules.now _ _ _ (λ s. recover c.args.rules.now s c.args.exec) _ _ c.self.view_is
    (recovers c.args.rules.now (bare c.self.inside.rounds c.self.inside.decisions) c.args.exec c.args.view c.add.new.self c.args.out.now c.send_to_all.new.out
    (c.requires ∙ ap (λ (s : WardenState). next_view c.args.rules.now s c.args.exec) (sym c.self.view_is))
    (c.in_ok-add.ensures ∙ ap (λ (a : Round). a ∷ c.self.inside.rounds) c.new.ensures) sent)) c.send_to_all.ensures
