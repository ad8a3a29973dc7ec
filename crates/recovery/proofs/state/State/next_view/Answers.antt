-- The view that is left is that of the definitions.
use Rattle.std.proofs.Common.{◌∙◌, ◌+◌, ◌*◌, ◌<◌, ◌≡◌, ap, subst}
use Rattle.std.specs.Prelude.{MatchOption}
use Rattle.protocol.specs.Warden.State.{WardenRules, WardenState}
use Rattle.protocol.specs.Warden.Recovery.{used}
use Rattle.recovery.specs.Round.{last_view}
use Rattle.recovery.proofs.StateLemmas.{next_view_of}
use Rattle.recovery.proofs.state.State.next_view.Goals as goal

pub returns : goal.returns
returns c =
    next_view_of c.next_view.result c.args.rules.now c.args.self.now c.args.exec c.used.result
    (c.used.ensures ∙ ap (λ (s : WardenState). used c.args.exec s.rounds) c.self.view_is)
    (subst (λ (r : WardenRules). MatchOption c.next_view.result (last_view < r.warden + c.used.result * r.wardens) (λ v. v ≡ r.warden + c.used.result * r.wardens)) c.rules.view_is
    c.next_view.ensures)
