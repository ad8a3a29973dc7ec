-- As many places as views.
use Rattle.std.proofs.Common.{length, reverse, ap, sym, ◌∙◌}
use Rattle.std.proofs.lemmas.List.{length-reverse}
use Rattle.protocol.specs.Warden.Recovery.{used}
use Rattle.recovery.proofs.PlacesLemmas.{used_places}
use Rattle.recovery.proofs.rounds.Rounds.used.Goals as goal

pub returns : goal.returns
returns c =
    ap length c.of.ensures ∙ sym (length-reverse _) ∙ ap length (c.self.invariant c.args.exec) ∙ used_places c.args.exec (reverse c.self.inside.items.items)
    ∙ ap (used c.args.exec) c.self.view_is
