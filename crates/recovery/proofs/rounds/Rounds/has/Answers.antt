-- An execution was asked about where it has places.
use Rattle.std.proofs.Common.{length, not, reverse, ap, sym, ◌∙◌}
use Rattle.std.specs.Prelude.{◌==◌}
use Rattle.std.specs.List.{list_any}
use Rattle.std.proofs.lemmas.List.{length-reverse}
use Rattle.morty_base.specs.Names.{same_exec}
use Rattle.protocol.specs.Warden.State.{Round}
use Rattle.recovery.proofs.PlacesLemmas.{has_places}
use Rattle.recovery.proofs.rounds.Rounds.has.Goals as goal

pub returns : goal.returns
returns c =
    ap not (c.is_empty.ensures ∙ ap (λ n. n == 0) (ap length c.of.ensures ∙ sym (length-reverse _) ∙ ap length (c.self.invariant c.args.exec)))
    ∙ has_places c.args.exec (reverse c.self.inside.items.items)
    ∙ ap (list_any (λ (a : Round). same_exec c.args.exec a.exec)) c.self.view_is
