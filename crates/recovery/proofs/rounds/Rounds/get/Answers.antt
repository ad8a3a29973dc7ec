-- The round stands at its place.
use Rattle.std.proofs.Common.{Some, ap, sym, ◌∙◌, rules}
use Rattle.protocol.specs.Warden.State.{Round}
use Rattle.recovery.proofs.PlacesLemmas.{no_place, in_items, is_there}
use Rattle.recovery.proofs.rounds.Rounds.get.Goals as goal

pub returns-in_err-place : goal.returns-in_err-place
returns-in_err-place c = search rules ∙ sym (no_place c.args.exec c.args.view c.args.self.now (sym c.place.ensures ∙ search rules))

pub index-requires : goal.index-requires
index-requires c =
    let within = in_items c.args.exec c.args.view c.in_ok-place.place c.self.inside.items.items c.args.self.now c.self.view_is (sym c.place.ensures ∙ c.in_ok-place.was) in
    search rules

pub returns : goal.returns
returns c =
    ap (λ (a : Round). Some a) c.index.ensures
    ∙ sym (is_there c.args.exec c.args.view c.in_ok-place.place c.self.inside.items.items c.args.self.now c.self.view_is (sym c.place.ensures ∙ c.in_ok-place.was) c.index.result.now)
