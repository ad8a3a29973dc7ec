-- The newest decision stands at the last place.
use Rattle.std.proofs.Common.{Some, find, reverse, ap, sym, ◌∙◌, rules}
use Rattle.std.specs.Option.{option_copied}
use Rattle.morty_base.specs.Names.{same_exec}
use Rattle.protocol.specs.Warden.State.{DecidedProposal}
use Rattle.recovery.proofs.PlacesLemmas.{decision_at, decision_none}
use Rattle.recovery.proofs.decision.Decisions.on.Goals as goal

pub returns-in_err-place : goal.returns-in_err-place
returns-in_err-place c =
    search rules ∙ sym (decision_none c.args.exec c.self.inside.items.items c.of.result.now
    (ap reverse c.of.ensures ∙ c.self.invariant c.args.exec) (sym c.last.ensures.value ∙ search rules))
    ∙ ap (find (λ (d : DecidedProposal). same_exec c.args.exec d.exec)) c.self.view_is

pub index-requires : goal.index-requires
index-requires c =
    let within = (decision_at c.args.exec c.self.inside.items.items c.of.result.now (ap reverse c.of.ensures ∙ c.self.invariant c.args.exec)
    c.in_ok-place.place.now (sym c.last.ensures.value ∙ ap option_copied c.in_ok-place.was)).0 in
    search rules

pub returns : goal.returns
returns c =
    let d = c.index.result.now in
    let is = (decision_at c.args.exec c.self.inside.items.items c.of.result.now (ap reverse c.of.ensures ∙ c.self.invariant c.args.exec)
    c.in_ok-place.place.now (sym c.last.ensures.value ∙ ap option_copied c.in_ok-place.was)).1 d in
    ap (λ (e : DecidedProposal). Some e) c.index.ensures
    ∙ sym is ∙ ap (find (λ (e : DecidedProposal). same_exec c.args.exec e.exec)) c.self.view_is
