-- The round stands at its place, and the one that is put there is of the same execution.
use Rattle.std.proofs.Common.{◌≡◌, None, get_or, ap, sym, ◌∙◌, rules}
use Rattle.protocol.specs.Warden.State.{Round}
use Rattle.protocol.specs.Warden.Recovery.{round_of, with_round, with_proposal}
use Rattle.recovery.proofs.PlacesLemmas.{no_place, in_items, is_there, is_put, index_kept, exec_of}
use Rattle.recovery.proofs.rounds.Rounds.propose.Goals as goal

pub index_mut-requires : goal.index_mut-requires
index_mut-requires c =
    let within = in_items c.args.exec c.args.view c.in-Some.place c.self.inside.items.items c.args.self.now c.self.view_is (sym c.place.ensures ∙ c.in-Some.is) in
    search rules

pub invariant_of-self : goal.invariant_of-self
invariant_of-self c =
    let r = c.index_mut.result.now in
    let same = exec_of r (get_or c.self.inside.items.items c.in-Some.place r) c.index_mut.ensures.value in
    index_kept c.args.exec c.args.view c.in-Some.place c.self.inside.items.items c.args.self.now c.self.view_is (sym c.place.ensures ∙ c.in-Some.is)
    _ c.self.invariant r c.propose.new.self (exec_of c.propose.new.self (with_proposal r c.args.proposal) c.propose.ensures ∙ same)

pub returns-in-Some : goal.returns-in-Some
returns-in-Some c = λ a h.
    let r = c.index_mut.result.now in
    let there = is_there c.args.exec c.args.view c.in-Some.place c.self.inside.items.items c.args.self.now c.self.view_is (sym c.place.ensures ∙ c.in-Some.is) r in
    let one : r ≡ a = let i = c.index_mut.ensures.value in cc in
    is_put c.args.exec c.args.view c.in-Some.place c.self.inside.items.items c.args.self.now c.self.view_is (sym c.place.ensures ∙ c.in-Some.is) c.propose.new.self
    ∙ ap (λ (b : Round). with_round c.args.exec c.args.view b c.args.self.now) (c.propose.ensures ∙ ap (λ (b : Round). with_proposal b c.args.proposal) one)

pub returns-in_default : goal.returns-in_default
returns-in_default c = λ a h.
    let none : round_of c.args.exec c.args.view c.args.self.now ≡ None = no_place c.args.exec c.args.view c.args.self.now (sym c.place.ensures ∙ c.in_default.is) in
    absurd (cc)
