-- The round stands at its place, and the one that is put there is of the same execution.
use Rattle.std.proofs.Common.{◌≡◌, None, get_or, ap, sym, ◌∙◌, rules}
use Rattle.std.proofs.lemmas.Result.{on_ok_weaker, on_err_weaker}
use Rattle.protocol.specs.Warden.State.{Round}
use Rattle.std.specs.Prelude.{is_some}
use Rattle.protocol.specs.Warden.Recovery.{round_of, with_round}
use Rattle.recovery.specs.Round.{accepted_by}
use Rattle.recovery.proofs.PlacesLemmas.{no_place, in_items, is_there, is_put, index_kept, exec_of, either_way}
use Rattle.recovery.proofs.rounds.Rounds.add_accept.Goals as goal

pub unreachable-requires : goal.unreachable-requires
unreachable-requires c =
    let none : round_of c.args.exec c.args.view c.args.self.now ≡ None = no_place c.args.exec c.args.view c.args.self.now (sym c.place.ensures ∙ c.in_default.is) in
    let there = c.requires.1 in
    absurd (cc)

pub index_mut-requires : goal.index_mut-requires
index_mut-requires c =
    let within = in_items c.args.exec c.args.view c.in-Some.place c.self.inside.items.items c.args.self.now c.self.view_is (sym c.place.ensures ∙ c.in-Some.is) in
    search rules

pub add_accept-requires : goal.add_accept-requires
add_accept-requires c =
    let r = c.index_mut.result.now in
    let there = is_there c.args.exec c.args.view c.in-Some.place c.self.inside.items.items c.args.self.now c.self.view_is (sym c.place.ensures ∙ c.in-Some.is) r in
    let one : c.requires.0 ≡ r = let a = c.requires.1 in let i = c.index_mut.ensures.value in cc in
    ap (λ (a : Round). is_some a.proposal) (sym one) ∙ c.requires.2

pub invariant_of-self : goal.invariant_of-self
invariant_of-self c =
    let r = c.index_mut.result.now in
    let same = exec_of r (get_or c.self.inside.items.items c.in-Some.place r) c.index_mut.ensures.value in
    index_kept c.args.exec c.args.view c.in-Some.place c.self.inside.items.items c.args.self.now c.self.view_is (sym c.place.ensures ∙ c.in-Some.is)
    _ c.self.invariant r c.add_accept.new.self
    (either_way c.add_accept.result
    (on_ok_weaker c.add_accept.result (λ n. exec_of c.add_accept.new.self (accepted_by r c.args.replica) n ∙ same) c.add_accept.ensures.ok)
    (on_err_weaker c.add_accept.result (λ n. exec_of c.add_accept.new.self r n ∙ same) c.add_accept.ensures.err))

pub returns : goal.returns
returns c = on_ok_weaker c.add_accept.result (λ n. λ a h.
    let r = c.index_mut.result.now in
    let there = is_there c.args.exec c.args.view c.in-Some.place c.self.inside.items.items c.args.self.now c.self.view_is (sym c.place.ensures ∙ c.in-Some.is) r in
    let one : r ≡ a = let i = c.index_mut.ensures.value in cc in
    is_put c.args.exec c.args.view c.in-Some.place c.self.inside.items.items c.args.self.now c.self.view_is (sym c.place.ensures ∙ c.in-Some.is) c.add_accept.new.self
    ∙ ap (λ (b : Round). with_round c.args.exec c.args.view b c.args.self.now) (n ∙ ap (λ (b : Round). accepted_by b c.args.replica) one)) c.add_accept.ensures.ok
