-- Each end of taking an Accepted is the turn of the definitions.
use Rattle.std.proofs.Common.{◌≡◌, Some, None, subst, sym, ap, ◌∙◌, arith}
use Rattle.std.proofs.lemmas.Result.{on_ok_weaker}
use Rattle.std.specs.Option.{option_copied}
use Rattle.protocol.specs.Warden.Recovery.{round_of, take_accept}
use Rattle.protocol.specs.Warden.State.{WardenState}
use Rattle.recovery.specs.Round.{accepted_by}
use Rattle.recovery.specs.Recoverer.{TakesTurn}
use Rattle.recovery.proofs.StateLemmas.{at_state, accept_put, accept_ignored, accept_counted, accept_decides, accept_proposed}
use Rattle.recovery.proofs.state.State.take_accept.Goals as goal

pub returns-then-not-counts_accept : goal.returns-then-not-counts_accept
returns-then-not-counts_accept c =
    let a = c.in-Some.round.now in
    let found : round_of c.args.exec c.args.view c.self.inside.rounds ≡ Some a = sym c.get.ensures ∙ ap option_copied c.in-Some.is in
    subst (λ (s : WardenState). TakesTurn c.args.rules.now (take_accept c.args.rules.now s c.args.exec c.args.view c.args.replica (round_of c.args.exec c.args.view s.rounds)) s c.args.out.now c.args.out.now) c.self.view_is
    (accept_ignored c.args.rules.now c.self.inside.rounds c.self.inside.decisions c.args.exec c.args.view a found c.args.replica c.args.out.now
    (sym c.counts_accept.ensures ∙ c.if-not-counts_accept.true))

pub unreachable-requires : goal.unreachable-requires
unreachable-requires c =
    let a = c.in-Some.round.now in
    let found : round_of c.args.exec c.args.view c.self.inside.rounds ≡ Some a = sym c.get.ensures ∙ ap option_copied c.in-Some.is in
    let put = accept_put c.args.rules.now c.self.inside.rounds c.self.inside.decisions c.args.exec c.args.view a found c.args.replica c.add_accept.new.self (c.in_ok-add_accept.ensures a found) in
    let none : round_of c.args.exec c.args.view c.add_accept.new.self ≡ None = sym c.get-2.ensures ∙ ap option_copied c.in_default-get.is in
    absurd (cc)

pub returns-then-accept_count-quorum : goal.returns-then-accept_count-quorum
returns-then-accept_count-quorum c =
    let a = c.in-Some.round.now in
    let found : round_of c.args.exec c.args.view c.self.inside.rounds ≡ Some a = sym c.get.ensures ∙ ap option_copied c.in-Some.is in
    let there : round_of c.args.exec c.args.view c.add_accept.new.self ≡ Some c.in-Some-get.round.now = sym c.get-2.ensures ∙ ap option_copied c.in-Some-get.is in
    at_state c.args.rules.now _ _ _ (λ s. take_accept c.args.rules.now s c.args.exec c.args.view c.args.replica (round_of c.args.exec c.args.view s.rounds)) _ _ c.self.view_is
    (accept_counted c.args.rules.now c.self.inside.rounds c.self.inside.decisions c.args.exec c.args.view a found c.args.replica c.add_accept.new.self c.in-Some-get.round.now c.args.out.now
    (sym c.counts_accept.ensures ∙ c.if-not-counts_accept.false)
    (c.in_ok-add_accept.ensures a found) there (omega arith))

pub returns-in_default-proposal : goal.returns-in_default-proposal
returns-in_default-proposal c =
    let a = c.in-Some.round.now in
    let found : round_of c.args.exec c.args.view c.self.inside.rounds ≡ Some a = sym c.get.ensures ∙ ap option_copied c.in-Some.is in
    let there : round_of c.args.exec c.args.view c.add_accept.new.self ≡ Some c.in-Some-get.round.now = sym c.get-2.ensures ∙ ap option_copied c.in-Some-get.is in
    let put = accept_put c.args.rules.now c.self.inside.rounds c.self.inside.decisions c.args.exec c.args.view a found c.args.replica c.add_accept.new.self (c.in_ok-add_accept.ensures a found) in
    let new_is : c.in-Some-get.round.now ≡ accepted_by a c.args.replica = cc in
    absurd (accept_proposed a c.in-Some-get.round.now c.args.replica (sym c.counts_accept.ensures ∙ c.if-not-counts_accept.false) new_is
    (sym c.proposal.ensures ∙ ap option_copied c.in_default-proposal.is))

pub returns : goal.returns
returns c = on_ok_weaker c.decide.result (λ turn.
    let a = c.in-Some.round.now in
    let found : round_of c.args.exec c.args.view c.self.inside.rounds ≡ Some a = sym c.get.ensures ∙ ap option_copied c.in-Some.is in
    let there : round_of c.args.exec c.args.view c.add_accept.new.self ≡ Some c.in-Some-get.round.now = sym c.get-2.ensures ∙ ap option_copied c.in-Some-get.is in
    at_state c.args.rules.now _ _ _ (λ s. take_accept c.args.rules.now s c.args.exec c.args.view c.args.replica (round_of c.args.exec c.args.view s.rounds)) _ _ c.self.view_is
    (accept_decides c.args.rules.now c.self.inside.rounds c.self.inside.decisions c.args.exec c.args.view a found c.args.replica c.add_accept.new.self c.in-Some-get.round.now c.in_ok-proposal.proposal c.in-Some-proposal.proposal.now
    c.decide.new.self c.args.out.now c.decide.new.out
    (sym c.counts_accept.ensures ∙ c.if-not-counts_accept.false)
    (c.in_ok-add_accept.ensures a found) there (omega arith) (sym c.proposal.ensures ∙ ap option_copied c.in-Some-proposal.is) c.in_ok-proposal.ensures turn)) c.decide.ensures
