-- Each end of taking a Told is the turn of the definitions.
use Rattle.std.proofs.Common.{◌≡◌, Some, None, length, subst, sym, ap, ◌∙◌, arith}
use Rattle.std.proofs.lemmas.Result.{on_ok_weaker}
use Rattle.std.specs.Option.{option_copied}
use Rattle.protocol.specs.Warden.Recovery.{fixed, round_of, take_told}
use Rattle.protocol.specs.Warden.State.{ToldAnswer, WardenState}
use Rattle.recovery.specs.Round.{counts_told}
use Rattle.recovery.specs.Recoverer.{TakesTurn}
use Rattle.recovery.proofs.StateLemmas.{at_state, told_unasked, told_put, told_ignored, told_counted, told_fixes}
use Rattle.recovery.proofs.state.State.take_told.Goals as goal

pub returns-in_default : goal.returns-in_default
returns-in_default c =
    subst (λ (s : WardenState). TakesTurn c.args.rules.now (take_told c.args.rules.now s c.args.exec c.args.view c.args.told (round_of c.args.exec c.args.view s.rounds)) s c.args.out.now c.args.out.now) c.self.view_is
    (told_unasked c.args.rules.now c.self.inside.rounds c.self.inside.decisions c.args.exec c.args.view c.args.told c.args.out.now (sym c.get.ensures ∙ ap option_copied c.in_default.is))

pub returns-then-not-counts_told : goal.returns-then-not-counts_told
returns-then-not-counts_told c =
    let a = c.in-Some.round.now in
    let found : round_of c.args.exec c.args.view c.self.inside.rounds ≡ Some a = sym c.get.ensures ∙ ap option_copied c.in-Some.is in
    subst (λ (s : WardenState). TakesTurn c.args.rules.now (take_told c.args.rules.now s c.args.exec c.args.view c.args.told (round_of c.args.exec c.args.view s.rounds)) s c.args.out.now c.args.out.now) c.self.view_is
    (told_ignored c.args.rules.now c.self.inside.rounds c.self.inside.decisions c.args.exec c.args.view a found c.args.told c.args.out.now
    (sym (c.counts_told.ensures ∙ ap (λ (t : ToldAnswer). counts_told a t.replica) c.told.view_is) ∙ c.if-not-counts_told.true))

pub unreachable-requires : goal.unreachable-requires
unreachable-requires c =
    let a = c.in-Some.round.now in
    let found : round_of c.args.exec c.args.view c.self.inside.rounds ≡ Some a = sym c.get.ensures ∙ ap option_copied c.in-Some.is in
    let put = told_put c.args.rules.now c.self.inside.rounds c.self.inside.decisions c.args.exec c.args.view a found c.args.told c.add_told.new.self (c.in_ok-add_told.ensures a found) in
    let none : round_of c.args.exec c.args.view c.add_told.new.self ≡ None = sym c.get-2.ensures ∙ ap option_copied c.in_default-get.is in
    absurd (cc)

pub returns-then-tolds-quorum : goal.returns-then-tolds-quorum
returns-then-tolds-quorum c =
    let a = c.in-Some.round.now in
    let found : round_of c.args.exec c.args.view c.self.inside.rounds ≡ Some a = sym c.get.ensures ∙ ap option_copied c.in-Some.is in
    let there : round_of c.args.exec c.args.view c.add_told.new.self ≡ Some c.in-Some-get.round.now = sym c.get-2.ensures ∙ ap option_copied c.in-Some-get.is in
    at_state c.args.rules.now _ _ _ (λ s. take_told c.args.rules.now s c.args.exec c.args.view c.args.told (round_of c.args.exec c.args.view s.rounds)) _ _ c.self.view_is
    (told_counted c.args.rules.now c.self.inside.rounds c.self.inside.decisions c.args.exec c.args.view a found c.args.told c.add_told.new.self c.in-Some-get.round.now c.args.out.now
    (sym (c.counts_told.ensures ∙ ap (λ (t : ToldAnswer). counts_told a t.replica) c.told.view_is) ∙ c.if-not-counts_told.false)
    (c.in_ok-add_told.ensures a found) there (omega (arith, ap length c.tolds.ensures)))

pub returns : goal.returns
returns c = on_ok_weaker c.send_to_all.result (λ sent.
    let a = c.in-Some.round.now in
    let found : round_of c.args.exec c.args.view c.self.inside.rounds ≡ Some a = sym c.get.ensures ∙ ap option_copied c.in-Some.is in
    let there : round_of c.args.exec c.args.view c.add_told.new.self ≡ Some c.in-Some-get.round.now = sym c.get-2.ensures ∙ ap option_copied c.in-Some-get.is in
    at_state c.args.rules.now _ _ _ (λ s. take_told c.args.rules.now s c.args.exec c.args.view c.args.told (round_of c.args.exec c.args.view s.rounds)) _ _ c.self.view_is
    (told_fixes c.args.rules.now c.self.inside.rounds c.self.inside.decisions c.args.exec c.args.view a found c.args.told c.add_told.new.self c.propose.new.self c.in-Some-get.round.now c.in_ok-proposal.proposal c.in_ok-body.body
    c.args.out.now c.send_to_all.new.out
    (sym (c.counts_told.ensures ∙ ap (λ (t : ToldAnswer). counts_told a t.replica) c.told.view_is) ∙ c.if-not-counts_told.false)
    (c.in_ok-add_told.ensures a found) there (omega (arith, ap length c.tolds.ensures)) (c.in_ok-proposal.ensures ∙ ap fixed c.tolds-2.ensures) c.in_ok-body.ensures
    (c.propose.ensures c.in-Some-get.round.now there) sent)) c.send_to_all.ensures
