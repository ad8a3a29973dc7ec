-- What is heard is what the definitions hear, body by body.
use Rattle.std.proofs.Common.{ap, sym, subst, ◌∙◌, refl}
use Rattle.std.proofs.lemmas.Result.{on_ok_weaker}
use Rattle.protocol.specs.Warden.Recovery.{recovery_hears, take_told, round_of}
use Rattle.protocol.specs.Warden.State.{WardenTurn}
use Rattle.recovery.specs.Recoverer.{TakesTurn}
use Rattle.recovery.proofs.StateLemmas.{unmoved}
use Rattle.recovery.proofs.HearingLemmas.{hears_nobody, hears_decided_told, hears_decided_accepted, hears_told, hears_accepted, hears_other}
use Rattle.recovery.proofs.state.State.hear.Goals as goal

pub returns-in_default : goal.returns-in_default
returns-in_default c =
    unmoved c.args.rules.now _ c.args.self.now c.args.self.now c.args.out.now
    (hears_nobody c.args.rules.now c.args.self.now c.args.env.now.from c.args.env.now.body (sym c.sender.ensures ∙ c.in_default.is)) refl

pub returns-then-not-is_undecided : goal.returns-then-not-is_undecided
returns-then-not-is_undecided c =
    unmoved c.args.rules.now _ c.args.self.now c.args.self.now c.args.out.now
    (ap (λ b. recovery_hears c.args.rules.now c.args.self.now c.args.env.now.from b) c.in-Told.is
    ∙ hears_decided_told c.args.rules.now c.args.self.now c.args.env.now.from c.in-Told.exec c.in-Told.view c.in-Told.vote c.in-Told.accepted c.in-Told.decided c.in-Told.content
    (sym c.is_undecided.ensures ∙ c.if-not-is_undecided.true)) refl

pub returns-then-not-is_undecided-2 : goal.returns-then-not-is_undecided-2
returns-then-not-is_undecided-2 c =
    unmoved c.args.rules.now _ c.args.self.now c.args.self.now c.args.out.now
    (ap (λ b. recovery_hears c.args.rules.now c.args.self.now c.args.env.now.from b) c.in-Accepted.is
    ∙ hears_decided_accepted c.args.rules.now c.args.self.now c.args.env.now.from c.in-Accepted.exec c.in-Accepted.view
    (sym c.is_undecided-in-Accepted.ensures ∙ c.if-not-is_undecided-2.true)) refl

pub returns-in_ok-content-in-Told : goal.returns-in_ok-content-in-Told
returns-in_ok-content-in-Told c = on_ok_weaker c.take_told.result (λ turn.
    subst (λ (t : WardenTurn). TakesTurn c.args.rules.now t c.take_told.new.self c.args.out.now c.take_told.new.out)
    (sym (ap (λ b. recovery_hears c.args.rules.now c.args.self.now c.args.env.now.from b) c.in-Told.is
    ∙ hears_told c.args.rules.now c.args.self.now c.args.env.now.from c.in-Told.exec c.in-Told.view c.in-Some.replica c.in-Told.vote c.in-Told.accepted c.in-Told.decided c.in-Told.content
    (sym c.is_undecided.ensures ∙ c.if-not-is_undecided.false) (sym c.sender.ensures ∙ c.in-Some.is)
    ∙ ap (λ content. take_told c.args.rules.now c.args.self.now c.in-Told.exec c.in-Told.view
    (record { replica = c.in-Some.replica; vote = c.in-Told.vote; accepted = c.in-Told.accepted; decided = c.in-Told.decided; content = content })
    (round_of c.in-Told.exec c.in-Told.view c.args.self.now.rounds)) (sym c.in_ok-content-in-Told.ensures))) turn) c.take_told.ensures

pub returns-else-not-is_undecided-2 : goal.returns-else-not-is_undecided-2
returns-else-not-is_undecided-2 c = on_ok_weaker c.take_accept.result (λ turn.
    subst (λ (t : WardenTurn). TakesTurn c.args.rules.now t c.take_accept.new.self c.args.out.now c.take_accept.new.out)
    (sym (ap (λ b. recovery_hears c.args.rules.now c.args.self.now c.args.env.now.from b) c.in-Accepted.is
    ∙ hears_accepted c.args.rules.now c.args.self.now c.args.env.now.from c.in-Accepted.exec c.in-Accepted.view c.in-Some.replica
    (sym c.is_undecided-in-Accepted.ensures ∙ c.if-not-is_undecided-2.false) (sym c.sender.ensures ∙ c.in-Some.is))) turn) c.take_accept.ensures

pub returns-in_default-body : goal.returns-in_default-body
returns-in_default-body c =
    unmoved c.args.rules.now _ c.args.self.now c.args.self.now c.args.out.now
    (hears_other c.args.rules.now c.args.self.now c.args.env.now.from c.args.env.now.body c.in_default-body.not-Told c.in_default-body.not-Accepted) refl
