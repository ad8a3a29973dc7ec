-- The envelope stands behind those that were sent, and in the inbox of its receiver's slot, if it has one.
use Rattle.std.proofs.Common.{◌≡◌, ◌<◌, ◌++◌, ◌∷◌, [], length, refl, ap, sym, ◌∙◌, arith}
use Rattle.std.proofs.lemmas.Result.{on_ok_weaker}
use Rattle.menus.proofs.MailboxesLemmas.{posted_alone, posted, can_arrive, arrived}
use Rattle.menus.proofs.mailboxes.Mailboxes.post.Goals as goal

pub arrive-requires : goal.arrive-requires
arrive-requires c =
    let count = c.args.self.now.one_each in
    let within : c.in-Some.slot < length c.args.self.now.boxes.items = omega (arith, count, c.in-Some.ensures.within) in
    can_arrive c.args.self.now c.in-Some.slot c.in_ok-number.number _ c.index_mut.result.now c.requires.stands c.in_ok-number.ensures.number
    c.in-Some.ensures.found within c.index_mut.ensures.value

pub returns-in-None-clause-sent : goal.returns-in-None-clause-sent
returns-in-None-clause-sent c = λ ns mail d st are.
    let s = c.args.self.now in
    posted_alone ns mail d st s are c.args.envelope.now _ refl c.in_ok-number.ensures.ok c.in_ok-push.ensures.ok refl
    (c.in_ok-sent.ensures s.slots.clients mail st c.args.envelope.now are.waiting refl) (sym c.in-None.ensures.there)

pub returns-in-Some-clause-sent : goal.returns-in-Some-clause-sent
returns-in-Some-clause-sent c = on_ok_weaker c.arrive.result (λ e. λ ns mail d st are.
    let s = c.args.self.now in
    let count = s.one_each in
    let within : c.in-Some.slot < length s.boxes.items = omega (arith, count, c.in-Some.ensures.within) in
    let number : c.in_ok-number.number ≡ length mail = c.in_ok-number.ensures.number ∙ ap length are.sent in
    let b = c.index_mut.result.now.inbox in
    posted ns mail d st s are c.args.envelope.now _ c.in-Some.slot c.index_mut.result.now _ refl c.in_ok-number.ensures.ok c.in_ok-push.ensures.ok refl
    (c.in_ok-sent.ensures s.slots.clients mail st c.args.envelope.now are.waiting refl) c.in-Some.ensures.found within c.index_mut.ensures.value
    (e ∙ ap (λ i. arrived (b.fresh ++ i ∷ []) b.delivered) number) refl) c.arrive.ensures.ok
