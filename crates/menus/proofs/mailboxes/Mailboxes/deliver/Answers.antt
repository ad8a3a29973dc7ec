-- The slot's inbox notes the envelope, which is to its node.
use Rattle.std.proofs.Common.{◌<◌, length, refl, arith}
use Rattle.std.proofs.lemmas.Result.{on_ok_weaker}
use Rattle.menus.proofs.MailboxTurns.{can_note, delivered}
use Rattle.menus.proofs.mailboxes.Mailboxes.deliver.Goals as goal

pub deliver-requires : goal.deliver-requires
deliver-requires c =
    let count = c.args.self.now.one_each in
    let within : c.args.slot < length c.args.self.now.boxes.items = omega (arith, count, c.requires.within) in
    can_note c.args.self.now c.args.slot c.args.i c.index_mut.result.now c.requires.own within c.index_mut.ensures.value

pub returns-clause-delivered : goal.returns-clause-delivered
returns-clause-delivered c =
    let count = c.args.self.now.one_each in
    let within : c.args.slot < length c.args.self.now.boxes.items = omega (arith, count, c.requires.within) in
    on_ok_weaker c.deliver.result (λ e. λ ns mail d st are.
    delivered ns mail d st c.args.self.now c.args.slot c.args.i are c.requires.own _ c.index_mut.result.now _
    refl refl refl refl refl within c.index_mut.ensures.value e refl) c.deliver.ensures.ok
