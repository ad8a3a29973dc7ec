-- The slot's mailbox tells whether its node is stopped.
use Rattle.menus.proofs.MailboxTurns.{box_at}
use Rattle.menus.proofs.mailboxes.Mailboxes.is_stopped.Goals as goal

pub returns : goal.returns
returns c = λ ns mail d st n are at.
    (box_at ns mail d st c.args.self.now are c.args.slot c.index.result.now n c.requires c.index.ensures at).node_stopped
