-- The slot's inbox tells what was delivered.
use Rattle.std.proofs.Common.{◌∙◌}
use Rattle.menus.proofs.MailboxTurns.{box_at}
use Rattle.menus.proofs.mailboxes.Mailboxes.old.Goals as goal

pub returns : goal.returns
returns c = λ ns mail d st n are at.
    c.delivered.ensures ∙ (box_at ns mail d st c.args.self.now are c.args.slot c.index.result.now n c.requires c.index.ensures at).inbox.old
