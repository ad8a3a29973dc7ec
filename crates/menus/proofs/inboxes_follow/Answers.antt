use Rattle.menus.proofs.Arriving as proved
use Rattle.menus.proofs.inboxes_follow.Goals as goal

pub returns : goal.returns
returns c = proved.follows
