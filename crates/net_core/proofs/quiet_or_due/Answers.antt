use Rattle.net_core.proofs.QuietOrDue as proved
use Rattle.net_core.proofs.quiet_or_due.Goals as goal

pub returns : goal.returns
returns c = proved.quiet_or_due
