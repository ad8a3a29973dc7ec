use Rattle.txn_print.proofs.CanonicalIsRead.{canonical_is_read}
use Rattle.txn_print.proofs.laws.canonical_is_read.Goals as goal

pub returns : goal.returns
returns c = canonical_is_read
