use Rattle.txn_lang.proofs.Growing.{reads_what_it_asked}
use Rattle.txn_lang.proofs.laws.replay_reads_what_it_asked.Goals as goal

pub returns : goal.returns
returns c = reads_what_it_asked
