use Rattle.txn_lang.proofs.SerialRuns.{replays_serial}
use Rattle.txn_lang.proofs.laws.replay_is_serial.Goals as goal

pub returns : goal.returns
returns c = replays_serial
