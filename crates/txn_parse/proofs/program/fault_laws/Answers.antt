use Rattle.txn_parse.proofs.CountsLemmas.{limits_are_counts}
use Rattle.txn_parse.proofs.OneFault.{one_fault}
use Rattle.txn_parse.proofs.FaultIsDecided.{fault_is_decided}
use Rattle.txn_parse.proofs.program.fault_laws.Goals as goal

pub returns : goal.returns
returns c = record { counts = limits_are_counts; one = one_fault; decided = fault_is_decided }
