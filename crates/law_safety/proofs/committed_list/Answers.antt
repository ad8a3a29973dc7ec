use Rattle.law_safety.proofs.CommittedList as proved
use Rattle.law_safety.proofs.committed_list.Goals as goal

pub returns : goal.returns
returns c = proved.committed_list
