use Rattle.law_taken.proofs.HandledReadsAsTaken as proved
use Rattle.law_taken.proofs.handled_reads_as_taken.Goals as goal

pub returns : goal.returns
returns c = proved.handled_reads_as_taken
