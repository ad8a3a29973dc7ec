use Rattle.protocol_plans.proofs.PlansHavePrograms as proved
use Rattle.protocol_plans.proofs.programs_walk.Goals as goal

pub returns : goal.returns
returns c = proved.programs_walk
