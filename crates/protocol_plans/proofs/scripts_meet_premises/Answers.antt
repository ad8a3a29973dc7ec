use Rattle.protocol_plans.proofs.PlansHavePrograms as proved
use Rattle.protocol_plans.proofs.scripts_meet_premises.Goals as goal

pub returns : goal.returns
returns c = proved.scripts_meet_premises
