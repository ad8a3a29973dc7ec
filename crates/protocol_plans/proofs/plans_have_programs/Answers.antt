use Rattle.protocol_plans.proofs.PlansHavePrograms as proved
use Rattle.protocol_plans.proofs.plans_have_programs.Goals as goal

pub returns : goal.returns
returns c = proved.plans_have_programs
