-- Cites the law.
use Rattle.script_plans.proofs.SetupsAreScripts as lemmas
use Rattle.script_plans.proofs.setups_are_scripts.Goals as goal

pub returns : goal.returns
returns c = lemmas.setups_are_scripts
