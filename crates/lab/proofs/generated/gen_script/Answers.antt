use Rattle.std.proofs.Common.{sym, subst, rules}
use Rattle.script.specs.Sayable.{IsSayable}
use Rattle.lab.proofs.GeneratedIsSayable.{generated_is_sayable}
use Rattle.lab.proofs.generated.gen_script.Goals as goal

pub returns-clause-says : goal.returns-clause-says
returns-clause-says c = search rules

pub returns-clause-setup : goal.returns-clause-setup
returns-clause-setup c = subst IsSayable (sym (returns-clause-says c)) (generated_is_sayable c.args.seed c.args.size c.requires.seed c.requires.few)
