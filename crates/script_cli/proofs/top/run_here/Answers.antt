-- All that is promised of a call follows from what was answered.
use Rattle.std.proofs.Common.{sym, subst}
use Rattle.script_cli.specs.Clauses.{IsExitOf}
use Rattle.script_cli.proofs.ExitLemmas.{exit_of}
use Rattle.script_cli.proofs.top.run_here.Goals as goal

pub returns-clause-exit : goal.returns-clause-exit
returns-clause-exit g c = subst (IsExitOf _ _ _ _ _ _ _) (sym c.exit_with.ensures) (exit_of _ _ _ _ _ _ _ _ c.answer_here.ensures.answered)
