-- All that is promised of a call follows from what was answered.
use Rattle.std.proofs.Common.{refl, sym, ◌∙◌, subst}
use Rattle.script_cli.specs.declared.words.Command.TheVariants.{Run}
use Rattle.script_cli.specs.Words.{reads}
use Rattle.script_cli.specs.Clauses.{IsExitOf}
use Rattle.script_cli.proofs.CommandLemmas.{not_both}
use Rattle.script_cli.proofs.SeveralLemmas.{run_by}
use Rattle.script_cli.proofs.ExitLemmas.{exit_of}
use Rattle.script_cli.proofs.top.run_cli.Goals as goal

pub returns-in-Some-clause-exit : goal.returns-in-Some-clause-exit
returns-in-Some-clause-exit g c = subst (IsExitOf _ _ _ _ _ _ _) (sym c.exit_with.ensures) (exit_of _ _ _ _ _ _ _ _ c.answer_by_workers.ensures.answered)

pub returns-in-None-clause-exit : goal.returns-in-None-clause-exit
returns-in-None-clause-exit g c = subst (IsExitOf _ _ _ _ _ _ _) (sym c.exit_with-in-None.ensures) (exit_of _ _ _ _ _ _ _ _ c.answer_here.ensures.answered)

pub returns-in-Some-clause-unread : goal.returns-in-Some-clause-unread
returns-in-Some-clause-unread g c =
    λ still. absurd (not_both (reads (Run c.in-Some.workers)) refl (still (Run c.in-Some.workers) (run_by c.args.words.now c.in-Some.workers (sym c.several_workers.ensures.said ∙ c.in-Some.is))))
