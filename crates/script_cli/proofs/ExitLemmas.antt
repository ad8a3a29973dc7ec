-- All that is promised of a call follows from what was answered, and from the laws of every run.
use Rattle.std.proofs.Common.{◌≡◌, ℕ, ◌<◌, ◌⊎◌, List, Option, inl, inr, arith}
use Rattle.net_core.specs.Ruled.{LinkState}
use Rattle.law_outcomes.proofs.Outcomes.{outcomes_are_correct}
use Rattle.script_plans.specs.Plans.{scripted}
use Rattle.script_plans.proofs.SetupsAreScripts.{setups_are_scripts}
use Rattle.script_cli.specs.Answer.{Given, IsAnswered}
use Rattle.script_cli.specs.Clauses.{IsExitOf}
use Rattle.script_cli.proofs.AnswerLemmas as answer
use Rattle.script_cli.proofs.Completeness.{complete, known, unrun_so}

some_replica : (n : ℕ) → (n ≡ 1) ⊎ ((n ≡ 3) ⊎ (n ≡ 5)) → 0 < n
some_replica n (inl one) = omega arith
some_replica n (inr (inl three)) = omega arith
some_replica n (inr (inr five)) = omega arith

pub exit_of : (words : List (List ℕ)) (left : Option (List ℕ)) (R : Type 0) (handed : List LinkState) (old new : Option (List ℕ)) (W : Type 0) (g : Given) →
    IsAnswered words left R handed old new W g → IsExitOf words left R handed old new W g
exit_of words left R handed old new W g answered = record {
  answered = answered;
  correct = λ c asked s setup own. outcomes_are_correct (scripted s) (some_replica s.replicas (setups_are_scripts s setup).replicas) g.journal;
  ran = answer.ran left R handed words old new W g answered;
  printed = answer.printed left R handed words old new W g answered;
  bad_words = answer.bad_words left R handed words old new W g answered;
  good_words = answer.good_words left R handed words old new W g answered;
  refused = answer.refused left R handed words old new W g answered;
  read_failed = answer.read_failed_so left R handed words old new W g answered;
  write_failed = answer.write_failed left R handed words old new W g answered;
  cut = answer.cut left R handed words old new W g answered;
  linkless = answer.linkless left R handed words old new W g answered;
  no_memory = answer.no_memory left R handed words old new W g answered;
  complete = complete left R handed words old new W g answered;
  known = known left R handed words old new W g answered;
  unrun = unrun_so left R handed words old new W g answered;
}
