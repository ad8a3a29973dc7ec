-- Without next labels nothing changes.
use Rattle.std.proofs.Common.{sym, ap, ◌∙◌}
use Rattle.std.specs.List.{list_any}
use Rattle.protocol.specs.Client.Deciding.{is_change}
use Rattle.coordinator.specs.Answers.{answers_with}
use Rattle.coordinator.proofs.AnswersLemmas.{no_change, none_left}
use Rattle.coordinator.proofs.labels.+has_change.Goals as goal

pub returns-in_default-split_first : goal.returns-in_default-split_first
returns-in_default-split_first t c =
    sym (ap (λ ns. list_any is_change (answers_with c.args.reads.now ns)) (none_left c.args.nexts.now c.in_default-split_first.ensures.cases) ∙ no_change c.args.reads.now)
