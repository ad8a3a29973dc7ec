-- It is the next label, or else the one in use.
use Rattle.std.proofs.Common.{ap, sym, ◌∙◌}
use Rattle.std.specs.Prelude.{get_or, unwrap_or}
use Rattle.protocol.specs.Client.Following.{no_answer}
use Rattle.coordinator.specs.Execution.{answers_of}
use Rattle.coordinator.proofs.execution.Execution.next_label.Goals as goal

pub returns-in-Some : goal.returns-in-Some
returns-in-Some c =
    ap (λ o. unwrap_or o (get_or (answers_of c.args.self.now) c.args.i no_answer).label) (sym c.in-Some.is ∙ c.next.ensures)

pub returns-in-None : goal.returns-in-None
returns-in-None c =
    c.label.ensures ∙ ap (λ o. unwrap_or o (get_or (answers_of c.args.self.now) c.args.i no_answer).label) (sym c.in-None.is ∙ c.next.ensures)
