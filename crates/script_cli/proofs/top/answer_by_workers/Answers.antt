-- What is due for the command was written.
use Rattle.std.proofs.Common.{map, ap}
use Rattle.script_cli.specs.declared.words.Command.TheVariants.{Run}
use Rattle.script_cli.specs.Due.{due_of}
use Rattle.script_cli.specs.Answer.{Answered}
use Rattle.script_cli.proofs.SeveralLemmas.{run_by}
use Rattle.script_cli.proofs.top.answer_by_workers.Goals as goal

pub returns-in-Ok-clause-answered : goal.returns-in-Ok-clause-answered
returns-in-Ok-clause-answered g c =
    let output = c.in-Ok.output in
    Answered (Run c.args.workers) (run_by c.args.words.now c.args.workers c.requires.words) (due_of g.L.Link.state_of output) c.in-Ok.ensures.due
    c.put.ensures.written (ap (λ j. j.items) c.put.ensures.journal) (ap (λ l. map g.L.Link.state_of l.items) c.put.ensures.links)
