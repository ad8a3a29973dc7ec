-- What is due for the command was written.
use Rattle.std.proofs.Common.{Option, map, sym, ap, ◌∙◌, subst}
use Rattle.std.specs.Prelude.{IfSome}
use Rattle.script_cli.specs.declared.words.Command.{Command}
use Rattle.script_cli.specs.Words.{IsInRange}
use Rattle.script_cli.specs.Due.{due_of}
use Rattle.script_cli.specs.Answer.{Answered}
use Rattle.script_cli.proofs.SeveralLemmas.{not_shared}
use Rattle.script_cli.proofs.top.answer_here.Goals as goal

pub made_here-requires : goal.made_here-requires
made_here-requires g c = record {
  range = subst (λ (o : Option Command). IfSome o IsInRange) c.in-Some.is c.in-Ok.ensures.in_range;
  here = not_shared c.args.words.now c.in-Some.command c.requires.here (sym c.in-Ok.ensures.command ∙ c.in-Some.is);
}

pub returns-in-Ok-made_here-clause-answered : goal.returns-in-Ok-made_here-clause-answered
returns-in-Ok-made_here-clause-answered g c =
    let output = c.in-Ok-made_here.output in
    Answered c.in-Some.command (sym c.in-Ok.ensures.command ∙ c.in-Some.is) (due_of g.L.Link.state_of output) c.in-Ok-made_here.ensures.due
    c.put.ensures.written (ap (λ j. j.items) c.put.ensures.journal) (ap (λ l. map g.L.Link.state_of l.items) c.put.ensures.links)
