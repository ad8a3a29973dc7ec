-- A text that is a script has what is due for it.
use Rattle.std.proofs.Common.{map}
use Rattle.script_cli.specs.Due.{IsTextDue, Of_script}
use Rattle.script_cli.proofs.TaskLemmas.{if_task}
use Rattle.script_cli.proofs.made.of_text.Goals as goal

pub of_setup-requires : goal.of_setup-requires
of_setup-requires g c = record { says = c.in-Ok.ensures.within; range = c.requires.range }

pub returns-in-Ok : goal.returns-in-Ok
returns-in-Ok g c =
    let command = c.args.command.now in
    let handed = map g.L.Link.state_of c.args.links.items in
    if_task g.L.Link.state_of command handed _ (λ d. IsTextDue command handed d c.args.text.now) (λ d due. Of_script (record {
      script = c.in-Ok.setup;
      setup = c.in-Ok.ensures.within;
      is = record { short = c.requires.short; says = c.in-Ok.ensures.says };
      due = due;
    })) c.of_setup.result c.of_setup.ensures
