-- What is due for the script that is made is due for the seed.
use Rattle.std.proofs.Common.{map}
use Rattle.script_cli.specs.Due.{IsGeneratedFor, IsDueOfSome}
use Rattle.script_cli.proofs.TaskLemmas.{if_task}
use Rattle.script_cli.proofs.CommandLemmas.{is_generated}
use Rattle.script_cli.proofs.made.of_seed.Goals as goal

pub returns : goal.returns
returns g c =
    let made = c.in_ok-setup.setup in
    let command = c.args.command.now in
    let handed = map g.L.Link.state_of c.args.links.items in
    if_task g.L.Link.state_of command handed _ (IsDueOfSome (IsGeneratedFor command) command handed) (λ d due. record {
      script = made;
      setup = c.in_ok-setup.ensures.setup;
      is = is_generated command c.args.seeded made c.requires.own c.in_ok-setup.ensures.says;
      due = due;
    }) c.of_setup.result c.of_setup.ensures
