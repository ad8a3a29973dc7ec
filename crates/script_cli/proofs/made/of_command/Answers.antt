-- What is due for a script that is made is due for the command.
use Rattle.std.proofs.Common.{map}
use Rattle.morty_io.specs.Faults.{Rose}
use Rattle.script_cli.specs.Due.{IsDue, Generated}
use Rattle.script_cli.proofs.TaskLemmas.{if_task}
use Rattle.script_cli.proofs.CommandLemmas.{unread}
use Rattle.script_cli.proofs.made.of_command.Goals as goal

pub returns-in-Gen-clause-due : goal.returns-in-Gen-clause-due
returns-in-Gen-clause-due g c =
    let command = c.args.command.now in
    let handed = map g.L.Link.state_of c.args.links.items in
    let source = g.S.Source in
    if_task g.L.Link.state_of command handed _ (IsDue command (source.left c.args.src.now) (Rose (source.faults c.args.src.now) (source.faults c.args.src.now)) handed)
    (λ d some. Generated (unread command c.in-Gen.seeded c.in-Gen.is) some) c.of_seed.result c.of_seed.ensures
