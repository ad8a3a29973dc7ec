-- A world that stands ready is left to run, and what is due of its run is due for the script.
use Rattle.std.proofs.Common.{map, subst}
use Rattle.script_cli.specs.Runs.{IsPreparedOf}
use Rattle.script_cli.specs.Due.{Ran}
use Rattle.script_cli.proofs.made.of_setup_run.Goals as goal

pub returns-in-Ready : goal.returns-in-Ready
returns-in-Ready g c =
    let handed = map g.L.Link.state_of c.args.links.items in
    record {
      script = c.args.setup;
      setup = c.requires.says;
      stands = subst (IsPreparedOf g.L.Link.state_of c.args.setup handed) c.in-Ready.is c.in_ok-slot.ensures;
      due = λ d run. Ran c.requires.runs run;
    }
