-- What stands ready is run in this thread, in rounds, as no command here asks for more.
use Rattle.std.proofs.Common.{Bool, map, sym, subst}
use Rattle.morty_io.specs.Faults.{Rose}
use Rattle.hub.proofs.Results.{if_ok}
use Rattle.script_cli.specs.Runs.{IsRan}
use Rattle.script_cli.specs.Due.{due_of, IsDue}
use Rattle.script_cli.proofs.TaskLemmas.{to_run}
use Rattle.script_cli.proofs.made.made_here.Goals as goal

pub of_run-requires : goal.of_run-requires
of_run-requires g c =
    let state = g.L.Link.state_of in
    let source = g.S.Source in
    let handed = map state c.args.links.items in
    let ran = c.in_ok-run_ready-in-Run.field-0 in
    let run = to_run state c.args.command.now handed
    (IsDue c.args.command.now (source.left c.args.src.now) (Rose (source.faults c.args.src.now) (source.faults c.of_command.new.src)) handed)
    c.in_ok-output.field-0 c.in-Run.ready c.in-Run.is c.in_ok-output.ensures.due in
    (run.script, handed, run.setup, subst (λ (b : Bool). IsRan b state run.script handed ran) (sym c.requires.here) (c.in_ok-run_ready-in-Run.ensures run.script handed run.stands))

pub returns-in_ok-run_ready-in-Run-clause-due : goal.returns-in_ok-run_ready-in-Run-clause-due
returns-in_ok-run_ready-in-Run-clause-due g c =
    let state = g.L.Link.state_of in
    let source = g.S.Source in
    let handed = map state c.args.links.items in
    let ran = c.in_ok-run_ready-in-Run.field-0 in
    let run = to_run state c.args.command.now handed
    (IsDue c.args.command.now (source.left c.args.src.now) (Rose (source.faults c.args.src.now) (source.faults c.of_command.new.src)) handed)
    c.in_ok-output.field-0 c.in-Run.ready c.in-Run.is c.in_ok-output.ensures.due in
    if_ok c.of_run.result _ _ (λ o e. run.due (due_of state o) (e run.script handed
    (subst (λ (b : Bool). IsRan b state run.script handed ran) (sym c.requires.here) (c.in_ok-run_ready-in-Run.ensures run.script handed run.stands))))
    c.of_run.ensures
