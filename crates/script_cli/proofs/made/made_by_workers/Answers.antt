-- What stands ready is run by several workers.
use Rattle.std.proofs.Common.{◌≡◌, ℕ, ◌<◌, Bool, true, map, sym, subst, arith}
use Rattle.std.specs.Prelude.{nat_lt}
use Rattle.std.proofs.lemmas.Bool.Decides.{nat_tests}
use Rattle.morty_io.specs.Faults.{Rose}
use Rattle.hub.proofs.Results.{if_ok}
use Rattle.script_cli.specs.Runs.{IsRan}
use Rattle.script_cli.specs.declared.words.Command.TheVariants.{Run}
use Rattle.script_cli.specs.Due.{due_of, IsDue}
use Rattle.script_cli.proofs.TaskLemmas.{to_run}
use Rattle.script_cli.proofs.made.made_by_workers.Goals as goal

several : (n : ℕ) → 1 < n → nat_lt 1 n ≡ true
several n more = grind (arith, nat_tests)

pub of_run-requires : goal.of_run-requires
of_run-requires g c =
    let state = g.L.Link.state_of in
    let source = g.S.Source in
    let handed = map state c.args.links.items in
    let ran = c.in_ok-run-in-Run.run' in
    let run = to_run state (Run c.args.workers) handed
    (IsDue (Run c.args.workers) (source.left c.args.src.now) (Rose (source.faults c.args.src.now) (source.faults c.of_command.new.src)) handed)
    c.in_ok-output.field-0 c.in-Run.ready c.in-Run.is c.in_ok-output.ensures.due in (
      run.script,
      handed,
      run.setup,
      subst (λ (b : Bool). IsRan b state run.script handed ran) (sym (several c.args.workers c.requires.0)) (c.in_ok-run-in-Run.ensures run.script handed run.stands),
    )

pub returns-clause-due : goal.returns-clause-due
returns-clause-due g c =
    let state = g.L.Link.state_of in
    let source = g.S.Source in
    let handed = map state c.args.links.items in
    let ran = c.in_ok-run-in-Run.run' in
    let run = to_run state (Run c.args.workers) handed
    (IsDue (Run c.args.workers) (source.left c.args.src.now) (Rose (source.faults c.args.src.now) (source.faults c.of_command.new.src)) handed)
    c.in_ok-output.field-0 c.in-Run.ready c.in-Run.is c.in_ok-output.ensures.due in
    if_ok c.of_run.result _ _ (λ o e. run.due (due_of state o) (e run.script handed
    (subst (λ (b : Bool). IsRan b state run.script handed ran) (sym (several c.args.workers c.requires.0)) (c.in_ok-run-in-Run.ensures run.script handed run.stands))))
    c.of_run.ensures
