-- What one loop runs to its end is a run of the setup, in rounds.
use Rattle.std.proofs.Common.{Bool, false, map, reverse}
use Rattle.script_cli.specs.Runs.{rules_for}
use Rattle.script_cli.proofs.Ended.{ended_run}
use Rattle.script_cli.proofs.run.run_ready.Goals as goal

pub returns : goal.returns
unfolding rules_for
returns g c = λ s handed ready.
    let state = g.L.Link.state_of in
    let ran = c.in_ok-ran.ran in
    let whole = c.in_ok-ran.ensures in
    record {
      same = ready.own;
      whole = ended_run false c.args.ready.origin.setup s handed ready.chosen (map state c.args.ready.links.items) (map state ran.links.items) _ ran.out.ended
          (reverse ran.journal.items) ready.own ready.are_chosen ready.begun whole.end (λ _. whole.rounds) whole.run.links;
      origin = c.args.ready.origin;
      own = ready.own;
      stands = whole.run.replay;
    }
