-- What is due of a run has its events, its end and its links.
use Rattle.script_cli.proofs.made.of_run.Goals as goal

pub returns : goal.returns
returns g c = λ s handed ran. record {
  ended = c.args.run.ended;
  run = ran.whole;
  status = c.status_of.ensures;
  written = c.in_ok-text.ensures s handed ran;
}
