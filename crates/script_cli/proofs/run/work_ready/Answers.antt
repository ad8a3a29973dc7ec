-- What several workers run to its end is a run of the setup.
use denote.Exit.{no}
use denote.Param.Send.{param_send, param_sync, arg_send, arg_sync}
use Rattle.std.proofs.Common.{Bool, true, false, ◌≡◌, map, reverse}
use Rattle.script_cli.specs.Runs.{rules_for}
use Rattle.script_cli.proofs.Ended.{ended_run}
use Rattle.continuation.proofs.Crossing.{done_send}
use Rattle.script_cli.proofs.Sent.{world_send, codes_sync}
use Rattle.script_cli.proofs.run.work_ready.Goals as goal

pub returns : goal.returns
unfolding rules_for
returns g c = λ s handed ready.
    let state = g.L.Link.state_of in
    let worked = c.in_ok-worked.worked in
    let ended = c.in_ok-worked.ensures in
    record {
      same = ready.own;
      whole = ended_run true c.args.ready.origin.setup s handed ready.chosen (map state c.args.ready.links.items) (map state worked.links.items) _ worked.out.ended
          (reverse worked.journal.items) ready.own ready.are_chosen ready.begun ended.end (λ shared. absurd (let e : true ≡ false = shared in cc)) ended.run.links;
      origin = c.args.ready.origin;
      own = ready.own;
      stands = ended.run.replay;
    }

pub work_fresh-requires-send-M : goal.work_fresh-requires-send-M
work_fresh-requires-send-M g c κs within = param_send _ _ (arg_send _ no _ world_send)

pub work_fresh-requires-send-M-Done : goal.work_fresh-requires-send-M-Done
work_fresh-requires-send-M-Done g c κs within = param_send _ _ (arg_send _ no _ done_send)

pub work_fresh-requires-sync-M-Kit : goal.work_fresh-requires-sync-M-Kit
work_fresh-requires-sync-M-Kit g c κs within = param_sync _ _ (arg_sync _ no _ codes_sync)
