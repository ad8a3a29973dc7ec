use Rattle.hub.proofs.Results.{if_ok}
use Rattle.workers.proofs.seat.SeatTurns.work.Goals as goal

pub returns-clause-done : goal.returns-clause-done
returns-clause-done g c =
    let kit = c.self.invariant.1 in
    if_ok c.work-done.result _ _ (λ d is_of. (kit.0, kit.1, c.args.a_job, is_of kit.0.origin kit.2 (c.requires kit.0 kit.1))) c.work-done.ensures
