use Rattle.std.proofs.Common.{◌∙◌, ap, sym, subst, refl}
use Rattle.protocol.specs.Words.{Fence}
use Rattle.protocol.specs.Replica.Taken.{dropped, later}
use Rattle.mv_index.proofs.Unseen.{stands_other}
use Rattle.mv_index.proofs.VotesSame.{after_body}
use Rattle.replica.specs.Replica.{Keeps}
use Rattle.replica.proofs.BallotTurns.{ballots_other}
use Rattle.replica.proofs.replica.Replica.on_fence.Goals as goal
use Rattle.mv_index.proofs.Growth.{later_none}

pub returns-clause-stands : goal.returns-clause-stands
returns-clause-stands c = λ firsts number h from to k b.
    let g = Fence c.args.w in
    subst (Keeps firsts number h (after_body h from to g)) (sym c.raise_fence.ensures)
    (record {
      number_is = k.number_is;
      dropped_is = k.dropped_is ∙ sym (later_none (dropped h));
      fence_is = ap (λ f. later f c.args.w) k.fence_is;
      records = stands_other firsts h from to g c.args.self.now.records refl k.records;
      told = k.told;
      ballots = ballots_other h from to g c.args.self.now.ballots (λ z. refl) k.ballots;
    })
