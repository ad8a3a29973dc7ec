use Rattle.std.proofs.Common.{ap, sym, subst, cond}
use Rattle.protocol.specs.Words.{Drops}
use Rattle.protocol.specs.Replica.Taken.{dropped, later}
use Rattle.mv_index.specs.Records.{StandsFor as RecordsStandFor}
use Rattle.mv_index.proofs.VotesSame.{after_body}
use Rattle.replica.specs.Replica.{Keeps}
use Rattle.replica.proofs.replica.Replica.on_drop.Goals as goal

pub returns-clause-stands : goal.returns-clause-stands
returns-clause-stands c = λ firsts number h from to k b.
    let w = c.args.w in
    let g = Drops w c.args.base.now in
    subst (Keeps firsts number h (after_body h from to g)) (sym c.raise_fence.ensures)
    (record {
      number_is = k.number_is;
      dropped_is = sym (ap (λ t. cond t w (dropped h)) b);
      fence_is = ap (λ f. later f w) k.fence_is;
      records = subst (λ l. RecordsStandFor firsts (after_body h from to
          (Drops w l)) c.drop_to.new.rec) c.in_ok-base.ensures (c.drop_to.ensures.stands firsts h from to k.records b);
      told = c.drop_to.ensures.told firsts h k.told;
      ballots = c.cut.ensures h from to c.args.base.now k.ballots;
    })
