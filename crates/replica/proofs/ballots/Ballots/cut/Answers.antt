use Rattle.std.proofs.Common.{rules, ◌∙◌, ap}
use Rattle.std.specs.BTreeMap.{get}
use Rattle.std.proofs.lemmas.Map.Made.{filter_same_pairs}
use Rattle.protocol.specs.Words.{before}
use Rattle.mv_index.specs.Orders.{exec_cmp}
use Rattle.mv_index.proofs.TableOrder.{cut_execs}
use Rattle.replica.specs.Ballots.{or_blank}
use Rattle.replica.proofs.BallotTurns.{ballots_cut, or_blank_cut}
use Rattle.replica.proofs.ballots.Ballots.cut.Goals as goal

pub returns : goal.returns
returns c = λ h from to base s.
    let w = c.args.w in
    let old = c.args.self.now in
    ballots_cut h from to w base old _
    (λ x. ap or_blank (cut_execs w x _ _ (filter_same_pairs _ (λ p. before w p.0.ver) _ (λ l u b v f t. search rules) _ _ c.retain.ensures.filtered))
    ∙ or_blank_cut (before w x.ver) (get exec_cmp old.ballots x)) s
