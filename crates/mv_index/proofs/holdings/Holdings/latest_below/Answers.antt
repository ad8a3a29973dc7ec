use Rattle.std.proofs.Common.{◌∙◌, ap, sym}
use Rattle.protocol.specs.Replica.Taken.{base}
use Rattle.protocol.specs.Replica.Held.{best_below}
use Rattle.mv_index.specs.WriteIndex.{held_at, best_with}
use Rattle.mv_index.specs.HeldByExec.{sure_by, open_by, entries_of}
use Rattle.mv_index.proofs.Best.{last_same}
use Rattle.mv_index.proofs.HoldingsLemmas.{sure_are}
use Rattle.mv_index.proofs.Latest.{latest_parts}
use Rattle.mv_index.proofs.holdings.Holdings.latest_below.Goals as goal

pub returns : goal.returns
returns c = λ firsts h s.
    let k = c.args.key in
    let v = c.args.ver in
    let r = c.args.self.now in
    let o = c.last_below.result in
    let p = c.last_below-2.result in
    c.best_with.ensures
    ∙ (ap (λ b. best_with v b p) (c.best_with-sure.ensures
    ∙ ap (λ b. best_with v b o) (c.best_below-based.ensures
    ∙ (ap (λ bs. best_below v c.held.result (entries_of k bs)) s.base_is
    ∙ ap (λ f. best_below v f (entries_of k (base h))) (c.held.ensures ∙ s.firsts_are k))))
    ∙ sym (latest_parts firsts h k v o p
    (last_same v (held_at r.commits.writes k) (sure_by h k) o (λ x. sure_are firsts h r s k x) c.last_below.ensures)
    (last_same v (held_at r.unsure k) (open_by h k) p (λ x. s.open_are.held_are k x) c.last_below-2.ensures)))
