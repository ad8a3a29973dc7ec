use Rattle.std.proofs.Common.{◌∙◌, ap, sym, subst, refl, Some, None, List, ◌≡◌, true}
use Rattle.std.specs.Prelude.{filter}
use Rattle.protocol.specs.Words.{before, ToCommit, Write}
use Rattle.protocol.specs.Replica.Taken.{dropped}
use Rattle.protocol.specs.Replica.Held.{kept_put}
use Rattle.protocol.specs.Replica.Readers.{Reader, readers}
use Rattle.mv_index.proofs.Growth.{later_none}
use Rattle.mv_index.proofs.Below.{commit_below}
use Rattle.mv_index.specs.HeldByExec.{kept_writes}
use Rattle.protocol.specs.Replica.Votes.{writes_key}
use Rattle.mv_index.proofs.CommitTurn.{after_commit}
use Rattle.mv_index.specs.KeyList.{Lists}
use Rattle.mv_index.proofs.Quiet.{lists_both, quiet_after, writes_either, commit_other, below_after}
use Rattle.mv_index.proofs.VotesSame.{table_at, decision_votes}
use Rattle.mv_index.proofs.records.Records.commit.Goals as goal

pub returns-clause-ok : goal.returns-clause-ok
returns-clause-ok c = λ firsts h from to s above undecided.
    let y = c.args.exec in
    let k = c.args.content.now in
    let r = c.args.self.now in
    let kept = c.in_ok-touch_kept.ensures firsts h s.holdings above s.touched_rise in
    let written = subst (λ (ws : List Write). Lists (λ k.
    writes_key k ws) c.touch_kept.new.touched c.touch.new.touched) c.as_slice.ensures (c.in_ok-touch.ensures kept.rising) in
    let more = lists_both (λ k. writes_key k (kept_writes (kept_put h y.ver))) (λ l.
    writes_key l k.writes) r.touched c.touch_kept.new.touched c.touch.new.touched kept written in
    record {
      holdings = c.in_ok-commit.ensures firsts h from to s.holdings above undecided;
      voted = λ x. table_at h (after_commit h from to y k) y x None _ _ (later_none (dropped h)) above (decision_votes h from to y ToCommit
          (Some k) undecided x) (s.voted x) (c.remove.ensures.contents x);
      voted_indexed = c.remove.ensures.indexed s.voted_indexed;
      readers_are = s.readers_are ∙ ap (λ d. filter (λ (p : Reader). before d p.ver) (readers h)) (sym (later_none (dropped h)));
      keys_rise = s.keys_rise;
      keys_have = s.keys_have;
      touched_rise = more.rising;
      quiet = λ p i e. quiet_after firsts h (after_commit h from to y k) r p (writes_either h y k.writes) c.touch.new.touched s i more
          (commit_other h from to y k undecided) e;
      below = λ p i b. below_after firsts h (after_commit h from to y k) r p y.ver s i (commit_below h from to y k undecided) (subst (λ l. before p.ver l
          ≡ true) c.earlier-self.ensures b);
      whole = refl;
    }
