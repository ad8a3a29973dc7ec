use Rattle.std.proofs.Common.{◌∙◌, ap, sym, refl, ◌≡◌, subst, true}
use Rattle.std.specs.Prelude.{filter}
use Rattle.protocol.specs.Words.{before}
use Rattle.protocol.specs.Replica.Taken.{dropped}
use Rattle.protocol.specs.Replica.Held.{kept_put}
use Rattle.protocol.specs.Replica.Readers.{Reader, readers}
use Rattle.mv_index.proofs.Growth.{later_none}
use Rattle.mv_index.proofs.Below.{puts_below}
use Rattle.mv_index.specs.HeldByExec.{kept_writes}
use Rattle.protocol.specs.Replica.Votes.{writes_key}
use Rattle.mv_index.proofs.PutsTurn.{after_puts}
use Rattle.mv_index.proofs.Quiet.{lists_both, quiet_after, writes_either, puts_other, below_after}
use Rattle.mv_index.proofs.VotesSame.{table_same, puts_votes}
use Rattle.mv_index.proofs.records.Records.put.Goals as goal

pub returns-clause-ok : goal.returns-clause-ok
returns-clause-ok c = λ firsts h from to s above.
    let y = c.args.exec in
    let ws = c.args.writes.now in
    let r = c.args.self.now in
    let kept = c.in_ok-touch_kept.ensures firsts h s.holdings above s.touched_rise in
    let more = lists_both (λ k. writes_key k (kept_writes (kept_put h y.ver))) (λ k.
    writes_key k ws) r.touched c.touch_kept.new.touched c.touch.new.touched kept (c.in_ok-touch.ensures kept.rising) in
    record {
      holdings = c.in_ok-put.ensures firsts h from to s.holdings above;
      voted = λ x. table_same h (after_puts h from to y ws) x _ (later_none (dropped h)) (puts_votes h from to y ws x) (s.voted x);
      voted_indexed = s.voted_indexed;
      readers_are = s.readers_are ∙ ap (λ d. filter (λ (p : Reader). before d p.ver) (readers h)) (sym (later_none (dropped h)));
      keys_rise = s.keys_rise;
      keys_have = s.keys_have;
      touched_rise = more.rising;
      quiet = λ p i e. quiet_after firsts h (after_puts h from to y ws) r p (writes_either h y ws) c.touch.new.touched s i more (puts_other h from to y ws) e;
      below = λ p i b. below_after firsts h (after_puts h from to y ws) r p y.ver s i (puts_below h from to y ws) (subst (λ l. before p.ver l
          ≡ true) c.earlier-self.ensures b);
      whole = refl;
    }
