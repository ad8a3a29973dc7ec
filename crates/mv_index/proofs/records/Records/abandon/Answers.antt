use Rattle.std.proofs.Common.{◌∙◌, ap, sym, refl, None, ◌≡◌, subst, true}
use Rattle.std.specs.Prelude.{filter}
use Rattle.protocol.specs.Words.{before, Abandon}
use Rattle.protocol.specs.Replica.Taken.{dropped}
use Rattle.protocol.specs.Replica.Held.{kept_put}
use Rattle.protocol.specs.Replica.Readers.{Reader, readers}
use Rattle.mv_index.proofs.Growth.{later_none}
use Rattle.mv_index.proofs.Below.{abandon_below}
use Rattle.mv_index.specs.HeldByExec.{kept_writes}
use Rattle.protocol.specs.Replica.Votes.{writes_key}
use Rattle.mv_index.proofs.AbandonTurn.{after_abandon}
use Rattle.mv_index.proofs.Decided.{abandon_same}
use Rattle.mv_index.proofs.Quiet.{quiet_after, below_after}
use Rattle.mv_index.proofs.VotesSame.{table_at, decision_votes}
use Rattle.mv_index.proofs.records.Records.abandon.Goals as goal

pub returns-clause-ok : goal.returns-clause-ok
returns-clause-ok c = λ firsts h from to o s above undecided.
    let y = c.args.exec in
    let r = c.args.self.now in
    let kept = c.in_ok-touch_kept.ensures firsts h s.holdings above s.touched_rise in
    record {
      holdings = c.in_ok-abandon.ensures firsts h from to o s.holdings above undecided;
      voted = λ x. table_at h (after_abandon h from to y o) y x None _ _ (later_none
          (dropped h)) above (decision_votes h from to y Abandon o undecided x) (s.voted x) (c.remove.ensures.contents x);
      voted_indexed = c.remove.ensures.indexed s.voted_indexed;
      readers_are = s.readers_are ∙ ap (λ d. filter (λ (p : Reader). before d p.ver) (readers h)) (sym (later_none (dropped h)));
      keys_rise = s.keys_rise;
      keys_have = s.keys_have;
      touched_rise = kept.rising;
      quiet = λ p i e. quiet_after firsts h (after_abandon h from to y o) r p (λ k.
          writes_key k (kept_writes (kept_put h y.ver))) c.touch_kept.new.touched s i kept (λ k f. abandon_same h from to y o k undecided f) e;
      below = λ p i b. below_after firsts h (after_abandon h from to y o) r p y.ver s i (abandon_below h from to y o undecided) (subst (λ l. before p.ver l
          ≡ true) c.earlier-self.ensures b);
      whole = refl;
    }
