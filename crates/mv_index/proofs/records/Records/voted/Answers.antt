use Rattle.std.proofs.Common.{◌∙◌, ap, sym, refl, cond, Some, None}
use Rattle.std.specs.Prelude.{filter}
use Rattle.protocol.specs.Words.{before, Prepare}
use Rattle.protocol.specs.Replica.Taken.{dropped}
use Rattle.protocol.specs.Replica.Readers.{Reader, readers}
use Rattle.mv_index.proofs.Growth.{later_none}
use Rattle.mv_index.proofs.PutsTurn.{cond_none}
use Rattle.mv_index.proofs.Unchanged.{holdings_same}
use Rattle.mv_index.proofs.VotesSame.{after_body, table_at, commit_vote, unvoted_content}
use Rattle.mv_index.proofs.Unseen.{told_same, prepare_holds}
use Rattle.mv_index.proofs.records.Records.voted.Goals as goal

pub returns-clause-ok : goal.returns-clause-ok
returns-clause-ok c = λ firsts h from to s above unvoted voted.
    let y = c.args.exec in
    let k = c.args.content.now in
    let h' = after_body h from to (Prepare y k) in
    let same = prepare_holds h from to y k in
    record {
      holdings = holdings_same firsts h h' c.args.self.now.holdings same s.holdings;
      voted = λ x. table_at h h' y x (Some k) _ _ (later_none
          (dropped h)) above (commit_vote h from to y k unvoted voted x) (s.voted x) (c.in_ok-add.ensures.contents x);
      voted_indexed = c.in_ok-add.ensures.indexed s.voted_indexed (s.voted y ∙ (ap (λ o. cond (before (dropped h) y.ver) o None) (unvoted_content h y unvoted)
          ∙ cond_none (before (dropped h) y.ver)));
      readers_are = s.readers_are ∙ ap (λ d. filter (λ (p : Reader). before d p.ver) (readers h)) (sym (later_none (dropped h)));
      keys_rise = s.keys_rise;
      keys_have = s.keys_have;
      touched_rise = s.touched_rise;
      quiet = λ p i e. told_same firsts h h' p same (s.quiet p i e);
      below = λ p i e. told_same firsts h h' p same (s.below p i e);
      whole = refl;
    }
