use Rattle.std.proofs.Common.{◌≡◌, ◌∙◌, cond, None, ap, sym, ◌&&◌, true, false}
use Rattle.protocol.specs.Words.{before, no_version}
use Rattle.protocol.specs.Replica.Taken.{dropped, later}
use Rattle.protocol.specs.Replica.Held.{kept_put}
use Rattle.mv_index.proofs.Growth.{later_none}
use Rattle.mv_index.specs.PutTable.{replaces}
use Rattle.mv_index.specs.HeldByExec.{committed_content, is_blocked}
use Rattle.mv_index.proofs.PutsTurn.{open_stays, open_new, kept_stays, puts_stand, kept_above}
use Rattle.mv_index.proofs.holdings.Holdings.put.Goals as goal

pub returns-then-not-is_replaced : goal.returns-then-not-is_replaced
returns-then-not-is_replaced c = λ firsts h from to s above.
    let y = c.args.exec in
    let ws = c.args.writes.now in
    let kept : replaces (kept_put h y.ver) y ws ≡ false = kept_above h y ws _ _ above (s.open_are.puts_are y.ver) c.if-not-is_replaced.ensures in
    record {
      firsts_are = s.firsts_are;
      dropped_is = s.dropped_is ∙ sym (later_none (dropped h));
      base_is = s.base_is;
      blocked_are = λ v n. s.blocked_are v n ∙ ap (λ d. before d v && is_blocked h v n) (sym (later_none (dropped h)));
      commits_are = λ x. s.commits_are x ∙ ap (λ d. cond (before d x.ver) (committed_content h x) None) (sym (later_none (dropped h)));
      commits_indexed = s.commits_indexed;
      open_are = record {
        puts_are = λ v. s.open_are.puts_are v ∙ (ap (λ d. cond (before d v) (kept_put h v) None) (sym (later_none (dropped h)))
            ∙ ap (λ o. cond (before (later (dropped h) no_version) v) o None) (sym (kept_stays h from to y ws kept v)));
        held_are = λ k x. s.open_are.held_are k x ∙ open_stays h from to y ws kept k x;
      };
    }

pub returns : goal.returns
returns c = λ firsts h from to s above.
    let y = c.args.exec in
    let ws = c.args.writes.now in
    let new : replaces (kept_put h y.ver) y ws ≡ true = kept_above h y ws _ _ above (s.open_are.puts_are y.ver) c.if-not-is_replaced.ensures in
    record {
      firsts_are = s.firsts_are;
      dropped_is = s.dropped_is ∙ sym (later_none (dropped h));
      base_is = s.base_is;
      blocked_are = λ v n. s.blocked_are v n ∙ ap (λ d. before d v && is_blocked h v n) (sym (later_none (dropped h)));
      commits_are = λ x. s.commits_are x ∙ ap (λ d. cond (before d x.ver) (committed_content h x) None) (sym (later_none (dropped h)));
      commits_indexed = s.commits_indexed;
      open_are = record {
        puts_are = λ v. puts_stand h from to y ws v _ _ new above (s.open_are.puts_are v) (c.in_ok-keep.ensures v);
        held_are = λ k x. open_new h from to y ws k x c.is_counting-counts.result _ _ _ new above (c.is_counting-counts.ensures firsts h s above)
            (s.open_are.held_are k x) (c.clear.ensures h s.open_are k x) (c.in_ok-refill.ensures k x);
      };
    }
