use Rattle.std.proofs.Common.{◌∙◌, cond, None, ap, sym, ◌&&◌}
use Rattle.protocol.specs.Words.{before}
use Rattle.protocol.specs.Replica.Taken.{dropped, base}
use Rattle.protocol.specs.Replica.Held.{kept_put}
use Rattle.mv_index.specs.HeldByExec.{committed_content, is_blocked}
use Rattle.mv_index.proofs.DropTurn.{dropped_now, cut_again, cut_test, open_cut}
use Rattle.mv_index.proofs.holdings.Holdings.cut.Goals as goal

pub returns : goal.returns
returns c = λ firsts h from to s above.
    let w = c.args.w in
    let now = sym (dropped_now h from to w c.args.base above) in
    let based = ap (λ t. cond t c.args.base (base h)) (sym above) in
    record {
      firsts_are = s.firsts_are;
      dropped_is = now;
      base_is = c.new.ensures ∙ based;
      blocked_are = λ v n. c.cut-2.ensures v n ∙ (ap (λ t. before w v && t) (s.blocked_are v n)
          ∙ (cut_test (dropped h) w v (is_blocked h v n) above ∙ ap (λ d. before d v && is_blocked h v n) now));
      commits_are = λ x. c.cut-3.ensures.contents x ∙ (ap (λ o. cond (before w x.ver) o None) (s.commits_are x)
          ∙ (cut_again (dropped h) w x.ver (committed_content h x) above ∙ ap (λ d. cond (before d x.ver) (committed_content h x) None) now));
      commits_indexed = c.cut-3.ensures.indexed s.commits_indexed;
      open_are = record {
        puts_are = λ v. c.cut.ensures v ∙ (ap (λ o. cond (before w v) o None) (s.open_are.puts_are v)
            ∙ (cut_again (dropped h) w v (kept_put h v) above ∙ ap (λ d. cond (before d v) (kept_put h v) None) now));
        held_are = λ k x. c.cut-4.ensures k x ∙ (ap (λ o. cond (before w x.ver) o None) (s.open_are.held_are k x) ∙ open_cut h from to w c.args.base k x above);
      };
    }
