use Rattle.std.proofs.Common.{◌∙◌, cond, None, ap, sym, ◌&&◌}
use Rattle.protocol.specs.Words.{before}
use Rattle.protocol.specs.Replica.Taken.{dropped}
use Rattle.protocol.specs.Replica.Held.{kept_put}
use Rattle.mv_index.proofs.Growth.{later_none}
use Rattle.mv_index.specs.HeldByExec.{is_blocked}
use Rattle.mv_index.proofs.CommitTurn.{uncommitted, open_committed, content_stands}
use Rattle.mv_index.proofs.PutsTurn.{cond_none}
use Rattle.mv_index.proofs.holdings.Holdings.commit.Goals as goal

pub returns : goal.returns
returns c = λ firsts h from to s above undecided. record {
  firsts_are = s.firsts_are;
  dropped_is = s.dropped_is ∙ sym (later_none (dropped h));
  base_is = s.base_is;
  blocked_are = λ v n. s.blocked_are v n ∙ ap (λ d. before d v && is_blocked h v n) (sym (later_none (dropped h)));
  commits_are = λ x. content_stands h from to c.args.exec c.args.content.now x _ _ undecided above (s.commits_are x) (c.in_ok-add.ensures.contents x);
  commits_indexed = c.in_ok-add.ensures.indexed s.commits_indexed (s.commits_are c.args.exec
      ∙ (ap (λ o. cond (before (dropped h) c.args.exec.ver) o None) (uncommitted h c.args.exec undecided) ∙ cond_none (before (dropped h) c.args.exec.ver)));
  open_are = record {
    puts_are = λ v. s.open_are.puts_are v ∙ ap (λ d. cond (before d v) (kept_put h v) None) (sym (later_none (dropped h)));
    held_are = λ k x. open_committed h from to c.args.exec c.args.content.now k x _ _ undecided (s.open_are.held_are k x) (c.clear.ensures h s.open_are k x);
  };
}
