use Rattle.std.proofs.Common.{◌∙◌, cond, None, ap, sym}
use Rattle.protocol.specs.Words.{before}
use Rattle.protocol.specs.Replica.Taken.{dropped}
use Rattle.protocol.specs.Replica.Held.{kept_put}
use Rattle.mv_index.proofs.Growth.{later_none}
use Rattle.mv_index.specs.HeldByExec.{committed_content}
use Rattle.mv_index.proofs.AbandonTurn.{open_abandoned, blocked_stands}
use Rattle.mv_index.proofs.holdings.Holdings.abandon.Goals as goal

pub returns : goal.returns
returns c = λ firsts h from to o s above undecided. record {
  firsts_are = s.firsts_are;
  dropped_is = s.dropped_is ∙ sym (later_none (dropped h));
  base_is = s.base_is;
  blocked_are = λ v n. blocked_stands h from to c.args.exec o v n _ _ undecided above (s.blocked_are v n) (c.in_ok-add.ensures v n);
  commits_are = λ x. s.commits_are x ∙ ap (λ d. cond (before d x.ver) (committed_content h x) None) (sym (later_none (dropped h)));
  commits_indexed = s.commits_indexed;
  open_are = record {
    puts_are = λ v. s.open_are.puts_are v ∙ ap (λ d. cond (before d v) (kept_put h v) None) (sym (later_none (dropped h)));
    held_are = λ k x. open_abandoned h from to c.args.exec o k x _ _ undecided (s.open_are.held_are k x) (c.block.ensures h s.open_are k x);
  };
}
