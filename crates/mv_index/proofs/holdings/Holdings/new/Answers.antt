use Rattle.std.proofs.Common.{◌∙◌, refl}
use Rattle.mv_index.proofs.DropTurn.{none_at_first, nothing_blocked, nothing_open}
use Rattle.mv_index.proofs.holdings.Holdings.new.Goals as goal

pub returns : goal.returns
returns c = record {
  firsts_are = c.in_ok-firsts.ensures;
  dropped_is = refl;
  base_is = c.empty.ensures;
  blocked_are = λ v n. c.new-3.ensures v n ∙ nothing_blocked v;
  commits_are = λ x. c.new-4.ensures.contents x ∙ none_at_first x.ver;
  commits_indexed = c.new-4.ensures.indexed;
  open_are = record {
    puts_are = λ v. c.new-2.ensures v ∙ none_at_first v;
    held_are = λ k x. c.new-5.ensures k x ∙ nothing_open k x;
  };
}
