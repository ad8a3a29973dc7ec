use Rattle.std.proofs.Common.{◌∙◌, ◌++◌, ap, true, false, refl}
use Rattle.replica.proofs.ReplicaTurns.{keeps_marked}
use Rattle.replica.proofs.replica.Replica.handle.Goals as goal

pub returns-clause-says : goal.returns-clause-says
returns-clause-says c = λ firsts number h s.
    c.in_ok-append.ensures.ok ∙ ap (λ l. c.args.out.now ++ l) (c.in_ok-sent.ensures.says firsts number h
    (keeps_marked firsts number h h c.args.self.now true s.keeps))

pub returns-clause-stands : goal.returns-clause-stands
returns-clause-stands c = λ firsts number h s. record {
  keeps = keeps_marked firsts number _ _ c.answer.new.self false (c.in_ok-sent.ensures.stands firsts number h
      (keeps_marked firsts number h h c.args.self.now true s.keeps));
  whole = refl;
}
