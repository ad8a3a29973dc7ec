use Rattle.std.proofs.Common.{◌∙◌, ◌∷◌, [], ap}
use Rattle.protocol.specs.Words.{Fenced}
use Rattle.protocol.specs.Replica.Taken.{base}
use Rattle.protocol.specs.Replica.Says.{answer, committed_upto}
use Rattle.truncation.proofs.replica_side.fence.Goals as goal

pub returns-clause-answer : goal.returns-clause-answer
unfolding answer
returns-clause-answer c = λ firsts h s above.
    let w = c.args.w in
    ap (λ b. Fenced w b c.in_ok-committed.committed c.in_ok-voted.voted ∷ []) (c.in_ok-base.ensures.list firsts h s)
    ∙ (ap (λ l. Fenced w (base h) l c.in_ok-voted.voted ∷ []) (c.in_ok-committed.ensures.list firsts h s)
    ∙ ap (λ l. Fenced w (base h) (committed_upto h w) l ∷ []) (c.in_ok-voted.ensures.list firsts h s))
