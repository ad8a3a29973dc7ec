use Rattle.std.proofs.Common.{◌≡◌, List}
use Rattle.std.proofs.lemmas.Result.{IfOk-weaker}
use Rattle.protocol.specs.Words.{Kept}
use Rattle.protocol.specs.Replica.Says.{voted_upto}
use Rattle.mv_index.specs.ContentTable.{content_at, IsListUpTo}
use Rattle.mv_index.proofs.VotedList.{voted_list}
use Rattle.mv_index.proofs.records.Records.voted_upto.Goals as goal

pub returns-clause-list : goal.returns-clause-list
returns-clause-list c = λ firsts h s.
    let voted = content_at c.args.self.now.voted in
    IfOk-weaker c.upto.result (IsListUpTo voted c.args.w) (λ (l : List Kept). l ≡ voted_upto h c.args.w) (λ l k.
    voted_list h voted c.args.w l s.voted k) c.upto.ensures
