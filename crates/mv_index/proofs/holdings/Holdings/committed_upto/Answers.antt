use Rattle.std.proofs.Common.{◌≡◌, List}
use Rattle.std.proofs.lemmas.Result.{IfOk-weaker}
use Rattle.protocol.specs.Words.{Kept}
use Rattle.protocol.specs.Replica.Says.{committed_upto}
use Rattle.mv_index.specs.ContentTable.{content_at, IsListUpTo}
use Rattle.mv_index.proofs.CommittedList.{committed_list}
use Rattle.mv_index.proofs.holdings.Holdings.committed_upto.Goals as goal

pub returns : goal.returns
returns c = λ firsts h s.
    let commits = content_at c.args.self.now.commits in
    IfOk-weaker c.upto.result (IsListUpTo commits c.args.w) (λ (l : List Kept). l ≡ committed_upto h c.args.w) (λ l k.
    committed_list h commits c.args.w l s.commits_are k) c.upto.ensures
