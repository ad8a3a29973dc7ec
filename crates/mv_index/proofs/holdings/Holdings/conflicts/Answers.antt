use Rattle.std.proofs.Common.{◌∙◌, ◌||◌, ap, List}
use Rattle.std.specs.List.{list_any}
use Rattle.protocol.specs.Words.{BaseEntry}
use Rattle.protocol.specs.Replica.Acceptor.{commits}
use Rattle.protocol.specs.Replica.Votes.{clashes_with_commit, conflicts_with_base}
use Rattle.mv_index.specs.ContentTable.{content_at}
use Rattle.mv_index.proofs.Conflicting.{commit_clash}
use Rattle.mv_index.proofs.holdings.Holdings.conflicts.Goals as goal

pub returns : goal.returns
returns c = λ firsts h s.
    let v = c.args.ver in
    let k = c.args.content.now in
    let committed = commit_clash h (content_at c.args.self.now.commits) (record {
      ver = v;
      eid = 0;
    }) k c.conflicts-committed.result s.commits_are (c.conflicts-committed.ensures s.commits_indexed) in
    let based = c.conflicts-based.ensures ∙ ap (λ (bs : List BaseEntry). list_any (conflicts_with_base v k) bs) s.base_is in
    c.or.ensures
    ∙ (ap (λ t. t || c.conflicts-based.result) committed
    ∙ ap (λ t. list_any (clashes_with_commit h (record { ver = v; eid = 0 }) k) (commits h) || t) based)
