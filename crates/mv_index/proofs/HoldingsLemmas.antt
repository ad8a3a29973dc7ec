-- What is committed is held by the index of the committed contents.
use Rattle.std.proofs.Common.{◌≡◌, ◌∙◌, ap, sym, List}
use Rattle.protocol.specs.Words.{Exec, Key, before}
use Rattle.protocol.specs.declared.First2.{First2}
use Rattle.protocol.specs.Replica.Taken.{Handled, dropped}
use Rattle.mv_index.specs.HeldByExec.{committed_content, last_of_content, sure_by}
use Rattle.mv_index.specs.WriteIndex.{held_at}
use Rattle.mv_index.specs.Holdings.{StandsFor}
use Rattle.mv_index.specs.declared.holdings.Holdings.{Holdings}
use Rattle.mv_index.proofs.IndexedContents.{writes_cut}

pub sure_are : (firsts : List First2) (h : Handled) (r : Holdings) → StandsFor firsts h r → (k : Key) (x : Exec) → held_at r.commits.writes k x ≡ sure_by h k x
unfolding sure_by
sure_are firsts h r s k x =
    s.commits_indexed.writes_are k x
    ∙ (ap (last_of_content k x) (s.commits_are x) ∙ sym (writes_cut k x (before (dropped h) x.ver) (committed_content h x)))
