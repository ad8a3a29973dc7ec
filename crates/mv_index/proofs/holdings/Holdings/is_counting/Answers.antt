use Rattle.std.proofs.Common.{◌∙◌, ap, refl, true, false}
use Rattle.std.specs.Prelude.{not}
use Rattle.mv_index.specs.ContentTable.{content_at}
use Rattle.mv_index.specs.HeldByExec.{is_blocked}
use Rattle.mv_index.proofs.Counting.{has_commit_is, counting_is}
use Rattle.mv_index.proofs.holdings.Holdings.is_counting.Goals as goal

pub returns-then-not-committed : goal.returns-then-not-committed
returns-then-not-committed c = λ firsts h s above.
    counting_is h c.args.exec false _ _ (is_blocked h c.args.exec.ver c.args.exec.eid) above
    (has_commit_is h (content_at c.args.self.now.commits) c.args.exec.ver false s.commits_are above c.if-not-committed.ensures)
    (c.blocks-blocked.ensures ∙ s.blocked_are c.args.exec.ver c.args.exec.eid) refl

pub returns-else-not-committed : goal.returns-else-not-committed
returns-else-not-committed c = λ firsts h s above.
    counting_is h c.args.exec true _ _ (is_blocked h c.args.exec.ver c.args.exec.eid) above
    (has_commit_is h (content_at c.args.self.now.commits) c.args.exec.ver true s.commits_are above c.if-not-committed.ensures)
    (c.blocks-blocked.ensures ∙ s.blocked_are c.args.exec.ver c.args.exec.eid) (ap not c.if-not-committed.false)
