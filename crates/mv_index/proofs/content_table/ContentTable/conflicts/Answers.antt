use Rattle.std.proofs.Common.{subst, true, false, List}
use Rattle.protocol.specs.Words.{Read, Write}
use Rattle.mv_index.specs.ContentTable.{IsMissed, IsOne, content_at}
use Rattle.mv_index.specs.ReadIndex.{read_at, IsReadPast}
use Rattle.mv_index.proofs.IndexedContents.{missed_conflicts, past_conflicts}
use Rattle.mv_index.proofs.content_table.ContentTable.conflicts.Goals as goal

pub returns-then-are_missed : goal.returns-then-are_missed
returns-then-are_missed c = λ s.
    let f = content_at c.args.self.now in
    missed_conflicts f c.args.ver c.args.content.now (subst (λ (rs : List Read). IsOne (IsMissed f c.args.ver) rs true) c.as_slice.ensures
    (c.if-are_missed.ensures s))

pub returns : goal.returns
returns c = λ s.
    let t = c.args.self.now in
    let f = content_at t in
    past_conflicts f (read_at t.reads) c.args.ver c.args.content.now c.misses.result s.reads_are
    (subst (λ (rs : List Read). IsOne (IsMissed f c.args.ver) rs false) c.as_slice.ensures (c.if-are_missed.ensures s))
    (subst (λ (ws : List Write). IsOne (λ (w : Write) b. IsReadPast c.args.ver
    (read_at t.reads w.key) b) ws c.misses.result) c.as_slice-2.ensures c.misses.ensures)
