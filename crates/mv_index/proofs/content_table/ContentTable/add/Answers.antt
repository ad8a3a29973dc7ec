use Rattle.std.proofs.Common.{◌∙◌, true, cond, Some, ap, List}
use Rattle.std.specs.Option.{option_or}
use Rattle.protocol.specs.Words.{Exec, Read, Write, same_exec}
use Rattle.protocol.specs.Replica.Held.{last_write}
use Rattle.mv_index.specs.ContentTable.{content_at}
use Rattle.mv_index.specs.ReadIndex.{with_reads, read_at}
use Rattle.mv_index.specs.WriteIndex.{held_at}
use Rattle.mv_index.proofs.IndexedContents.{writes_added, reads_added}
use Rattle.mv_index.proofs.TableOrder.{exec_eq}
use Rattle.mv_index.proofs.content_table.ContentTable.add.Goals as goal

pub returns-clause-contents : goal.returns-clause-contents
returns-clause-contents c = λ x.
    c.in_ok-insert.ensures.updates.0 x
    ∙ (ap (λ b. cond b (Some c.in_ok-content.content) (content_at c.args.self.now x)) (exec_eq c.args.exec x)
    ∙ ap (λ d. cond (same_exec x c.args.exec) (Some d) (content_at c.args.self.now x)) c.in_ok-content.ensures)

pub returns-clause-indexed : goal.returns-clause-indexed
returns-clause-indexed c = λ s none.
    let t = c.args.self.now in
    let y = c.args.exec in
    let d = c.in_ok-content.content in
    let now = λ (x : Exec). c.in_ok-insert.ensures.updates.0 x ∙ ap (λ b. cond b (Some d) (content_at t x)) (exec_eq y x) in
    record {
      writes_are = λ k x. writes_added k x y d (held_at t.writes k x) _ (content_at t x) _ (s.writes_are k x) (λ e. ap (content_at t) e ∙ none)
          (c.in_ok-fill.ensures k x ∙ ap (λ (ws : List Write). cond (same_exec x y) (option_or (last_write y true 1 k ws) (held_at t.writes k x))
          (held_at t.writes k x)) c.as_slice.ensures) (now x);
      reads_are = λ k x. reads_added k x y d (read_at t.reads k x) _ (content_at t x) _ (s.reads_are k x) (λ e. ap (content_at t) e ∙ none)
          (c.in_ok-fill-2.ensures k x ∙ ap (λ (rs : List Read). cond (same_exec x y) (with_reads k (read_at t.reads k x) rs)
          (read_at t.reads k x)) c.as_slice-2.ensures) (now x);
    }
