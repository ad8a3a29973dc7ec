use Rattle.std.proofs.Common.{◌∙◌, ◌&&◌, cond, None, ap, sym, List}
use Rattle.protocol.specs.Words.{Exec, Read, Write, same_exec}
use Rattle.protocol.specs.Replica.Votes.{writes_key}
use Rattle.mv_index.specs.ContentTable.{content_at, least_read}
use Rattle.mv_index.specs.HeldByExec.{last_of_content}
use Rattle.mv_index.specs.ReadIndex.{reads_key, read_at}
use Rattle.mv_index.specs.WriteIndex.{held_at}
use Rattle.mv_index.proofs.IndexedContents.{writes_removed, reads_removed, none_removed}
use Rattle.mv_index.proofs.TableOrder.{exec_eq}
use Rattle.mv_index.proofs.content_table.ContentTable.remove.Goals as goal

pub returns-in-None-clause-contents : goal.returns-in-None-clause-contents
returns-in-None-clause-contents c = λ x. c.remove.ensures.updates.0 x ∙ ap (λ b. cond b None (content_at c.args.self.now x)) (exec_eq c.args.exec x)

pub returns-in-None-clause-indexed : goal.returns-in-None-clause-indexed
returns-in-None-clause-indexed c = λ s.
    let t = c.args.self.now in
    let y = c.args.exec in
    let same = λ (x : Exec). none_removed x y (content_at t x) _ (λ e. ap (content_at t) e ∙ sym c.in-None.ensures.value)
    (c.remove.ensures.updates.0 x ∙ ap (λ b. cond b None (content_at t x)) (exec_eq y x)) in
    record {
      writes_are = λ k x. s.writes_are k x ∙ ap (last_of_content k x) (sym (same x));
      reads_are = λ k x. s.reads_are k x ∙ ap (least_read k) (sym (same x));
    }

pub returns-in-Some-clause-contents : goal.returns-in-Some-clause-contents
returns-in-Some-clause-contents c = λ x. c.remove.ensures.updates.0 x ∙ ap (λ b. cond b None (content_at c.args.self.now x)) (exec_eq c.args.exec x)

pub returns-in-Some-clause-indexed : goal.returns-in-Some-clause-indexed
returns-in-Some-clause-indexed c = λ s.
    let t = c.args.self.now in
    let y = c.args.exec in
    let d = c.in-Some.content in
    let now = λ (x : Exec). c.remove.ensures.updates.0 x ∙ ap (λ b. cond b None (content_at t x)) (exec_eq y x) in
    record {
      writes_are = λ k x. writes_removed k x y d (held_at t.writes k x) _ (content_at t x) _ (s.writes_are k x) (λ e. ap (content_at t) e
          ∙ sym c.in-Some.ensures.value)
          (c.erase.ensures k x ∙ ap (λ (ws : List Write). cond (same_exec x y && writes_key k ws) None (held_at t.writes k x)) c.as_slice.ensures) (now x);
      reads_are = λ k x. reads_removed k x y d (read_at t.reads k x) _ (content_at t x) _ (s.reads_are k x) (λ e. ap (content_at t) e
          ∙ sym c.in-Some.ensures.value)
          (c.erase-in-Some.ensures k x ∙ ap (λ (rs : List Read). cond (same_exec x y && reads_key k rs) None
          (read_at t.reads k x)) c.as_slice-in-Some.ensures) (now x);
    }
