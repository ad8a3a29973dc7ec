use Rattle.std.proofs.Common.{◌∙◌, rules, ap, sym, cond, None}
use Rattle.std.proofs.lemmas.Map.Made.{filter_same_pairs}
use Rattle.protocol.specs.Words.{Exec, before}
use Rattle.mv_index.specs.ContentTable.{content_at, least_read}
use Rattle.mv_index.specs.HeldByExec.{last_of_content}
use Rattle.mv_index.proofs.IndexedContents.{writes_cut, reads_cut}
use Rattle.mv_index.proofs.TableOrder.{cut_execs}
use Rattle.mv_index.proofs.content_table.ContentTable.cut.Goals as goal

pub returns-clause-contents : goal.returns-clause-contents
returns-clause-contents c = λ x. cut_execs c.args.w x _ _ (filter_same_pairs _ (λ p. before c.args.w p.0.ver) _
    (λ l u b w f t. search rules) _ _ c.retain.ensures.filtered)

pub returns-clause-indexed : goal.returns-clause-indexed
returns-clause-indexed c = λ s.
    let t = c.args.self.now in
    let w = c.args.w in
    let left = λ (x : Exec). cut_execs w x _ _ (filter_same_pairs _ (λ p. before w p.0.ver) _ (λ l u b v f t. search rules) _ _ c.retain.ensures.filtered) in
    record {
      writes_are = λ k x. c.cut.ensures k x ∙ (ap (λ o. cond (before w x.ver) o None) (s.writes_are k x)
          ∙ (writes_cut k x (before w x.ver) (content_at t x) ∙ ap (last_of_content k x) (sym (left x))));
      reads_are = λ k x. c.cut-2.ensures k x ∙ (ap (λ o. cond (before w x.ver) o None) (s.reads_are k x)
          ∙ (reads_cut k (before w x.ver) (content_at t x) ∙ ap (least_read k) (sym (left x))));
    }
