use Rattle.std.proofs.Common.{rules, ◌∙◌, ap}
use Rattle.std.specs.BTreeMap.{get}
use Rattle.std.proofs.lemmas.Map.Made.{filter_same_pairs}
use Rattle.protocol.specs.Words.{before}
use Rattle.mv_index.specs.AbandonTable.{is_up_to}
use Rattle.mv_index.specs.Orders.{version_cmp}
use Rattle.mv_index.proofs.TableOrder.{cut_versions, is_up_to_cond}
use Rattle.mv_index.proofs.abandon_table.AbandonTable.cut.Goals as goal

pub returns : goal.returns
returns c = λ v n.
    ap (is_up_to n) (cut_versions c.args.w v _ _ (filter_same_pairs _ (λ p. before c.args.w p.0) _ (λ l u b w f t. search rules) _ _ c.retain.ensures.filtered))
    ∙ is_up_to_cond n (before c.args.w v) (get version_cmp c.args.self.now.greatest v)
