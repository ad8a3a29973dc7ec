use Rattle.std.proofs.Common.{rules, ◌∙◌, ap, None}
use Rattle.std.specs.Prelude.{option_map}
use Rattle.std.specs.BTreeMap.{get}
use Rattle.std.proofs.lemmas.Map.Made.{filter_same_pairs}
use Rattle.protocol.specs.Words.{before}
use Rattle.mv_index.specs.PutTable.{put_of}
use Rattle.mv_index.specs.Orders.{version_cmp}
use Rattle.mv_index.proofs.TableOrder.{cut_versions, option_map_cond}
use Rattle.mv_index.proofs.put_table.PutTable.cut.Goals as goal

pub returns : goal.returns
returns c = λ v.
    ap (option_map put_of) (cut_versions c.args.w v _ _
    (filter_same_pairs _ (λ p. before c.args.w p.0) _ (λ l u b w f t. search rules) _ _ c.retain.ensures.filtered))
    ∙ option_map_cond put_of (before c.args.w v) (get version_cmp c.args.self.now.puts v) None
