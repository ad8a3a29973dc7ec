use Rattle.std.proofs.Common.{rules, ◌∙◌, ap}
use Rattle.std.specs.Map.{lookup}
use Rattle.std.specs.BTreeMap.{is_at}
use Rattle.std.proofs.lemmas.Map.Entries.{lookup-filter-keys}
use Rattle.std.proofs.lemmas.Map.Made.{filter_same_pairs}
use Rattle.protocol.specs.Words.{before}
use Rattle.mv_index.specs.WriteIndex.{place_cmp}
use Rattle.mv_index.proofs.PlaceOrder.{test_found}
use Rattle.mv_index.proofs.read_index.ReadIndex.cut.Goals as goal

pub returns : goal.returns
returns c = λ k x.
    ap (lookup (is_at (place_cmp (record { key = k; exec = x })))) (filter_same_pairs _ (λ p. before c.args.w p.0.exec.ver) _
    (λ l v b w f t. search rules) _ _ c.retain.ensures.filtered)
    ∙ lookup-filter-keys (is_at (place_cmp (record { key = k; exec = x }))) (λ q. before c.args.w q.exec.ver) (before c.args.w x.ver) (λ q e.
    test_found (λ y. before c.args.w y.ver) k x q e) c.args.self.now.reads.entries
