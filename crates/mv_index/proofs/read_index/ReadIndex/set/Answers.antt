use Rattle.std.proofs.Common.{◌≡◌, ◌∙◌, cond, Some, ap, rules, ◌&&◌}
use Rattle.protocol.specs.Words.{same_exec, same_key}
use Rattle.mv_index.specs.ReadIndex.{lesser, read_at}
use Rattle.mv_index.proofs.PlaceOrder.{place_eq}
use Rattle.mv_index.proofs.ReadIndexLemmas.{counted_at}
use Rattle.mv_index.proofs.read_index.ReadIndex.set.Goals as goal

pub returns : goal.returns
returns c = λ k x.
    let r = c.args.read in
    let y = c.args.exec in
    let old = read_at c.args.self.now in
    let seen : c.copied.result ≡ old r.key y = search rules in
    c.in_ok-insert.ensures.updates.0 (record { key = k; exec = x })
    ∙ (ap (λ t. cond t (Some c.lesser-least.result) (old k x)) (place_eq (record { key = r.key; exec = y }) (record { key = k; exec = x }))
    ∙ (ap (λ u. cond (same_exec x y && same_key k r.key) (Some u) (old k x)) (c.lesser-least.ensures ∙ ap (λ o. lesser o r.wid.ver) seen)
    ∙ counted_at y r old k x))
