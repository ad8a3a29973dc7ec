use Rattle.std.proofs.Common.{◌∙◌, cond, None, ap}
use Rattle.mv_index.specs.ReadIndex.{read_at}
use Rattle.mv_index.proofs.PlaceOrder.{place_eq}
use Rattle.mv_index.proofs.read_index.ReadIndex.unset.Goals as goal

pub returns : goal.returns
returns c = λ k x.
    c.remove.ensures.updates.0 (record { key = k; exec = x })
    ∙ ap (λ t. cond t None (read_at c.args.self.now k x)) (place_eq (record { key = c.args.key; exec = c.args.exec }) (record { key = k; exec = x }))
