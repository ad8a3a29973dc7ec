use Rattle.std.proofs.Common.{◌∙◌, cond, None, ap}
use Rattle.mv_index.specs.WriteIndex.{held_at}
use Rattle.mv_index.proofs.PlaceOrder.{place_eq}
use Rattle.mv_index.proofs.write_index.WriteIndex.unset.Goals as goal

pub returns : goal.returns
returns c = λ k x.
    c.remove.ensures.updates.0 (record { key = k; exec = x })
    ∙ ap (λ t. cond t None (held_at c.args.self.now k x)) (place_eq (record { key = c.args.key; exec = c.args.exec }) (record { key = k; exec = x }))
