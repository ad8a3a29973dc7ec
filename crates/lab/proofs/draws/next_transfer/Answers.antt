use Rattle.std.proofs.Common.{ℕ, ◌+◌, ap, ◌∙◌}
use Rattle.lab.proofs.TransferLemmas.{drawn_by, moved_up, not_moved}
use Rattle.lab.proofs.draws.next_transfer.Goals as goal

pub returns-then-other-from : goal.returns-then-other-from
returns-then-other-from c =
    ap (λ (n : ℕ). (record { from = 1 + c.draw-from.result; to = n; amount = 1 + c.draw-amount.result }, c.draw-amount.new.rng)) (moved_up c.draw-from.result c.draw-other.result c.if-other-from.true)
    ∙ drawn_by c.args.rng.now c.draw-from.new.rng c.draw-other.new.rng c.draw-amount.new.rng c.draw-from.result c.draw-other.result c.draw-amount.result c.draw-from.ensures.drawn c.draw-other.ensures.drawn c.draw-amount.ensures.drawn

pub returns-else-other-from : goal.returns-else-other-from
returns-else-other-from c =
    ap (λ (n : ℕ). (record { from = 1 + c.draw-from.result; to = n; amount = 1 + c.draw-amount.result }, c.draw-amount.new.rng)) (not_moved c.draw-from.result c.draw-other.result c.if-other-from.false)
    ∙ drawn_by c.args.rng.now c.draw-from.new.rng c.draw-other.new.rng c.draw-amount.new.rng c.draw-from.result c.draw-other.result c.draw-amount.result c.draw-from.ensures.drawn c.draw-other.ensures.drawn c.draw-amount.ensures.drawn
