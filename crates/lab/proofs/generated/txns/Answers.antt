use Rattle.std.proofs.Common.{ℕ, ◌+◌, ◌*◌, [], ◌∷◌, ◌++◌, ap, ◌∙◌}
use Rattle.lab.proofs.TransferLemmas.{one_txn, other_txn}
use Rattle.lab.proofs.generated.txns.Goals as goal
use Rattle.lab.proofs.generated.txns.Goals.{then-i-client+in_ok-push, else-i-client}

pub loop-i-preserved : goal.loop-i-preserved
loop-i-preserved c =
    elim c.if-i-client.branch [
      | then-i-client+in_ok-push w ↦ w.txns-is ∙ w.in_ok-push.ensures.ok ∙ ap (λ (n : ℕ). c.loop-i.txns ++ record { prog = c.loop-i.i; at = 10 * (n + 1) } ∷ []) w.from.ensures ∙ one_txn c.loop-i.i c.args.client c.loop-i.txns c.loop-i.invariant w.if-i-client.true
      | else-i-client w ↦ w.txns-is ∙ other_txn c.loop-i.i c.args.client c.loop-i.txns c.loop-i.invariant w.if-i-client.false
    ]
