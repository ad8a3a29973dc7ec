use Rattle.std.proofs.Common.{◌≡◌, ◌+◌, ◌≤◌, min, drop}
use Rattle.txn_lang.specs.Tree.{commands, commands_of}
use Rattle.txn_lang.specs.Limits.{steps}
use Rattle.txn_lang.proofs.limits.+steps.Given as goal

abbrev pub invariant-steps-loop-stmt : goal.invariant-steps-loop-stmt
invariant-steps-loop-stmt l =
    (l.total ≤ 5000) × (min (l.total + steps (commands_of (drop l.stmt-index l.stmt-items))) 5000 ≡ min (steps (commands l.block)) 5000)
