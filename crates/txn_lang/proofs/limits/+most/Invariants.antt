use Rattle.std.proofs.Common.{◌≡◌, ◌+◌, ◌≤◌, min, drop}
use Rattle.txn_lang.specs.Tree.{commands, commands_of}
use Rattle.txn_lang.specs.Limits.{most}
use Rattle.txn_lang.proofs.limits.+most.Given as goal

abbrev pub invariant-most-loop-stmt : goal.invariant-most-loop-stmt
invariant-most-loop-stmt l =
    (l.total ≤ 5000) × (min (l.total + most l.kind (commands_of (drop l.stmt-index l.stmt-items))) 5000 ≡ min (most l.kind (commands l.block)) 5000)
