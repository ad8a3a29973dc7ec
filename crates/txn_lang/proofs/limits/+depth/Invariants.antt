use Rattle.std.proofs.Common.{◌≡◌, ◌≤◌, min, max, drop}
use Rattle.txn_lang.specs.Tree.{commands, commands_of}
use Rattle.txn_lang.specs.Limits.{depth}
use Rattle.txn_lang.proofs.limits.+depth.Given as goal

abbrev pub invariant-depth-loop-stmt : goal.invariant-depth-loop-stmt
invariant-depth-loop-stmt l =
    (1 ≤ l.deepest) × (l.deepest ≤ 5000) × (min (max l.deepest (depth (commands_of (drop l.stmt-index l.stmt-items)))) 5000 ≡ min (depth (commands l.block)) 5000)
