use Rattle.std.proofs.Common.{◌≡◌, max, drop}
use Rattle.txn_parse.specs.Tree.{commands, commands_of}
use Rattle.txn_parse.specs.Binding.{most_times}
use Rattle.txn_parse.proofs.bodies.+times.Given as goal

abbrev pub invariant-most_times-loop-stmt : goal.invariant-most_times-loop-stmt
invariant-most_times-loop-stmt l = max l.most (most_times l.text (commands_of (drop l.stmt-index l.stmt-items))) ≡ most_times l.text (commands l.block)
