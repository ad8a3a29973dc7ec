use Rattle.std.proofs.Common.{◌≡◌, drop}
use Rattle.txn_parse.specs.Tree.{commands, commands_of}
use Rattle.txn_parse.specs.Binding.{first_failing, names_after, local_checks}
use Rattle.txn_parse.proofs.names.+locals.Given as goal

abbrev pub invariant-take_locals-loop-stmt : goal.invariant-take_locals-loop-stmt
invariant-take_locals-loop-stmt l = record {
  placed : names_after l.text (commands_of (drop l.stmt-index l.stmt-items)) l.names ≡ names_after l.text (commands l.block) l.initial.names;
  checks : first_failing (local_checks l.text l.names (commands_of (drop l.stmt-index l.stmt-items))) ≡ first_failing (local_checks l.text l.initial.names (commands l.block));
}
