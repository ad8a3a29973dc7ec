use Rattle.std.proofs.Common.{◌≡◌, ◌≤◌, drop, map, None}
use Rattle.std.specs.Prelude.{find}
use Rattle.txn_lang.specs.declared.limits.TheConstants.{MOST_TIMES}
use Rattle.txn_lang.specs.Tree.{command as command_of}
use Rattle.txn_parse.specs.Tree.{commands, commands_of}
use Rattle.txn_parse.specs.Binding.{is_unknown, tables_of, most_times, bound}
use Rattle.txn_parse.proofs.BodyLemmas.{behind}
use Rattle.txn_parse.proofs.bodies.+bodies.Given as goal

abbrev pub invariant-bound_block-loop-stmt : goal.invariant-bound_block-loop-stmt
invariant-bound_block-loop-stmt l = record {
  made : behind (map command_of l.stmts) (bound l.text l.tables l.names (commands_of (drop l.stmt-index l.stmt-items))) ≡ bound l.text l.tables l.names (commands l.block);
  known : find (is_unknown l.text l.tables) (tables_of (commands_of (drop l.stmt-index l.stmt-items))) ≡ None;
  times : most_times l.text (commands_of (drop l.stmt-index l.stmt-items)) ≤ MOST_TIMES;
}
