use Rattle.std.proofs.Common.{◌≡◌, drop}
use Rattle.std.specs.Prelude.{find}
use Rattle.txn_parse.specs.Tree.{commands, commands_of}
use Rattle.txn_parse.specs.Binding.{is_unknown, tables_of}
use Rattle.txn_parse.proofs.names.+tables.Given as goal

abbrev pub invariant-unknown_table-loop-stmt : goal.invariant-unknown_table-loop-stmt
invariant-unknown_table-loop-stmt l =
    find (is_unknown l.text l.tables) (tables_of (commands_of (drop l.stmt-index l.stmt-items))) ≡ find (is_unknown l.text l.tables) (tables_of (commands l.block))
