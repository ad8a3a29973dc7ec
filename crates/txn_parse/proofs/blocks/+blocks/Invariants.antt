use Rattle.std.proofs.Common.{◌≡◌, ◌≤◌, length, map, ◌+◌, ◌-◌, ◌*◌}
use Rattle.txn_parse.specs.Tree.{command}
use Rattle.txn_parse.specs.Symbols.{lexemes}
use Rattle.txn_parse.specs.Reading.{stmts_at, stmt_at, block_at}
use Rattle.txn_parse.proofs.ReadingLemmas.{with_stmts}
use Rattle.txn_parse.proofs.blocks.+blocks.Given as goal

abbrev pub invariant-block-stmts : goal.invariant-block-stmts
invariant-block-stmts l = record {
  fewer : length l.rest + length l.stmts ≤ length l.initial.rest;
  so_far : with_stmts (map command l.stmts) (stmts_at l.last (stmt_at l.last l.room (block_at l.last l.room (l.depth - 1))) (length (lexemes l.text l.initial.rest) + 1 - length l.stmts) (lexemes l.text l.rest)) ≡ stmts_at l.last (stmt_at l.last l.room (block_at l.last l.room (l.depth - 1))) (length (lexemes l.text l.initial.rest) + 1) (lexemes l.text l.initial.rest);
}

abbrev pub decreases-block-stmts : goal.decreases-block-stmts
decreases-block-stmts l = length l.rest

abbrev pub decreases-block : goal.decreases-block
decreases-block l = 4 * l.depth

abbrev pub decreases-else_block : goal.decreases-else_block
decreases-else_block l = 4 * l.depth + 1

abbrev pub decreases-if_statement : goal.decreases-if_statement
decreases-if_statement l = 4 * l.depth + 2

abbrev pub decreases-repeat_statement : goal.decreases-repeat_statement
decreases-repeat_statement l = 4 * l.depth + 2

abbrev pub decreases-statement : goal.decreases-statement
decreases-statement l = 4 * l.depth + 3
