use Rattle.std.proofs.Common.{◌≡◌, ◌≤◌, length}
use Rattle.txn_parse.specs.Symbols.{lexemes}
use Rattle.txn_parse.specs.Pending.{state_of}
use Rattle.txn_parse.specs.Reading.{expr_from, expr_at}
use Rattle.txn_parse.proofs.expressions.expression.Given as goal

abbrev pub invariant-loop-symbol : goal.invariant-loop-symbol
invariant-loop-symbol l = record {
  no_longer : length l.rest ≤ length l.toks;
  so_far : expr_from l.last (lexemes l.text l.rest) l.left (state_of l.at) ≡ expr_at l.last l.room (lexemes l.text l.toks);
}

abbrev pub decreases-loop-symbol : goal.decreases-loop-symbol
decreases-loop-symbol l = length l.rest
