use Rattle.std.proofs.Common.{◌≡◌, ◌≤◌, length}
use Rattle.txn_parse.specs.Symbols.{lexemes}
use Rattle.script.specs.Rules.{Listed, read}
use Rattle.script.specs.Grammar.{txn}
use Rattle.script.proofs.ListedLemmas.{with_front}
use Rattle.script.proofs.clients.some_txns.Given as goal

abbrev pub invariant-txns : goal.invariant-txns
invariant-txns l = record {
  no_longer : length l.rest ≤ length l.toks;
  so_far : with_front l.txns (read (Listed txn) l.last (lexemes l.text l.rest)) ≡ read (Listed txn) l.last (lexemes l.text l.toks);
}

abbrev pub decreases-txns : goal.decreases-txns
decreases-txns l = length l.rest
