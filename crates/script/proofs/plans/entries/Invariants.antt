use Rattle.std.proofs.Common.{◌≡◌, ◌≤◌, length}
use Rattle.txn_parse.specs.Symbols.{lexemes}
use Rattle.script.specs.Rules.{Listed, read}
use Rattle.script.specs.Grammar.{entry}
use Rattle.script.proofs.ListedLemmas.{with_front}
use Rattle.script.proofs.plans.entries.Given as goal

abbrev pub invariant-entries : goal.invariant-entries
invariant-entries l = record {
  no_longer : length l.rest ≤ length l.toks;
  so_far : with_front l.entries (read (Listed entry) l.last (lexemes l.text l.rest)) ≡ read (Listed entry) l.last (lexemes l.text l.toks);
}

abbrev pub decreases-entries : goal.decreases-entries
decreases-entries l = length l.rest
