use Rattle.std.proofs.Common.{◌≡◌, drop}
use Rattle.txn_parse.specs.Symbols.{symbol_in, entries_of}
use Rattle.txn_parse.proofs.symbols.symbol_in.Given as goal

abbrev pub invariant-loop-entry : goal.invariant-loop-entry
invariant-loop-entry l = symbol_in (entries_of (drop l.entry-index l.entries)) l.text ≡ symbol_in (entries_of l.entries) l.text
