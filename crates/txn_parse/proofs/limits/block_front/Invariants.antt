use Rattle.std.proofs.Common.{◌≡◌, take, Ok}
use Rattle.txn_parse.specs.Symbols.{lexemes}
use Rattle.txn_parse.specs.Counts.{counted}
use Rattle.txn_parse.proofs.limits.block_front.Given as goal

abbrev pub invariant-loop-at : goal.invariant-loop-at
invariant-loop-at l = counted 0 0 (lexemes l.text (take l.at l.toks)) ≡ Ok (l.count.depth, l.count.run)
