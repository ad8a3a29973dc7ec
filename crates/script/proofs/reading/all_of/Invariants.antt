use Rattle.std.proofs.Common.{◌≡◌, length}
use Rattle.txn_parse.specs.Symbols.{lexemes}
use Rattle.script.specs.Rules.{Many, read}
use Rattle.script.specs.Items.{items}
use Rattle.script.specs.Groups.{rule_of, joined}
use Rattle.script.proofs.reading.all_of.Given as goal

abbrev pub invariant-items : goal.invariant-items
invariant-items l =
    joined (items l.items) (read (Many (rule_of l.group)) l.last (lexemes l.text l.rest)) ≡ joined (items l.fn.front) (read (Many (rule_of l.group)) l.last (lexemes l.text l.toks))

abbrev pub decreases-items : goal.decreases-items
decreases-items l = length l.rest
