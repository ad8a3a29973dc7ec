-- The items so far, and then those of the words that are left, are those of all words.
use Rattle.std.proofs.Common.{◌≡◌, ◌++◌, drop}
use Rattle.std.specs.Option.{option_map}
use Rattle.script_cli.specs.Words.{items_said}
use Rattle.script_cli.proofs.words.items_said.Given as goal

abbrev pub invariant-loop-word : goal.invariant-loop-word
invariant-loop-word l = option_map (λ more. l.items ++ more) (items_said (drop l.word-index l.words)) ≡ items_said l.words
