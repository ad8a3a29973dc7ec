use Rattle.std.proofs.Common.{◌≡◌, ◌≤◌, ◌-◌, length}
use Rattle.txn_text.specs.Tokens.{tokens_of, line_of}
use Rattle.txn_text.proofs.TokensLemmas.{with_front, from_byte}
use Rattle.txn_text.proofs.scan.tokens.Given as goal

abbrev pub invariant-loop-at : goal.invariant-loop-at
invariant-loop-at l = record {
  within : l.at ≤ length l.text;
  in_line : l.line ≡ line_of l.text l.at;
  so_far : with_front l.toks (from_byte l.text l.at) ≡ tokens_of l.text;
}

abbrev pub decreases-loop-at : goal.decreases-loop-at
decreases-loop-at l = length l.text - l.at
