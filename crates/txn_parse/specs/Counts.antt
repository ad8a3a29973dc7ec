-- The limits of blocks, told by counting: how many blocks are open, and how many tokens of expressions stand in a row.
use Rattle.std.specs.Prelude.{◌≡◌, ℕ, ◌+◌, ◌-◌, Bool, true, false, nat_lt, if◌then◌else◌, List, [], ◌∷◌, Result, Ok, Err}
use Rattle.txn_lang.specs.declared.limits.TheConstants.{DEEPEST_BLOCK, LONGEST_EXPRESSION}
use Rattle.txn_text.specs.declared.faults.FaultKind.{FaultKind}
use Rattle.txn_text.specs.declared.faults.FaultKind.TheVariants.{Deep, LongExpression}
use Rattle.txn_parse.specs.declared.limits.Count.{Count}
use Rattle.txn_parse.specs.declared.symbols.Symbol.{Symbol}
use Rattle.txn_parse.specs.declared.symbols.Symbol.TheVariants.{Name, Number, Not, Op, OpenParen, CloseParen, OpenBlock, CloseBlock}
use Rattle.txn_parse.specs.Symbols.{Lexeme}
use Rattle.txn_parse.specs.Tree.{Commands}
use Rattle.txn_parse.specs.Grammar.{Free, Within, IsBlock}

-- the tokens that expressions have
abbrev pub in_expression : Symbol → Bool
in_expression Name = true
in_expression Number = true
in_expression Not = true
in_expression (Op o) = true
in_expression OpenParen = true
in_expression CloseParen = true
in_expression s = false

-- the counts behind a token, or the token that is past a limit
abbrev pub Counts : Type 0
Counts = Result (ℕ × ℕ) (Lexeme × FaultKind)

-- what a call that counts one token tells of it
abbrev pub told : Result Count FaultKind → Lexeme → Counts
told (Ok c) l = Ok (c.depth, c.run)
told (Err kind) l = Err (l, kind)

abbrev pub one_counted : ℕ → ℕ → Lexeme → Symbol → Counts
one_counted depth run l OpenBlock = if nat_lt depth DEEPEST_BLOCK then Ok (depth + 1, 0) else Err (l, Deep)
one_counted depth run l CloseBlock = Ok (depth - 1, 0)
one_counted depth run l s = if in_expression s then (if nat_lt run LONGEST_EXPRESSION then Ok (depth, run + 1) else Err (l, LongExpression)) else Ok (depth, 0)

abbrev pub and_then : Counts → (ℕ × ℕ → Counts) → Counts
and_then (Ok c) next = next c
and_then (Err past) next = Err past

-- the counts behind these tokens, or the first that is past a limit
abbrev pub counted : ℕ → ℕ → List Lexeme → Counts
counted depth run [] = Ok (depth, run)
counted depth run (l ∷ ls) = and_then (one_counted depth run l l.symbol) (λ c. counted c.0 c.1 ls)

-- a block is within the limits just where no token of it is past one
pub record LimitsAreCounts : Type 0 where
  pub counts : (ls : List Lexeme) (b : Commands) → IsBlock (Within LONGEST_EXPRESSION DEEPEST_BLOCK) ls b → counted 0 0 ls ≡ Ok (0, 0)
  pub within : (ls : List Lexeme) (b : Commands) (c : ℕ × ℕ) → IsBlock Free ls b → counted 0 0 ls ≡ Ok c → IsBlock (Within LONGEST_EXPRESSION DEEPEST_BLOCK) ls b
