-- Reading a block from left to right: the tree and what follows it, or the first fault.
use Rattle.std.specs.Prelude.{◌≡◌, ℕ, zero, suc, ◌+◌, Bool, true, false, List, [], ◌∷◌, length, Option, Some, None, Result, Ok, Err, if◌then◌else◌}
use Rattle.txn_text.specs.declared.kinds.Token.{Token}
use Rattle.txn_text.specs.declared.faults.FaultKind.TheVariants as fault
use Rattle.txn_text.specs.declared.faults.TextFault.{TextFault}
use Rattle.txn_text.specs.declared.faults.TextFault.TheVariants.{At}
use Rattle.txn_parse.specs.declared.symbols.Symbol.{Symbol}
use Rattle.txn_parse.specs.declared.symbols.Symbol.TheVariants as symbol
use Rattle.txn_parse.specs.Symbols.{Lexeme, is}
use Rattle.txn_parse.specs.Tree.{Term, Command, Let, Read, Write, Print, If, Repeat, Abort, Commands, End, Then}
use Rattle.txn_parse.specs.Pending.{State, Awaits, Nothing, goes_on, step, ended}

-- what is read from a list of tokens: a value with what follows it, or a fault
abbrev pub Found : Type 0 → Type 0
Found A = Result (A × List Lexeme) TextFault

abbrev pub Reader : Type 0 → Type 0
Reader A = List Lexeme → Found A

infixl 10 ◌>>=◌
abbrev pub ◌>>=◌ : {A B : Type 0} → Result A TextFault → (A → Result B TextFault) → Result B TextFault
(Ok x) >>= f = f x
(Err e) >>= f = Err e

-- the fault at the first of these tokens, or at the end of the text, in its last line
abbrev pub syntax_at : ℕ → List Lexeme → TextFault
syntax_at last [] = At last fault.EndOfText
syntax_at last (l ∷ ls) = At l.token.line fault.Syntax

-- the wanted token
abbrev pub take_at : ℕ → Symbol → Reader Token
take_at last wanted [] = Err (syntax_at last [])
take_at last wanted (l ∷ ls) = if is l.symbol wanted then Ok (l.token, ls) else Err (syntax_at last (l ∷ ls))

-- the whole expression, if it may end here
abbrev pub ended_at : ℕ → Option Term → Reader Term
ended_at last (Some e) ls = Ok (e, ls)
ended_at last None ls = Err (syntax_at last ls)

-- an outermost expression from the state that it was read to, where so many tokens may follow
unfoldable pub expr_from : ℕ → List Lexeme → ℕ → State → Found Term
expr_from last [] room s = ended_at last (ended s) []
expr_from last (l ∷ ls) zero s =
    if goes_on s l.symbol then Err (At l.token.line fault.LongExpression) else ended_at last (ended s) (l ∷ ls)
expr_from last (l ∷ ls) (suc room) s =
    if goes_on s l.symbol then expr_from last ls room (step s l) else ended_at last (ended s) (l ∷ ls)

abbrev pub expr_at : ℕ → ℕ → Reader Term
expr_at last room ls = expr_from last ls room (Awaits Nothing)

-- no token goes on with an expression that was read to this state
abbrev pub EndsAt : State → List Lexeme → Type 0
EndsAt s [] = Unit {0}
EndsAt s (l ∷ ls) = goes_on s l.symbol ≡ false

-- the first token does, and these stand behind it
pub record GoesOnWith (s : State) (ls : List Lexeme) (l : Lexeme) (rest : List Lexeme) : Type 0 where
  pub split : ls ≡ l ∷ rest
  pub goes : goes_on s l.symbol ≡ true

-- the statements behind their first word
unfoldable pub let_at : ℕ → ℕ → Reader Command
let_at last room ls = do
  v ← take_at last symbol.Name ls
  s ← take_at last symbol.Assign v.1
  e ← expr_at last room s.1
  Ok (Let v.0 e.0, e.1)

unfoldable pub read_at : ℕ → ℕ → Reader Command
read_at last room ls = do
  v ← take_at last symbol.Name ls
  t ← take_at last symbol.Name v.1
  x ← take_at last symbol.OpenIndex t.1
  i ← expr_at last room x.1
  y ← take_at last symbol.CloseIndex i.1
  Ok (Read v.0 t.0 i.0, y.1)

unfoldable pub write_at : ℕ → ℕ → Reader Command
write_at last room ls = do
  t ← take_at last symbol.Name ls
  x ← take_at last symbol.OpenIndex t.1
  i ← expr_at last room x.1
  y ← take_at last symbol.CloseIndex i.1
  e ← expr_at last room y.1
  Ok (Write t.0 i.0 e.0, e.1)

unfoldable pub print_at : ℕ → ℕ → Reader Command
print_at last room ls = do
  e ← expr_at last room ls
  Ok (Print e.0, e.1)

unfoldable pub else_at : Reader Commands → Reader Commands
else_at block [] = Ok (End, [])
else_at block (l ∷ ls) = if is l.symbol symbol.Else then block ls else Ok (End, l ∷ ls)

unfoldable pub if_at : ℕ → ℕ → Reader Commands → Reader Command
if_at last room block ls = do
  e ← expr_at last room ls
  a ← block e.1
  b ← else_at block a.1
  Ok (If e.0 a.0 b.0, b.1)

unfoldable pub repeat_at : ℕ → Reader Commands → Reader Command
repeat_at last block ls = do
  n ← take_at last symbol.Number ls
  body ← block n.1
  Ok (Repeat n.0 body.0, body.1)

-- a statement by its first word
abbrev pub stmt_by : ℕ → ℕ → Reader Commands → Lexeme → Symbol → Reader Command
stmt_by last room block l symbol.Let ls = let_at last room ls
stmt_by last room block l symbol.Read ls = read_at last room ls
stmt_by last room block l symbol.Write ls = write_at last room ls
stmt_by last room block l symbol.Print ls = print_at last room ls
stmt_by last room block l symbol.If ls = if_at last room block ls
stmt_by last room block l symbol.Repeat ls = repeat_at last block ls
stmt_by last room block l symbol.Abort ls = Ok (Abort, ls)
stmt_by last room block l s ls = Err (syntax_at last (l ∷ ls))

unfoldable pub stmt_at : ℕ → ℕ → Reader Commands → Reader Command
stmt_at last room block [] = Err (syntax_at last [])
stmt_at last room block (l ∷ ls) = stmt_by last room block l l.symbol ls

-- behind a semicolon: whether a statement follows, and not the closing brace
abbrev pub more_at : Reader Bool
more_at [] = Ok (true, [])
more_at (l ∷ ls) = if is l.symbol symbol.CloseBlock then Ok (false, ls) else Ok (true, l ∷ ls)

abbrev pub separator_by : ℕ → Lexeme → Symbol → Reader Bool
separator_by last l symbol.CloseBlock ls = Ok (false, ls)
separator_by last l symbol.Semicolon ls = more_at ls
separator_by last l s ls = Err (syntax_at last (l ∷ ls))

-- behind a statement: whether one more follows
unfoldable pub separator_at : ℕ → Reader Bool
separator_at last [] = Err (syntax_at last [])
separator_at last (l ∷ ls) = separator_by last l l.symbol ls

abbrev pub with_stmt : Command → Found Commands → Found Commands
with_stmt c (Ok r) = Ok (Then c r.0, r.1)
with_stmt c (Err e) = Err e

-- the statements up to the closing brace, of which there are fewer than `count`
unfoldable pub stmts_at : ℕ → Reader Command → ℕ → Reader Commands
stmts_at last stmt zero ls = Err (At last fault.ProgramLimit)
stmts_at last stmt (suc count) ls = do
  c ← stmt ls
  m ← separator_at last c.1
  if m.0 then with_stmt c.0 (stmts_at last stmt count m.1) else Ok (Then c.0 End, m.1)

-- a block, where so many blocks may stand in one another
unfoldable pub block_at : ℕ → ℕ → ℕ → Reader Commands
block_at last room zero ls = do
  x ← take_at last symbol.OpenBlock ls
  Err (At x.0.line fault.Deep)
block_at last room (suc depth) ls = do
  x ← take_at last symbol.OpenBlock ls
  stmts_at last (stmt_at last room (block_at last room depth)) (length x.1 + 1) x.1

-- a block without limits
unfoldable pub block_from : ℕ → Reader Commands
block_from last ls = block_at last (length ls) (length ls) ls
