-- When the next token decides what is read: a test of rules.
use Rattle.std.specs.Prelude.{Bool, true, not, ◌&&◌, List, [], ◌∷◌, is_some}
use Rattle.std.specs.List.{list_all}
use Rattle.txn_lang.specs.declared.tree.BinOp.TheVariants as op
use Rattle.txn_parse.specs.declared.symbols.Symbol.{Symbol}
use Rattle.txn_parse.specs.declared.symbols.Symbol.TheVariants as symbol
use Rattle.script.specs.Rules.{Rule, One, Block, Nothing, Both, Into, Either, Many, Listed, empty, begins, goes_on}

-- each symbol
abbrev pub all_symbols : List Symbol
all_symbols =
    symbol.Name ∷ symbol.Number ∷ symbol.Let ∷ symbol.Read ∷ symbol.Write ∷ symbol.Print ∷ symbol.If ∷
    symbol.Else ∷ symbol.Repeat ∷ symbol.Abort ∷ symbol.Not ∷ (symbol.Op op.Add) ∷ (symbol.Op op.Sub) ∷
    (symbol.Op op.Mul) ∷ (symbol.Op op.Div) ∷ (symbol.Op op.Rem) ∷ (symbol.Op op.Eq) ∷ (symbol.Op op.Ne) ∷
    (symbol.Op op.Lt) ∷ (symbol.Op op.Le) ∷ (symbol.Op op.Gt) ∷ (symbol.Op op.Ge) ∷ (symbol.Op op.And) ∷
    (symbol.Op op.Or) ∷ symbol.Assign ∷ symbol.Semicolon ∷ symbol.OpenBlock ∷ symbol.CloseBlock ∷
    symbol.OpenIndex ∷ symbol.CloseIndex ∷ symbol.OpenParen ∷ symbol.CloseParen ∷ symbol.Dot ∷ symbol.Morty ∷
    symbol.Replicas ∷ symbol.Wardens ∷ symbol.Tries ∷ symbol.Execs ∷ symbol.Gap ∷ symbol.Turns ∷
    symbol.Policy ∷ symbol.Rewind ∷ symbol.Table ∷ symbol.First ∷ symbol.Program ∷ symbol.Client ∷ symbol.At ∷
    symbol.Net ∷ symbol.Fair ∷ symbol.Seeded ∷ symbol.Listed ∷ symbol.Late ∷ symbol.Hurry ∷ symbol.List ∷
    symbol.Go ∷ symbol.Stop ∷ symbol.Deliver ∷ symbol.Recover ∷ symbol.Truncate ∷ symbol.Wait ∷ symbol.Next ∷
    symbol.Newest ∷ symbol.Replica ∷ symbol.Warden ∷ symbol.End ∷ symbol.Other ∷
    []

-- a test of each symbol
abbrev pub every : (Symbol → Bool) → Bool
every test = list_all test all_symbols

-- no symbol is among both
abbrev pub apart : (Symbol → Bool) → (Symbol → Bool) → Bool
apart p q = every (λ s. not (p s && q s))

-- where one rule stands behind another, or is one of two, or stands for many, the next token tells them apart
abbrev pub fits : {A : Type 0} → Rule A → Bool
fits (One choose sample) = is_some (choose sample)
fits Block = true
fits (Nothing a) = true
fits (Both r q) = fits r && (fits q && apart (begins q) (goes_on r))
fits (Into make r) = fits r
fits (Either r q) = fits r && (fits q && (not (empty r) && apart (begins r) (begins q)))
fits (Many r) = fits r && (not (empty r) && apart (begins r) (goes_on r))
fits (Listed r) = fits r && (not (empty r) && (not (begins r symbol.CloseBlock) && (not (goes_on r symbol.Semicolon) && not (goes_on r symbol.CloseBlock))))
