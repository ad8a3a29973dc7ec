-- The grammar of blocks, by cases on the tokens. Each token is seen as its symbol.
use Rattle.std.specs.Prelude.{ℕ, zero, suc, ◌≤◌, List, [], ◌∷◌, ◌++◌, length}
use Rattle.txn_lang.specs.declared.tree.BinOp.{BinOp}
use Rattle.txn_lang.specs.declared.tree.BinOp.TheVariants as op
use Rattle.txn_lang.specs.Limits.{operator_level, left_level}
use Rattle.txn_text.specs.declared.kinds.Token.{Token}
use Rattle.txn_parse.specs.declared.symbols.Symbol.TheVariants as symbol
use Rattle.txn_parse.specs.Symbols.{Lexeme, lexeme}
use Rattle.txn_parse.specs.Tree.{Term, Num, Local, Neg, Not, Bin, Command, Let, Read, Write, Print, If, Repeat, Abort, Commands, End, Then}

-- an expression of at least this level, where equal operators group to the left: 1 `or`, 2 `and`, 3 comparisons, 4 sums, 5 products, 6 signs and `not`
pub data IsExpr : ℕ → List Lexeme → Term → Type 0 where
  number : (t : Token) → IsExpr 6 (lexeme symbol.Number t ∷ []) (Num t)
  local : (t : Token) → IsExpr 6 (lexeme symbol.Name t ∷ []) (Local t)
  negative : (t : Token) (ls : List Lexeme) (a : Term) → IsExpr 6 ls a → IsExpr 6 (lexeme (symbol.Op op.Sub) t ∷ ls) (Neg a)
  denied : (t : Token) (ls : List Lexeme) (a : Term) → IsExpr 6 ls a → IsExpr 6 (lexeme symbol.Not t ∷ ls) (Not a)
  grouped : (t u : Token) (ls : List Lexeme) (e : Term) → IsExpr 1 ls e → IsExpr 6 (lexeme symbol.OpenParen t ∷ (ls ++ lexeme symbol.CloseParen u ∷ [])) e
  joined : (o : BinOp) (t : Token) (ls ms : List Lexeme) (a b : Term) → IsExpr (left_level o) ls a → IsExpr (suc (operator_level o)) ms b → IsExpr (operator_level o) (ls ++ lexeme (symbol.Op o) t ∷ ms) (Bin o a b)
  tighter : (n : ℕ) (ls : List Lexeme) (e : Term) → IsExpr (suc n) ls e → IsExpr n ls e

-- none, or how many tokens an outermost expression may have and how many blocks may stand in one another
pub data Limits : Type 0 where
  Free : Limits
  Within : (room depth : ℕ) → Limits

abbrev pub IsShort : Limits → List Lexeme → Type 0
IsShort Free ls = Unit {0}
IsShort (Within room depth) ls = length ls ≤ room

-- one more block may be opened
abbrev pub MayOpen : Limits → Type 0
MayOpen Free = Unit {0}
MayOpen (Within room zero) = ⊥
MayOpen (Within room (suc depth)) = Unit {0}

-- the limits in one more block
abbrev pub inside : Limits → Limits
inside Free = Free
inside (Within room zero) = Within room zero
inside (Within room (suc depth)) = Within room depth

-- an outermost expression
pub record IsOutermost (limits : Limits) (ls : List Lexeme) (e : Term) : Type 0 where
  pub short : IsShort limits ls
  pub derived : IsExpr 1 ls e

-- a statement, a block, and what stands between its braces
mutual
  pub data IsStmt : Limits → List Lexeme → Command → Type 0 where
    sets : (lim : Limits) (w v s : Token) (ls : List Lexeme) (e : Term) → IsOutermost lim ls e →
        IsStmt lim (lexeme symbol.Let w ∷ lexeme symbol.Name v ∷ lexeme symbol.Assign s ∷ ls) (Let v e)
    reads : (lim : Limits) (w v t x y : Token) (ls : List Lexeme) (i : Term) → IsOutermost lim ls i →
        IsStmt lim (lexeme symbol.Read w ∷ lexeme symbol.Name v ∷ lexeme symbol.Name t ∷ lexeme symbol.OpenIndex x ∷ (ls ++ lexeme symbol.CloseIndex y ∷ [])) (Read v t i)
    writes : (lim : Limits) (w t x y : Token) (ls ms : List Lexeme) (i e : Term) → IsOutermost lim ls i → IsOutermost lim ms e →
        IsStmt lim (lexeme symbol.Write w ∷ lexeme symbol.Name t ∷ lexeme symbol.OpenIndex x ∷ (ls ++ lexeme symbol.CloseIndex y ∷ ms)) (Write t i e)
    prints : (lim : Limits) (w : Token) (ls : List Lexeme) (e : Term) → IsOutermost lim ls e → IsStmt lim (lexeme symbol.Print w ∷ ls) (Print e)
    chooses : (lim : Limits) (w : Token) (ls ms : List Lexeme) (e : Term) (a : Commands) → IsOutermost lim ls e → IsBlock lim ms a →
        IsStmt lim (lexeme symbol.If w ∷ (ls ++ ms)) (If e a End)
    chooses_else : (lim : Limits) (w x : Token) (ls ms ns : List Lexeme) (e : Term) (a b : Commands) → IsOutermost lim ls e → IsBlock lim ms a → IsBlock lim ns b →
        IsStmt lim (lexeme symbol.If w ∷ (ls ++ (ms ++ lexeme symbol.Else x ∷ ns))) (If e a b)
    repeats : (lim : Limits) (w n : Token) (ls : List Lexeme) (body : Commands) → IsBlock lim ls body → IsStmt lim (lexeme symbol.Repeat w ∷ lexeme symbol.Number n ∷ ls) (Repeat n body)
    aborts : (lim : Limits) (w : Token) → IsStmt lim (lexeme symbol.Abort w ∷ []) Abort

  pub data IsBlock : Limits → List Lexeme → Commands → Type 0 where
    braced : (lim : Limits) (x y : Token) (ls : List Lexeme) (cs : Commands) → MayOpen lim → IsStmts (inside lim) ls cs →
        IsBlock lim (lexeme symbol.OpenBlock x ∷ (ls ++ lexeme symbol.CloseBlock y ∷ [])) cs

  pub data IsStmts : Limits → List Lexeme → Commands → Type 0 where
    last : (lim : Limits) (ls : List Lexeme) (c : Command) → IsStmt lim ls c → IsStmts lim ls (Then c End)
    last_ended : (lim : Limits) (s : Token) (ls : List Lexeme) (c : Command) → IsStmt lim ls c → IsStmts lim (ls ++ lexeme symbol.Semicolon s ∷ []) (Then c End)
    more : (lim : Limits) (s : Token) (ls ms : List Lexeme) (c : Command) (cs : Commands) → IsStmt lim ls c → IsStmts lim ms cs → IsStmts lim (ls ++ lexeme symbol.Semicolon s ∷ ms) (Then c cs)
