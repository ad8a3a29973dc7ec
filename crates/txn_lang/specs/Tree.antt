-- Programs as trees that are read by cases: the trees of the program's own types, without their boxes and lists.
use Rattle.std.specs.Prelude.{ℕ, ℤ, List, [], ◌∷◌, map}
use Rattle.txn_lang.specs.declared.tree.BinOp.{BinOp}
use Rattle.txn_lang.specs.declared.tree.Expr.{Expr}
use Rattle.txn_lang.specs.declared.tree.Expr.TheOpen.{Expr-F}
use Rattle.txn_lang.specs.declared.tree.Expr.TheFolds.{fold-Expr}
use Rattle.txn_lang.specs.declared.tree.Stmt.{Stmt}
use Rattle.txn_lang.specs.declared.tree.Stmt.TheOpen.{Stmt-F, Block-F}
use Rattle.txn_lang.specs.declared.tree.Stmt.TheFolds.{fold-Stmt}
use Rattle.txn_lang.specs.declared.tree.Block.{Block}

-- an expression, over what stands for its numbers and its locals
pub data TermOf (Number Name : Type 0) : Type 0 where
  Num : (number : Number) → TermOf Number Name
  Local : (local : Name) → TermOf Number Name
  Neg : (a : TermOf Number Name) → TermOf Number Name
  Not : (a : TermOf Number Name) → TermOf Number Name
  Bin : (op : BinOp) (a b : TermOf Number Name) → TermOf Number Name

-- a statement, and statements one after another, over these, what stands for tables too, and for the times of a repeat
mutual
  pub data CommandOf (Number Times Name : Type 0) : Type 0 where
    Let : (local : Name) (e : TermOf Number Name) → CommandOf Number Times Name
    Read : (local table : Name) (index : TermOf Number Name) → CommandOf Number Times Name
    Write : (table : Name) (index e : TermOf Number Name) → CommandOf Number Times Name
    Print : (e : TermOf Number Name) → CommandOf Number Times Name
    If : (e : TermOf Number Name) (then_block else_block : CommandsOf Number Times Name) → CommandOf Number Times Name
    Repeat : (times : Times) (body : CommandsOf Number Times Name) → CommandOf Number Times Name
    Abort : CommandOf Number Times Name

  pub data CommandsOf (Number Times Name : Type 0) : Type 0 where
    End : CommandsOf Number Times Name
    Then : (first : CommandOf Number Times Name) (rest : CommandsOf Number Times Name) → CommandsOf Number Times Name

-- those of programs: numbers are numbers, and locals and tables are told by theirs
abbrev pub Term : Type 0
Term = TermOf ℤ ℕ

abbrev pub Command : Type 0
Command = CommandOf ℤ ℕ ℕ

abbrev pub Commands : Type 0
Commands = CommandsOf ℤ ℕ ℕ

abbrev pub term_step : Expr-F Term → Term
term_step (Expr-F.Num n) = Num n
term_step (Expr-F.Local v) = Local v
term_step (Expr-F.Neg a) = Neg a
term_step (Expr-F.Not a) = Not a
term_step (Expr-F.Bin op operands) = Bin op operands.0 operands.1

-- the tree of an expression
abbrev pub term : Expr → Term
term = fold-Expr Term term_step

abbrev pub command_step : Stmt-F Command Commands → Command
command_step (Stmt-F.Let v e) = Let v (term e)
command_step (Stmt-F.Read v t i) = Read v t (term i)
command_step (Stmt-F.Write t i e) = Write t (term i) (term e)
command_step (Stmt-F.Print e) = Print (term e)
command_step (Stmt-F.If e a b) = If (term e) a b
command_step (Stmt-F.Repeat n b) = Repeat n b
command_step Stmt-F.Abort = Abort

abbrev pub in_order : List Command → Commands
in_order [] = End
in_order (c ∷ cs) = Then c (in_order cs)

abbrev pub commands_step : Block-F Command Commands → Commands
commands_step b = in_order b.stmts

-- the tree of a statement
abbrev pub command : Stmt → Command
command = fold-Stmt Command Commands command_step commands_step

-- the trees of statements one after another
abbrev pub commands_of : List Stmt → Commands
commands_of stmts = in_order (map command stmts)

-- the tree of a block
abbrev pub commands : Block → Commands
commands b = commands_of b.stmts
