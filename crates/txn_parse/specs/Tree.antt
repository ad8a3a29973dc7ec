-- Programs as they are read: the trees of the language, with a token for each name and number.
use Rattle.std.specs.Prelude.{List, [], ◌∷◌, map}
pub use Rattle.txn_lang.specs.Tree.{Num, Local, Neg, Not, Bin, Let, Read, Write, Print, If, Repeat, Abort, End, Then}
use Rattle.txn_lang.specs.Tree.{TermOf, CommandOf, CommandsOf}
use Rattle.txn_text.specs.declared.kinds.Token.{Token}
use Rattle.txn_parse.specs.declared.tree.RawExpr.{RawExpr}
use Rattle.txn_parse.specs.declared.tree.RawExpr.TheOpen.{RawExpr-F}
use Rattle.txn_parse.specs.declared.tree.RawExpr.TheFolds.{fold-RawExpr}
use Rattle.txn_parse.specs.declared.tree.RawStmt.{RawStmt}
use Rattle.txn_parse.specs.declared.tree.RawStmt.TheOpen.{RawStmt-F, RawBlock-F}
use Rattle.txn_parse.specs.declared.tree.RawStmt.TheFolds.{fold-RawStmt}
use Rattle.txn_parse.specs.declared.tree.RawBlock.{RawBlock}

abbrev pub Term : Type 0
Term = TermOf Token Token

abbrev pub Command : Type 0
Command = CommandOf Token Token Token

abbrev pub Commands : Type 0
Commands = CommandsOf Token Token Token

abbrev pub term_step : RawExpr-F Term → Term
term_step (RawExpr-F.Num n) = Num n
term_step (RawExpr-F.Local v) = Local v
term_step (RawExpr-F.Neg a) = Neg a
term_step (RawExpr-F.Not a) = Not a
term_step (RawExpr-F.Bin op operands) = Bin op operands.0 operands.1

-- the tree of an expression
abbrev pub term : RawExpr → Term
term = fold-RawExpr Term term_step

abbrev pub command_step : RawStmt-F Command Commands → Command
command_step (RawStmt-F.Let v e) = Let v (term e)
command_step (RawStmt-F.Read v t i) = Read v t (term i)
command_step (RawStmt-F.Write t i e) = Write t (term i) (term e)
command_step (RawStmt-F.Print e) = Print (term e)
command_step (RawStmt-F.If e a b) = If (term e) a b
command_step (RawStmt-F.Repeat n b) = Repeat n b
command_step RawStmt-F.Abort = Abort

-- statements in front of others
abbrev pub before : List Command → Commands → Commands
before [] rest = rest
before (c ∷ cs) rest = Then c (before cs rest)

abbrev pub commands_step : RawBlock-F Command Commands → Commands
commands_step b = before b.stmts End

-- the tree of a statement
abbrev pub command : RawStmt → Command
command = fold-RawStmt Command Commands command_step commands_step

-- the trees of statements one after another
abbrev pub commands_of : List RawStmt → Commands
commands_of stmts = before (map command stmts) End

-- the tree of a block
abbrev pub commands : RawBlock → Commands
commands b = commands_of b.stmts
