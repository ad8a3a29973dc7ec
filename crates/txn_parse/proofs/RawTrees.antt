-- The trees, with tokens, of the expressions and statements of each kind.
use Rattle.std.proofs.Common.{◌≡◌, ℕ, suc, ◌+◌, ◌<◌, List, ◌∷◌, length, drop, get_or, ap, sym, ◌∙◌, add-one}
use Rattle.std.proofs.Math.Seq.{drop-cons}
use Rattle.txn_lang.specs.declared.tree.BinOp.{BinOp}
use Rattle.txn_text.specs.declared.kinds.Token.{Token}
use Rattle.txn_parse.specs.declared.tree.RawExpr.{RawExpr}
use Rattle.txn_parse.specs.declared.tree.RawExpr.TheOpen.{RawExpr-F}
use Rattle.txn_parse.specs.declared.tree.RawExpr.TheFolds.{fold-roll-RawExpr}
use Rattle.txn_parse.specs.declared.tree.RawExpr.TheVariants as expr
use Rattle.txn_parse.specs.declared.tree.RawStmt.{RawStmt}
use Rattle.txn_parse.specs.declared.tree.RawStmt.TheOpen.{RawStmt-F}
use Rattle.txn_parse.specs.declared.tree.RawStmt.TheFolds.{fold-roll-RawStmt, fold-RawBlock, fold_out-RawBlock}
use Rattle.txn_parse.specs.declared.tree.RawStmt.TheVariants as stmt
use Rattle.txn_parse.specs.declared.tree.RawBlock.{RawBlock}
use Rattle.txn_parse.specs.Tree.{Term, Num, Local, Neg, Not, Bin, term_step, term, Command, Let, Read, Write, Print, If, Repeat, Abort, Commands, Then, command_step, commands_step, command, commands, commands_of}

pub term-Num : (n : Token) → term (expr.Num n) ≡ Num n
term-Num n = ap term (sym (expr.rolls-Num n)) ∙ fold-roll-RawExpr Term term_step (RawExpr-F.Num n)

pub term-Local : (v : Token) → term (expr.Local v) ≡ Local v
term-Local v = ap term (sym (expr.rolls-Local v)) ∙ fold-roll-RawExpr Term term_step (RawExpr-F.Local v)

pub term-Neg : (a : RawExpr) → term (expr.Neg a) ≡ Neg (term a)
term-Neg a = ap term (sym (expr.rolls-Neg a)) ∙ fold-roll-RawExpr Term term_step (RawExpr-F.Neg a)

pub term-Not : (a : RawExpr) → term (expr.Not a) ≡ Not (term a)
term-Not a = ap term (sym (expr.rolls-Not a)) ∙ fold-roll-RawExpr Term term_step (RawExpr-F.Not a)

pub term-Bin : (op : BinOp) (a b : RawExpr) → term (expr.Bin op (a, b)) ≡ Bin op (term a) (term b)
term-Bin op a b = ap term (sym (expr.rolls-Bin op (a, b))) ∙ fold-roll-RawExpr Term term_step (RawExpr-F.Bin op (a, b))

pub command-Let : (v : Token) (e : RawExpr) → command (stmt.Let v e) ≡ Let v (term e)
command-Let v e = ap command (sym (stmt.rolls-Let v e)) ∙ fold-roll-RawStmt Command Commands command_step commands_step (RawStmt-F.Let v e)

pub command-Read : (v table : Token) (i : RawExpr) → command (stmt.Read v table i) ≡ Read v table (term i)
command-Read v table i = ap command (sym (stmt.rolls-Read v table i)) ∙ fold-roll-RawStmt Command Commands command_step commands_step (RawStmt-F.Read v table i)

pub command-Write : (table : Token) (i e : RawExpr) → command (stmt.Write table i e) ≡ Write table (term i) (term e)
command-Write table i e = ap command (sym (stmt.rolls-Write table i e)) ∙ fold-roll-RawStmt Command Commands command_step commands_step (RawStmt-F.Write table i e)

pub command-Print : (e : RawExpr) → command (stmt.Print e) ≡ Print (term e)
command-Print e = ap command (sym (stmt.rolls-Print e)) ∙ fold-roll-RawStmt Command Commands command_step commands_step (RawStmt-F.Print e)

abbrev inner : RawBlock → Commands
inner = fold-RawBlock Command Commands command_step commands_step

block : (b : RawBlock) → inner b ≡ commands b
block b = fold_out-RawBlock Command Commands command_step commands_step b

pub command-If : (e : RawExpr) (a b : RawBlock) → command (stmt.If e a b) ≡ If (term e) (commands a) (commands b)
command-If e a b = ap command (sym (stmt.rolls-If e a b)) ∙ fold-roll-RawStmt Command Commands command_step commands_step (RawStmt-F.If e a b) ∙ ap (λ x. If (term e) x (inner b)) (block a) ∙ ap (If (term e) (commands a)) (block b)

pub command-Repeat : (n : Token) (body : RawBlock) → command (stmt.Repeat n body) ≡ Repeat n (commands body)
command-Repeat n body = ap command (sym (stmt.rolls-Repeat n body)) ∙ fold-roll-RawStmt Command Commands command_step commands_step (RawStmt-F.Repeat n body) ∙ ap (Repeat n) (block body)

pub command-Abort : command stmt.Abort ≡ Abort
command-Abort = ap command (sym stmt.rolls-Abort) ∙ fold-roll-RawStmt Command Commands command_step commands_step RawStmt-F.Abort

-- the tree of a statement, in front of those of the statements behind it
pub first_behind : (stmts : List RawStmt) (i : ℕ) (s : RawStmt) → i < length stmts → s ≡ get_or stmts i s → commands_of (drop i stmts) ≡ Then (command s) (commands_of (drop (i + 1) stmts))
first_behind stmts i s less is =
    ap commands_of (drop-cons stmts i s less ∙ ap (λ x. x ∷ drop (suc i) stmts) (sym is) ∙ ap (λ n. s ∷ drop n stmts) (sym (add-one i)))
