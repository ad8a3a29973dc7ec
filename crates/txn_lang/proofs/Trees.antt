-- The trees of the expressions and statements of each kind.
use Rattle.std.proofs.Common.{◌≡◌, ℕ, ap, sym, ◌∙◌, ℤ}
use Rattle.txn_lang.specs.declared.tree.BinOp.{BinOp}
use Rattle.txn_lang.specs.declared.tree.Expr.{Expr}
use Rattle.txn_lang.specs.declared.tree.Expr.TheOpen.{Expr-F}
use Rattle.txn_lang.specs.declared.tree.Expr.TheFolds.{fold-roll-Expr}
use Rattle.txn_lang.specs.declared.tree.Expr.TheVariants as expr
use Rattle.txn_lang.specs.declared.tree.Stmt.TheOpen.{Stmt-F}
use Rattle.txn_lang.specs.declared.tree.Stmt.TheFolds.{fold-roll-Stmt, fold-Block, fold_out-Block}
use Rattle.txn_lang.specs.declared.tree.Stmt.TheVariants as stmt
use Rattle.txn_lang.specs.declared.tree.Block.{Block}
use Rattle.txn_lang.specs.Tree.{Term, Num, Local, Neg, Not, Bin, term_step, term, Command, Let, Read, Write, Print, If, Repeat, Abort, Commands, command_step, commands_step, command, commands}

pub term-Num : (n : ℤ) → term (expr.Num n) ≡ Num n
term-Num n = ap term (sym (expr.rolls-Num n)) ∙ fold-roll-Expr Term term_step (Expr-F.Num n)

pub term-Local : (v : ℕ) → term (expr.Local v) ≡ Local v
term-Local v = ap term (sym (expr.rolls-Local v)) ∙ fold-roll-Expr Term term_step (Expr-F.Local v)

pub term-Neg : (a : Expr) → term (expr.Neg a) ≡ Neg (term a)
term-Neg a = ap term (sym (expr.rolls-Neg a)) ∙ fold-roll-Expr Term term_step (Expr-F.Neg a)

pub term-Not : (a : Expr) → term (expr.Not a) ≡ Not (term a)
term-Not a = ap term (sym (expr.rolls-Not a)) ∙ fold-roll-Expr Term term_step (Expr-F.Not a)

pub term-Bin : (op : BinOp) (a b : Expr) → term (expr.Bin op (a, b)) ≡ Bin op (term a) (term b)
term-Bin op a b = ap term (sym (expr.rolls-Bin op (a, b))) ∙ fold-roll-Expr Term term_step (Expr-F.Bin op (a, b))

pub command-Let : (v : ℕ) (e : Expr) → command (stmt.Let v e) ≡ Let v (term e)
command-Let v e = ap command (sym (stmt.rolls-Let v e)) ∙ fold-roll-Stmt Command Commands command_step commands_step (Stmt-F.Let v e)

pub command-Read : (v table : ℕ) (i : Expr) → command (stmt.Read v table i) ≡ Read v table (term i)
command-Read v table i = ap command (sym (stmt.rolls-Read v table i)) ∙ fold-roll-Stmt Command Commands command_step commands_step (Stmt-F.Read v table i)

pub command-Write : (table : ℕ) (i e : Expr) → command (stmt.Write table i e) ≡ Write table (term i) (term e)
command-Write table i e = ap command (sym (stmt.rolls-Write table i e)) ∙ fold-roll-Stmt Command Commands command_step commands_step (Stmt-F.Write table i e)

pub command-Print : (e : Expr) → command (stmt.Print e) ≡ Print (term e)
command-Print e = ap command (sym (stmt.rolls-Print e)) ∙ fold-roll-Stmt Command Commands command_step commands_step (Stmt-F.Print e)

abbrev inner : Block → Commands
inner = fold-Block Command Commands command_step commands_step

block : (b : Block) → inner b ≡ commands b
block b = fold_out-Block Command Commands command_step commands_step b

pub command-If : (e : Expr) (a b : Block) → command (stmt.If e a b) ≡ If (term e) (commands a) (commands b)
command-If e a b = ap command (sym (stmt.rolls-If e a b)) ∙ fold-roll-Stmt Command Commands command_step commands_step (Stmt-F.If e a b) ∙ ap (λ x. If (term e) x (inner b)) (block a) ∙ ap (If (term e) (commands a)) (block b)

pub command-Repeat : (n : ℕ) (body : Block) → command (stmt.Repeat n body) ≡ Repeat n (commands body)
command-Repeat n body = ap command (sym (stmt.rolls-Repeat n body)) ∙ fold-roll-Stmt Command Commands command_step commands_step (Stmt-F.Repeat n body) ∙ ap (Repeat n) (block body)

pub command-Abort : command stmt.Abort ≡ Abort
command-Abort = ap command (sym stmt.rolls-Abort) ∙ fold-roll-Stmt Command Commands command_step commands_step Stmt-F.Abort
