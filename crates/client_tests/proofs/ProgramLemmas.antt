-- The trees of the programs that run here, and their form.
use Rattle.std.proofs.Common.{◌≡◌, ℕ, List, [], ◌∷◌, refl, ap, sym, subst, ◌∙◌, pos, rules}
use Rattle.std.specs.Prelude.{codes}
use Rattle.std.specs.List.{IsDistinct}
use Rattle.txn_lang.specs.declared.tree.BinOp.TheVariants.{Add}
use Rattle.txn_lang.specs.declared.tree.Expr.{Expr}
use Rattle.txn_lang.specs.declared.tree.Expr.TheVariants as expr
use Rattle.txn_lang.specs.declared.tree.Stmt.TheVariants as stmt
use Rattle.txn_lang.specs.declared.tree.Block.{Block}
use Rattle.txn_lang.specs.Tree.{Num, Local, Bin, Commands, term, commands, commands_of}
use Rattle.morty_base.specs.ScriptNames.{is_setting_word, is_item_word, is_net_word, is_plan_word, is_statement_word, is_reserved, is_name}
use Rattle.txn_lang.specs.Form.{IsWellFormed}
use Rattle.txn_lang.proofs.Trees.{term-Num, term-Local, command-Read, command-Write, command-Print}
use Rattle.client_tests.specs.Programs.{puts, raises, sums}

pub puts_formed : (n : ℕ) → IsWellFormed [] (puts n)
unfolding is_setting_word is_item_word is_net_word is_plan_word is_statement_word is_reserved is_name IsDistinct
puts_formed n = record { named = refl; distinct = tt; filled = tt; formed = search rules; all_placed = refl }

pub raises_formed : IsWellFormed (codes "a" ∷ []) raises
unfolding is_setting_word is_item_word is_net_word is_plan_word is_statement_word is_reserved is_name IsDistinct
raises_formed = record { named = refl; distinct = (tt, tt); filled = tt; formed = search rules; all_placed = refl }

pub sums_formed : IsWellFormed (codes "a" ∷ codes "b" ∷ []) sums
unfolding is_setting_word is_item_word is_net_word is_plan_word is_statement_word is_reserved is_name IsDistinct
sums_formed = record { named = refl; distinct = ((refl, tt), (tt, tt)); filled = tt; formed = search rules; all_placed = refl }

-- names and a tree in the form of a program
pub formed_as : (names wanted : List (List ℕ)) (body tree : Commands) → names ≡ wanted → body ≡ tree → IsWellFormed wanted tree → IsWellFormed names body
formed_as names wanted body tree same is formed =
    subst (λ ns. IsWellFormed ns body) (sym same) (subst (IsWellFormed wanted) (sym is) formed)

pub is_puts : (n : ℕ) (all : Block) → all.stmts ≡ stmt.Write 0 (expr.Num (pos 1)) (expr.Num (pos n)) ∷ [] → commands all ≡ puts n
is_puts n all is = ap commands_of is ∙ simp (command-Write, term-Num)

pub is_raises : (more : Expr) (all : Block) → term more ≡ Bin Add (Local 0) (Num (pos 1)) →
    all.stmts ≡ stmt.Read 0 0 (expr.Num (pos 1)) ∷ stmt.Write 0 (expr.Num (pos 1)) more ∷ stmt.Print (expr.Local 0) ∷ [] → commands all ≡ raises
is_raises more all mores is = ap commands_of is ∙ simp (command-Read, command-Write, command-Print, term-Num, term-Local, mores)

pub is_sums : (sum : Expr) (all : Block) → term sum ≡ Bin Add (Local 0) (Local 1) →
    all.stmts ≡ stmt.Read 0 0 (expr.Num (pos 1)) ∷ stmt.Read 1 1 (expr.Num (pos 1)) ∷ stmt.Write 0 (expr.Num (pos 1)) sum ∷ stmt.Print (expr.Local 0) ∷ [] → commands all ≡ sums
is_sums sum all summed is = ap commands_of is ∙ simp (command-Read, command-Write, command-Print, term-Num, term-Local, summed)
