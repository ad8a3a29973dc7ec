-- The programs of the clients.
use Rattle.std.specs.Prelude.{ℕ, pos}
use Rattle.txn_lang.specs.declared.tree.BinOp.TheVariants.{Add}
use Rattle.txn_lang.specs.Tree.{Num, Local, Bin, Read, Write, Print, Commands, End, Then}

-- write x[1] n
abbrev pub puts : ℕ → Commands
puts n = Then (Write 0 (Num (pos 1)) (Num (pos n))) End

-- read a x[1]; write x[1] a + 1; print a
abbrev pub raises : Commands
raises = Then (Read 0 0 (Num (pos 1))) (Then (Write 0 (Num (pos 1)) (Bin Add (Local 0) (Num (pos 1)))) (Then (Print (Local 0)) End))

-- read a x[1]; read b y[1]; write x[1] a + b; print a
abbrev pub sums : Commands
sums =
    Then (Read 0 0 (Num (pos 1))) (Then (Read 1 1 (Num (pos 1)))
    (Then (Write 0 (Num (pos 1)) (Bin Add (Local 0) (Local 1))) (Then (Print (Local 0)) End)))
