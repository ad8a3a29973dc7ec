-- The programs of the runs that are computed, in the language.
use Rattle.std.specs.Prelude.{◌≡◌, ℕ, ℤ, List, [], ◌∷◌, pos}
use Rattle.txn_lang.specs.declared.tree.BinOp.TheVariants.{Add}
use Rattle.txn_lang.specs.Tree.{Num, Local, Bin, Read, Write, Print, Commands, End, Then}
use Rattle.txn_lang.specs.Examples.{replay_tree}
use Rattle.protocol.specs.Client.State.{Walk}
use Rattle.protocol_runs.specs.Samples.{inc, look, put, half, two}
use Rattle.protocol_plans.specs.Scripted.{walk_of}

-- read a x[1]; write x[1] a + 1; print a
abbrev pub inc_tree : Commands
inc_tree = Then (Read 0 0 (Num (pos 1))) (Then (Write 0 (Num (pos 1)) (Bin Add (Local 0) (Num (pos 1)))) (Then (Print (Local 0)) End))

-- read c x[1]; print c
abbrev pub look_tree : Commands
look_tree = Then (Read 0 0 (Num (pos 1))) (Then (Print (Local 0)) End)

-- write x[1] 1
abbrev pub put_tree : Commands
put_tree = Then (Write 0 (Num (pos 1)) (Num (pos 1))) End

-- write x[1] 7; read b y[1]; print b
abbrev pub half_tree : Commands
half_tree = Then (Write 0 (Num (pos 1)) (Num (pos 7))) (Then (Read 0 1 (Num (pos 1))) (Then (Print (Local 0)) End))

-- read a x[1]; read b y[1]; write x[1] a + b; print a
abbrev pub two_tree : Commands
two_tree =
    Then (Read 0 0 (Num (pos 1))) (Then (Read 1 1 (Num (pos 1)))
    (Then (Write 0 (Num (pos 1)) (Bin Add (Local 0) (Local 1))) (Then (Print (Local 0)) End)))

abbrev pub walk_tree : Commands → ℕ → List ℤ → Walk
walk_tree body locals answers = walk_of (replay_tree body locals answers)

-- on the answers that they get in these runs the programs do what the runs take them to do
pub record SamplesArePrograms : Type 0 where
  pub inc_asks : walk_tree inc_tree 1 [] ≡ inc []
  pub inc_four : walk_tree inc_tree 1 (pos 4 ∷ []) ≡ inc (pos 4 ∷ [])
  pub inc_five : walk_tree inc_tree 1 (pos 5 ∷ []) ≡ inc (pos 5 ∷ [])
  pub look_asks : walk_tree look_tree 1 [] ≡ look []
  pub look_zero : walk_tree look_tree 1 (pos 0 ∷ []) ≡ look (pos 0 ∷ [])
  pub look_seven : walk_tree look_tree 1 (pos 7 ∷ []) ≡ look (pos 7 ∷ [])
  pub put_ends : walk_tree put_tree 0 [] ≡ put []
  pub half_asks : walk_tree half_tree 1 [] ≡ half []
  pub two_asks : walk_tree two_tree 2 [] ≡ two []
  pub two_zero : walk_tree two_tree 2 (pos 0 ∷ []) ≡ two (pos 0 ∷ [])
  pub two_seven : walk_tree two_tree 2 (pos 7 ∷ []) ≡ two (pos 7 ∷ [])
