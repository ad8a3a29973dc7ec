-- Programs, and what they do.
use Rattle.std.specs.Prelude.{◌≡◌, ℕ, List, [], ◌∷◌, Some, None, ℤ, pos}
use Rattle.morty_base.specs.declared.names.Key.{Key}
use Rattle.morty_base.specs.declared.names.Ending.TheVariants as ending
use Rattle.txn_lang.specs.declared.tree.BinOp.TheVariants.{Add, Sub, Lt}
use Rattle.txn_lang.specs.Tree.{Num, Local, Bin, Let, Read, Write, Print, If, Repeat, Abort, Commands, End, Then}
use Rattle.txn_lang.specs.Keys.{entry}
use Rattle.txn_lang.specs.Actions.{key_at, program_actions}
use Rattle.txn_lang.specs.Runs.{Run, run, next_answer, kept}

abbrev pub replay_tree : Commands → ℕ → List ℤ → Run
replay_tree body n answers = run next_answer (program_actions body n) [] answers

abbrev pub x_at : ℕ → Key
x_at i = key_at 0 (pos i)

-- let s = 0; let i = 1; repeat 5 { read a x[i]; let s = s + a; let i = i + 1 }; print s
abbrev pub five : Commands
five =
    Then (Let 0 (Num (pos 0))) (Then (Let 1 (Num (pos 1))) (Then (Repeat 5
    (Then (Read 2 0 (Local 1)) (Then (Let 0 (Bin Add (Local 0) (Local 2))) (Then (Let 1 (Bin Add (Local 1) (Num (pos 1)))) End))))
    (Then (Print (Local 0)) End)))

-- read a x[1]; if a < 10 { write x[2] 1; abort }; write x[1] a - 10; print a
abbrev pub pay : Commands
pay =
    Then (Read 0 0 (Num (pos 1))) (Then (If (Bin Lt (Local 0) (Num (pos 10)))
    (Then (Write 0 (Num (pos 2)) (Num (pos 1))) (Then Abort End)) End)
    (Then (Write 0 (Num (pos 1)) (Bin Sub (Local 0) (Num (pos 10)))) (Then (Print (Local 0)) End)))

-- read a x[1]; read b x[1]; print b
abbrev pub twice : Commands
twice = Then (Read 0 0 (Num (pos 1))) (Then (Read 1 0 (Num (pos 1))) (Then (Print (Local 1)) End))

-- write x[1] 5; read a x[1]; print a
abbrev pub own : Commands
own = Then (Write 0 (Num (pos 1)) (Num (pos 5))) (Then (Read 0 0 (Num (pos 1))) (Then (Print (Local 0)) End))

-- the first program asks for one place after another, and prints their sum
pub record FiveReads : Type 0 where
  pub asks_first : replay_tree five 3 [] ≡
      record { reads = []; writes = []; out = []; begun = 4; asks = Some (x_at 1); ending = None; known = [] }
  pub asks_fourth : (replay_tree five 3 (pos 1 ∷ pos 2 ∷ pos 30 ∷ [])).asks ≡ Some (x_at 4)
  pub prints_sum : (replay_tree five 3 (pos 1 ∷ pos 2 ∷ pos 30 ∷ pos 4 ∷ pos 5 ∷ [])).out ≡ pos 42 ∷ []
  pub ends : (replay_tree five 3 (pos 1 ∷ pos 2 ∷ pos 30 ∷ pos 4 ∷ pos 5 ∷ [])).ending ≡ Some ending.Done
  pub begins : (replay_tree five 3 (pos 1 ∷ pos 2 ∷ pos 30 ∷ pos 4 ∷ pos 5 ∷ [])).begun ≡ 19

-- the second gives up on a low amount: its write was made and is not kept
pub record PayAborts : Type 0 where
  pub ends : (replay_tree pay 1 (pos 4 ∷ [])).ending ≡ Some ending.Abort
  pub made : (replay_tree pay 1 (pos 4 ∷ [])).writes ≡ entry (x_at 2) (pos 1) ∷ []
  pub kept_none : kept (replay_tree pay 1 (pos 4 ∷ [])) ≡ []

-- the third asks for its key once: the second read shows the first answer, and a further answer is not taken
pub record ReadsTwice : Type 0 where
  pub asks : (replay_tree twice 2 []).asks ≡ Some (x_at 1)
  pub shows_first : replay_tree twice 2 (pos 7 ∷ pos 8 ∷ []) ≡
      record { reads = entry (x_at 1) (pos 7) ∷ []; writes = []; out = pos 7 ∷ []; begun = 3; asks = None; ending = Some ending.Done; known = entry (x_at 1) (pos 7) ∷ [] }

-- the fourth asks for nothing: it reads the key that it wrote
pub record ReadsOwnWrite : Type 0 where
  pub shows_own : replay_tree own 1 [] ≡
      record { reads = []; writes = entry (x_at 1) (pos 5) ∷ []; out = pos 5 ∷ []; begun = 3; asks = None; ending = Some ending.Done; known = entry (x_at 1) (pos 5) ∷ [] }
