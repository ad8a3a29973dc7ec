-- What a program that was read from a text has besides its limits: names of locals in the order of their first
-- places as targets, no use of a local before such a place, and a statement in each block other than an else block.
use Rattle.std.specs.Prelude.{◌≡◌, ℕ, ◌+◌, ◌<◌, ◌≤◌, max, List, length, IsTrue, nat_lt, if◌then◌else◌, ⊤}
use Rattle.std.specs.List.{list_all, IsDistinct}
use Rattle.std.specs.Int.{IsNonNegative}
use Rattle.std.specs.Str.{bytes_eq}
use Rattle.morty_base.specs.ScriptNames.{is_name}
use Rattle.txn_lang.specs.Tree.{Term, Num, Local, Neg, Not, Bin, Command, Let, Read, Write, Print, If, Repeat, Abort, Commands, End, Then}

-- how many of n locals have a place as a target once v has one
abbrev pub with_target : ℕ → ℕ → ℕ → ℕ
with_target n v placed = if nat_lt v n then max placed (v + 1) else placed

abbrev mutual
  pub placed_in : ℕ → Command → ℕ → ℕ
  placed_in n (Let v e) placed = with_target n v placed
  placed_in n (Read v table i) placed = with_target n v placed
  placed_in n (If e a b) placed = placed_after n b (placed_after n a placed)
  placed_in n (Repeat times body) placed = placed_after n body placed
  placed_in n _ placed = placed

  -- the same once these statements were read in text order
  pub placed_after : ℕ → Commands → ℕ → ℕ
  placed_after n End placed = placed
  placed_after n (Then c rest) placed = placed_after n rest (placed_in n c placed)

-- a target that has a place already, or is the next one
abbrev pub IsInTurn : ℕ → ℕ → ℕ → Type 0
IsInTurn n placed v = v < n → v ≤ placed

-- no number is negative, and no local is used before it has a place
abbrev pub IsFormedTerm : ℕ → ℕ → Term → Type 0
IsFormedTerm n placed (Num x) = IsNonNegative x
IsFormedTerm n placed (Local v) = v < n → v < placed
IsFormedTerm n placed (Neg a) = IsFormedTerm n placed a
IsFormedTerm n placed (Not a) = IsFormedTerm n placed a
IsFormedTerm n placed (Bin op a b) = IsFormedTerm n placed a × IsFormedTerm n placed b

-- a block with a statement
abbrev pub IsFilled : Commands → Type 0
IsFilled End = ⊥
IsFilled (Then c rest) = ⊤

-- a target stands before the uses in its own statement
abbrev mutual
  pub IsFormedIn : ℕ → ℕ → Command → Type 0
  IsFormedIn n placed (Let v e) = IsInTurn n placed v × IsFormedTerm n (with_target n v placed) e
  IsFormedIn n placed (Read v table i) = IsInTurn n placed v × IsFormedTerm n (with_target n v placed) i
  IsFormedIn n placed (Write table i e) = IsFormedTerm n placed i × IsFormedTerm n placed e
  IsFormedIn n placed (Print e) = IsFormedTerm n placed e
  IsFormedIn n placed (If e a b) =
      IsFormedTerm n placed e × IsFilled a × IsFormed n placed a × IsFormed n (placed_after n a placed) b
  IsFormedIn n placed (Repeat times body) = IsFilled body × IsFormed n placed body
  IsFormedIn n placed Abort = ⊤

  pub IsFormed : ℕ → ℕ → Commands → Type 0
  IsFormed n placed End = ⊤
  IsFormed n placed (Then c rest) = IsFormedIn n placed c × IsFormed n (placed_in n c placed) rest

-- distinct names, each of a local that has a place as a target, in the order of first places
pub record IsWellFormed (names : List (List ℕ)) (body : Commands) : Type 0 where
  pub named : IsTrue (list_all is_name names)
  pub distinct : IsDistinct bytes_eq names
  pub filled : IsFilled body
  pub formed : IsFormed (length names) 0 body
  pub all_placed : placed_after (length names) body 0 ≡ length names
