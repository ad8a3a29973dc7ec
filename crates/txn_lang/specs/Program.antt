-- A program: the names of its locals and its body.
use Rattle.std.specs.Prelude.{ℕ, List, [], ◌∷◌, length, ℤ}
use Rattle.txn_lang.specs.declared.tree.Block.{Block}
use Rattle.txn_lang.specs.Tree.{commands}
use Rattle.txn_lang.specs.Limits.{IsWithin}
use Rattle.txn_lang.specs.Form.{IsWellFormed}
use Rattle.txn_lang.specs.Keys.{Entry, after_writes}
use Rattle.txn_lang.specs.Runs.{Run, replay, serial_run, kept}

pub record Program : Type 0 where
  pub names : List (List ℕ)
  pub body : Block

-- what each program keeps
pub record IsProgram (p : Program) : Type 0 where
  pub within : IsWithin (length p.names) (commands p.body)
  pub formed : IsWellFormed p.names (commands p.body)

-- the replay of a program on a list of answers
abbrev pub replay_of : Program → List ℤ → Run
replay_of p answers = replay p.body (length p.names) answers

-- the serial run of a program on a map
abbrev pub serial_of : Program → List Entry → Run
serial_of p m = serial_run p.body (length p.names) m

-- the map that a program's kept writes leave
abbrev pub map_after : List Entry → Program → List Entry
map_after m p = after_writes (kept (serial_of p m)) m

-- the serial run of programs that stand in rising order of version: each runs on the map that those before it left
abbrev pub serial : List Entry → List Program → List Run
serial m [] = []
serial m (p ∷ ps) = serial_of p m ∷ serial (map_after m p) ps

-- the map that all of them leave
abbrev pub last_map : List Entry → List Program → List Entry
last_map m [] = m
last_map m (p ∷ ps) = last_map (map_after m p) ps
