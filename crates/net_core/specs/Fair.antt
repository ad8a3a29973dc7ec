-- The fair rule, by which a node's link picks where it holds nothing back.
use Rattle.std.specs.Prelude.{◌≡◌, ℕ, Bool, true, false, cond, List, [], ◌∷◌, Option, Some, None}
use Rattle.std.specs.List.{list_any}
use Rattle.morty_base.specs.declared.names.Exec.{Exec}
use Rattle.morty_base.specs.declared.names.Ended.{Ended}
use Rattle.morty_base.specs.Names.{same_exec}
use Rattle.msg.specs.declared.Pick.{Pick}
use Rattle.msg.specs.declared.Pick.TheVariants.{Idle, Deliver, Go, Recover}
use Rattle.msg.specs.declared.Event.TheVariants.{Picked, Ran}
use Rattle.net_core.specs.Machine.{History, Machine, Menu}
use Rattle.net_core.specs.Marks.{picks, end_of}
use Rattle.net_core.specs.Rounds.{InRounds}

-- the pick is to recover x
abbrev pub recovers : Exec → Pick → Bool
recovers x (Recover y) = same_exec x y
recovers x _ = false

-- an execution that waits for a warden is recovered once
abbrev pub recover_once : List Pick → Option Exec → Pick
recover_once before None = Idle
recover_once before (Some x) = cond (list_any (recovers x) before) Idle (Recover x)

-- the lowest undelivered envelope; else Go where it is enabled; else an execution that waits for a warden; else Idle
abbrev pub first_fair : List Pick → List ℕ → Bool → Option Exec → Pick
first_fair before (i ∷ fresh) go stuck = Deliver i
first_fair before [] true stuck = Go
first_fair before [] false stuck = recover_once before stuck

-- the fair pick of a node after these picks of it, on this menu
abbrev pub fair : List Pick → Menu → Pick
fair before menu = first_fair before menu.fresh menu.go menu.stuck

-- each pick is the fair one, on the picks and the menu before it
abbrev pub AllFair : Machine → History → Type 0
AllFair m [] = Unit {0}
AllFair m (Picked n pick ∷ h) = (pick ≡ fair (picks n h) (m.menu h n)) × AllFair m h
AllFair m (Ran c ∷ h) = AllFair m h

-- a run by the fair rule, in rounds, that has ended so
pub record IsFairRun (m : Machine) (turns : ℕ) (h : History) (ended : Ended) : Type 0 where
  pub rounds : InRounds m turns h
  pub fair : AllFair m h
  pub ends : end_of m turns h ≡ Some ended
