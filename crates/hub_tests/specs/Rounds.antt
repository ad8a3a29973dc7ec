-- A machine of two nodes: client 1 begins rounds, in each of which a segment is given back, and replica 1 is told of each.
use Rattle.std.specs.Prelude.{ℕ, ◌+◌, Bool, true, false, cond, not, ◌&&◌, ◌==◌, nat_lt, [], ◌∷◌, Option, Some, None, is_some}
use Rattle.morty_base.specs.declared.names.NodeId.{NodeId}
use Rattle.morty_base.specs.declared.names.NodeId.TheVariants.{Client, Replica}
use Rattle.msg.specs.declared.Pick.{Pick}
use Rattle.msg.specs.declared.Pick.TheVariants.{Deliver, Go}
use Rattle.msg.specs.declared.Event.{Event}
use Rattle.msg.specs.declared.Event.TheVariants.{Picked, Ran}
use Rattle.net_core.specs.Machine.{History, Machine, Menu, Moves, Not_enabled}
use Rattle.hub_tests.specs.declared.rounds.Segment.{Segment}

-- how many rounds were begun; the last of which the segment was given back; and of how many the replica was told
pub record Count : Type 0 where
  pub begun : ℕ
  pub ran : ℕ
  pub told : ℕ

abbrev pub no_round : Count
no_round = record { begun = 0; ran = 0; told = 0 }

-- a segment is pending; the replica is to be told of a round; a round may begin
abbrev pub is_pending : Count → Bool
is_pending c = nat_lt c.ran c.begun

abbrev pub is_fresh : Count → Bool
is_fresh c = nat_lt c.told c.ran

abbrev pub can_go : ℕ → Count → Bool
can_go limit c = not (is_pending c) && nat_lt c.begun limit

-- the event is enabled
abbrev pub can_pick : ℕ → Count → NodeId → Pick → Bool
can_pick limit c (Client k) Go = (k == 1) && can_go limit c
can_pick limit c (Replica k) (Deliver i) = (k == 1) && ((i == c.told) && is_fresh c)
can_pick limit c n p = false

abbrev pub can : ℕ → Count → Event → Bool
can limit c (Picked n p) = can_pick limit c n p
can limit c (Ran k) = (k == 1) && is_pending c

-- what an enabled event makes of the counts
abbrev pub moved : Count → Event → Count
moved c (Picked (Replica k) p) = record c { told = c.told + 1 }
moved c (Picked n p) = record c { begun = c.begun + 1 }
moved c (Ran k) = record c { ran = c.begun }

-- the counts after an event, and after a history
abbrev pub count_step : ℕ → Count → Event → Count
count_step limit c e = cond (can limit c e) (moved c e) c

abbrev pub count_after : ℕ → History → Count
count_after limit [] = no_round
count_after limit (e ∷ h) = count_step limit (count_after limit h) e

-- the pending segment of a node
abbrev pub pending_of : Count → NodeId → Option Segment
pending_of c (Client k) = cond ((k == 1) && is_pending c) (Some (record { round = c.begun })) None
pending_of c n = None

-- what a node's link is shown
abbrev pub menu_of : ℕ → Count → NodeId → Menu
menu_of limit c (Client k) =
    record { now = c.begun + c.ran + c.told; go = (k == 1) && can_go limit c; hurry = false; fresh = []; old = []; stuck = None }
menu_of limit c n =
    record { now = c.begun + c.ran + c.told; go = false; hurry = false; fresh = cond (is_fresh c) (c.told ∷ []) []; old = []; stuck = None }

-- the machine of so many rounds
abbrev pub rounds : ℕ → Machine
rounds limit = record {
  nodes = Client 1 ∷ Replica 1 ∷ [];
  effect = λ h e. cond (can limit (count_after limit h) e) Moves Not_enabled;
  live = λ h n. true;
  pending = λ h n. is_some (pending_of (count_after limit h) n);
  menu = λ h n. menu_of limit (count_after limit h) n;
}

-- what callers see of the machine
pub record State : Type 0 where
  pub limit : ℕ
  pub count : Count

-- its state after a history
abbrev pub state_after : ℕ → History → State
state_after limit h = record { limit = limit; count = count_after limit h }
