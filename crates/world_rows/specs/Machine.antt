-- The world of a plan as a machine.
use Rattle.std.specs.Prelude.{ℕ, ◌^◌, ◌-◌, min, Bool, true, false, nat_le, [], ◌∷◌, length, Option, Some, None, is_some}
use Rattle.protocol.specs.Words.{NodeId, Client, Warden, Exec, Event, Picked, Pick, Go, Hurry, Deliver, Stop}
use Rattle.protocol.specs.Client.Attempts.{has_pending}
use Rattle.protocol.specs.World.State.{Plan, World, first_world, mail_limit, is_live}
use Rattle.protocol.specs.World.Events.{Move, enabled, after, pick_moves}
use Rattle.protocol.specs.World.Committed.{nodes}
use Rattle.menus.specs.Shown.{fresh_from, old_to, least_waiting}
use Rattle.net_core.specs.Machine.{History, Machine, Menu, Effect, Moves, Refused, Not_enabled}

-- the world after a history
abbrev pub world_after : Plan → History → World
world_after p [] = first_world
world_after p (e ∷ h) = after p (world_after p h) e

-- what an enabled event does where the mail is full or not
abbrev pub effect_of : Option Move → Bool → Effect
effect_of None full = Not_enabled
effect_of (Some v) true = Refused
effect_of (Some v) false = Moves

-- what an event does in a world
unfoldable pub effect_in : Plan → World → Event → Effect
effect_in p w e = effect_of (enabled p w e) (nat_le mail_limit (length w.mail))

-- the node can do by itself what is picked
abbrev pub can_pick : Plan → World → NodeId → Pick → Bool
can_pick p w node (Deliver i) = false
can_pick p w node Stop = false
can_pick p w node pick = is_some (pick_moves p w node pick)

-- the node is a client with a pending job
abbrev pub is_pending : World → NodeId → Bool
is_pending w (Client c) = has_pending (w.client c).phase
is_pending w _ = false

-- how many events moved the world, as far as 64 bits tell it
abbrev pub events_in : World → ℕ
events_in w = min w.moved (2 ^ 64 - 1)

-- for a warden, the least execution of which a Puts or a Prepare was sent and no Decide, and whose client is stopped
abbrev pub stuck_for : World → NodeId → Option Exec
stuck_for w (Warden k) = least_waiting w.mail w.stopped w.mail
stuck_for w _ = None

-- what a node's link is shown
unfoldable pub menu_in : Plan → World → NodeId → Menu
menu_in p w n = record {
  now = events_in w;
  go = is_some (enabled p w (Picked n Go));
  hurry = is_some (enabled p w (Picked n Hurry));
  fresh = fresh_from w.delivered n 0 w.mail;
  old = old_to w.mail n w.delivered;
  stuck = stuck_for w n;
}

-- the machine of a plan, where histories lead to these worlds
abbrev pub machine_over : Plan → (History → World) → Machine
machine_over p world = record {
  nodes = nodes p;
  effect = λ h e. effect_in p (world h) e;
  live = λ h n. is_live p (world h) n;
  pending = λ h n. is_pending (world h) n;
  menu = λ h n. menu_in p (world h) n;
}

-- where they are replayed
abbrev pub machine_of : Plan → Machine
machine_of p = machine_over p (world_after p)
