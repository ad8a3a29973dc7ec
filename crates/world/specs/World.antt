-- When the parts of a world stand for a world of the definitions, and which they are after an event.
use Rattle.std.specs.Prelude.{◌≡◌, ℕ, ◌+◌, ◌<◌, ◌≤◌, Bool, false, true, cond, nat_le, List, ◌++◌, map, length, Option, Some, None, is_some}
use Rattle.wire.specs.Sendable.{MaySend}
use Rattle.protocol.specs.Words.{Client, Envelope, Event, Pick, Hurry, Recover, Truncate}
use Rattle.protocol.specs.Lists.{IsIn}
use Rattle.protocol.specs.Client.State.{ClientState}
use Rattle.protocol.specs.Client.State.Phase.{Between}
use Rattle.protocol.specs.Client.Attempts.{has_pending, is_aborted}
use Rattle.protocol.specs.World.State.{Plan, World, exists, mail_limit}
use Rattle.protocol.specs.World.Events.{Move, enabled}
use Rattle.protocol.specs.World.Committed.{nodes as nodes_of}
use Rattle.coordinator.specs.Memory.{codes_of}
use Rattle.world.specs.Clients.{Loads}
use Rattle.continuation.specs.declared.segment.Job.{Job}
use Rattle.world.specs.Nodes.{AreNodes, HaveViewsLeft, has_node, job_of}
use Rattle.menus.specs.Slots.{count_of}
use Rattle.menus.specs.Laws.{counts_in}
use Rattle.menus.specs.Mailboxes.{AreMailboxes}
use Rattle.world_rows.specs.Laws.{CommitsAreToldOf}
use Rattle.world_rows.specs.Notes.{AreNotes}
use Rattle.net_core.specs.Machine.{History}
use Rattle.world_rows.specs.Machine.{events_in}
use Rattle.world.specs.declared.origin.Origin.{Origin}
use Rattle.world.specs.declared.parts.Parts.{Parts}
use Rattle.world.specs.declared.world.World.{World as Machine}
use Rattle.world.specs.Origin.{IsOrigin, plan, loads, world_at}

-- the parts stand for this world
pub record IsWorld (l : Loads) (w : World) (s : Parts) : Type 0 where
  pub codes : s.codes ≡ codes_of l.programs
  pub firsts : s.firsts ≡ l.plan.firsts
  pub txns : s.txns ≡ map length l.plan.clients
  pub nodes : AreNodes l w s.nodes
  pub slots : s.boxes.slots ≡ counts_in l.plan
  pub boxes : AreMailboxes (nodes_of l.plan) w.mail w.delivered w.stopped s.boxes
  pub notes : AreNotes w.mail (λ c. (w.client c).attempts) s.notes
  pub moved : s.moved ≡ events_in w

-- the pending job of a client, if there is such a client
abbrev pub pending_at : Parts → ℕ → Option Job
pending_at s c = cond (has_node s.nodes (Client c)) (job_of s.nodes c) None

-- a node did what it does on an event, and this is still to be sent
pub record IsMoved (l : Loads) (v : Move) (out : List Envelope) (s : Parts) : Type 0 where
  pub world : IsWorld l v.world s
  pub sent : out ≡ v.sent

-- the world with these envelopes sent
abbrev pub with_sent : World → List Envelope → World
with_sent w ms = record w { mail = w.mail ++ ms }

-- counted as moved once more
abbrev pub counted : World → World
counted w = record w { moved = w.moved + 1 }

-- what a node does by itself that begins no attempt
abbrev pub IsByItself : Pick → Type 0
IsByItself Hurry = Unit {0}
IsByItself (Recover x) = Unit {0}
IsByItself (Truncate v) = Unit {0}
IsByItself _ = ⊥

-- the mail of each world for which the parts stand has room
abbrev pub HasRoom : Parts → Type 0
HasRoom s = (l : Loads) (w : World) → IsWorld l w s → nat_le mail_limit (length w.mail) ≡ false

-- where it has begun no transaction, it is between attempts, of which it had none
pub record IsIdle (c : ClientState) : Type 0 where
  pub fate : c.begun ≡ 0 → is_aborted c.fate ≡ false
  pub phase : c.begun ≡ 0 → c.phase ≡ Between

abbrev pub AreIdle : World → Type 0
AreIdle w = (c : ℕ) → IsIdle (w.client c)

-- what every world has that events lead to: a view is left for each execution, all that is sent has a frame, and clients that
-- have begun nothing, or are not there, have nothing to do
pub record IsSound (p : Plan) (w : World) : Type 0 where
  pub views : HaveViewsLeft p w
  pub mail : (m : Envelope) → IsIn m w.mail → MaySend m
  pub sent : (e : Event) (v : Move) → enabled p w e ≡ Some v → length w.mail < mail_limit → (m : Envelope) → IsIn m v.sent → MaySend m
  pub idle : AreIdle w
  pub absent : (c : ℕ) → exists p (Client c) ≡ false → has_pending (w.client c).phase ≡ false

-- the parts stand for a sound world in which the event can happen
pub record CanHappen (s : Parts) (e : Event) : Type 0 where
  pub loads : Loads
  pub world : World
  pub stands : IsWorld loads world s
  pub sound : IsSound loads.plan world
  pub can : is_some (enabled loads.plan world e) ≡ true

-- these parts become those on the event, of each sound world for which they stand, and this is still to be sent
abbrev pub IsTaken : Parts → Event → Parts → List Envelope → Type 0
IsTaken old e new sent =
    (l : Loads) (w : World) (v : Move) → IsWorld l w old → IsSound l.plan w → enabled l.plan w e ≡ Some v → IsMoved l v sent new

-- the parts stand for the world of an origin after a history
pub record IsAfter (o : Origin) (h : History) (s : Parts) : Type 0 where
  pub origin : IsOrigin o
  pub world : IsWorld (loads o origin) (world_at o h) s

-- what holds of each world of an origin that events lead to: it is sound, and what is committed in it was told
pub record IsWhole (o : Origin) (w : World) : Type 0 where
  pub sound : IsSound (plan o) w
  pub told : CommitsAreToldOf (plan o) w

-- a World that was refused no memory stands for the world after a history
pub record Stands (k : Machine) (o : Origin) (h : History) : Type 0 where
  pub some_node : 1 ≤ count_of k.slots
  pub unbroken : k.broken ≡ false
  pub whole : IsWhole o (world_at o h)
  pub slots : k.parts.boxes.slots ≡ k.slots
  pub after : IsAfter o h k.parts

-- it stands for the world after some history
pub record IsReached (k : Machine) : Type 0 where
  pub origin : Origin
  pub history : History
  pub stands : Stands k origin history

-- it stands for something, or it is broken
pub record IsUsable (k : Machine) : Type 0 where
  pub some_node : 1 ≤ count_of k.slots
  pub reached : k.broken ≡ false → IsReached k
