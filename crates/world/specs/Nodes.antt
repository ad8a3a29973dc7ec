-- When nodes stand for those of a world, and what they do.
use Rattle.std.specs.Prelude.{◌≡◌, ℕ, ◌≤◌, Bool, true, false, List, ◌++◌, length, Option, is_some}
use Rattle.protocol.specs.Words.{NodeId, Client, Replica, Warden, Envelope, Exec, Pick, Deliver, Stop}
use Rattle.protocol.specs.declared.First2.{First2}
use Rattle.protocol.specs.Warden.Recovery.{next_view}
use Rattle.protocol.specs.World.State.{Plan, World, in_range, warden_rules}
use Rattle.protocol.specs.World.Events.{Move, pick_moves}
use Rattle.continuation.specs.declared.segment.Job.{Job}
use Rattle.recovery.specs.Round.{last_view}
use Rattle.coordinator.specs.declared.memory.Rules.{Rules as ScriptRules}
use Rattle.coordinator.specs.declared.memory.Txn2.{Txn2}
use Rattle.world_rows.specs.Machine.{can_pick}
use Rattle.world.specs.Clients as clients
use Rattle.world.specs.Clients.{Loads, IsPlanOf, AreClients}
use Rattle.world.specs.Replicas.{AreReplicas}
use Rattle.world.specs.Wardens.{AreWardens}
use Rattle.world.specs.declared.nodes.Nodes.{Nodes}

-- the plan has these rules, clients with these transactions, so many wardens and these first values
pub record IsSetupOf (l : Loads) (rules : ScriptRules) (txns : List (List Txn2)) (count : ℕ) (values : List First2) : Type 0 where
  pub clients : IsPlanOf l rules txns
  pub wardens : l.plan.wardens ≡ count
  pub firsts : l.plan.firsts ≡ values

-- as many of each kind as the plan has, each of which stands for what it remembers
pub record AreNodes (l : Loads) (w : World) (s : Nodes) : Type 0 where
  pub clients : AreClients l w.client s.clients
  pub replicas : AreReplicas l.plan w.replica s.replicas
  pub wardens : AreWardens l.plan w.warden s.wardens

-- a move is made: the nodes stand for its world, and what it sends stands behind what was there before
pub record Moves (l : Loads) (v : Move) (s : Nodes) (before after : List Envelope) : Type 0 where
  pub stands : AreNodes l v.world s
  pub sent : after ≡ before ++ v.sent

-- there is a node of this kind and number
abbrev pub has_node : Nodes → NodeId → Bool
has_node s (Client c) = in_range c (length s.clients.clients.items)
has_node s (Replica r) = in_range r (length s.replicas.replicas.items)
has_node s (Warden k) = in_range k (length s.wardens.wardens.items)

-- the pending job of client c, if one is pending
abbrev pub job_of : Nodes → ℕ → Option Job
job_of s c = clients.job_of s.clients c

-- each warden's next view for each execution is one that an envelope can carry
abbrev pub HaveViewsLeft : Plan → World → Type 0
HaveViewsLeft p w = (k : ℕ) → in_range k p.wardens ≡ true → (x : Exec) → next_view (warden_rules p k) (w.warden k) x ≤ last_view

-- so it is in some world for which the nodes stand
pub record CanPick (s : Nodes) (node : NodeId) (pick : Pick) : Type 0 where
  pub loads : Loads
  pub world : World
  pub stands : AreNodes loads world s
  pub views : HaveViewsLeft loads.plan world
  pub can : can_pick loads.plan world node pick ≡ true
