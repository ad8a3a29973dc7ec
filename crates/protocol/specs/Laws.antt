-- The basic laws of the protocol, on which its other laws stand.
use Rattle.std.specs.Prelude.{◌+◌, length, None, ◌≡◌, ℕ, ◌<◌, ◌≤◌, Bool, true, List, ◌++◌, Some}
use Rattle.protocol.specs.Words.{Exec, Replica, Vote, Choice, Envelope, Event}
use Rattle.protocol.specs.Lists.{IsIn}
use Rattle.protocol.specs.Quorums.{Quorum}
use Rattle.protocol.specs.Replica.Taken.{Handled, dropped, fence}
use Rattle.protocol.specs.Replica.Acceptor.{Acceptance, acceptances, decided, promised}
use Rattle.protocol.specs.Replica.Votes.{vote}
use Rattle.protocol.specs.World.State.{Plan, World, first_world, mail_limit}
use Rattle.protocol.specs.World.Events.{Move, enabled, after, replay_from}
use Rattle.protocol.specs.World.Decided.{UpTo}
use Rattle.protocol.specs.World.Steps.{Happens}

-- two quorums share a replica
abbrev pub QuorumsMeet : Type 0
QuorumsMeet = (n : ℕ) (p q : ℕ → Bool) → Quorum n (λ r. p r ≡ true) → Quorum n (λ r. q r ≡ true) →
    (r : ℕ) × (0 < r) × (r ≤ n) × (p r ≡ true) × (q r ≡ true)

-- what a replica said or knew at the list h still stands at the list g
pub record HasGrown (h g : Handled) : Type 0 where
  pub votes : (x : Exec) (v : Vote) → vote h x ≡ Some v → vote g x ≡ Some v
  pub decisions : (x : Exec) (d : Choice) → decided h x ≡ Some d → decided g x ≡ Some d
  pub promises : (x : Exec) → promised h x ≤ promised g x
  pub accepts : (a : Acceptance) → IsIn a (acceptances h) → IsIn a (acceptances g)
  pub fences : UpTo (fence h) (fence g)
  pub drops : UpTo (dropped h) (dropped g)

-- a replica's vote, first decision, promises, acceptances, fence and dropped version only grow
abbrev pub ReplicasGrow : Type 0
ReplicasGrow = (p : Plan) (w : World) (events : List Event) (r : ℕ) → HasGrown (w.replica r) ((replay_from p w events).replica r)

-- the mail only grows
abbrev pub MailGrows : Type 0
MailGrows = (p : Plan) (w : World) (events : List Event) → (more : List Envelope) × ((replay_from p w events).mail ≡ w.mail ++ more)

-- what a replica took was sent, and to it
abbrev pub TakenWasSent : Type 0
TakenWasSent = (p : Plan) (events : List Event) (r : ℕ) (m : Envelope) → IsIn m ((replay_from p first_world events).replica r) →
    IsIn m (replay_from p first_world events).mail × (m.to ≡ Replica r)

-- each event makes one of four kinds of step
abbrev pub EventsStep : Type 0
EventsStep = (p : Plan) (w : World) (e : Event) → Happens p w (after p w e)

-- an event leaves the world as it is where it is not enabled or is refused for the mail; else it does its move, and
-- what it sends goes to the end of the mail
pub data EventOutcome (p : Plan) (w : World) (e : Event) : Type 0 where
  Not_enabled : enabled p w e ≡ None → after p w e ≡ w → EventOutcome p w e
  Refused : (v : Move) → enabled p w e ≡ Some v → mail_limit ≤ length w.mail → after p w e ≡ w → EventOutcome p w e
  Moved : (v : Move) → enabled p w e ≡ Some v → length w.mail < mail_limit → after p w e ≡ record v.world { mail = w.mail ++ v.sent; moved = w.moved + 1 } → EventOutcome p w e

abbrev pub EventsMove : Type 0
EventsMove = (p : Plan) (w : World) (e : Event) → EventOutcome p w e

-- a list of events is replayed part by part
abbrev pub ReplaysJoin : Type 0
ReplaysJoin = (p : Plan) (w : World) (events more : List Event) → replay_from p w (events ++ more) ≡ replay_from p (replay_from p w events) more
