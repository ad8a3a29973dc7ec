-- What the calls of nodes ask for, and each run has.
use Rattle.std.specs.Prelude.{◌≡◌, ℕ, ◌≤◌, true, List}
use Rattle.wire.specs.Sendable.{MaySend}
use Rattle.protocol.specs.Words.{Exec, Envelope, Event}
use Rattle.protocol.specs.Warden.Recovery.{next_view}
use Rattle.protocol.specs.World.State.{Plan, World, first_world, in_range, warden_rules}
use Rattle.protocol.specs.World.Events.{replay_from}
use Rattle.protocol.specs.Replica.Limits.{IsWithinLimits}
use Rattle.recovery.specs.Round.{last_view}
use Rattle.law_frames.specs.Limits.{PlanIsWithinLimits}

-- what has a frame, a replica can handle
abbrev pub SendableIsWithinLimits : Type 0
SendableIsWithinLimits = (m : Envelope) → MaySend m → IsWithinLimits m.body

-- each warden's next view for each execution is one that an envelope can carry
abbrev pub ViewsAreLeftOf : Plan → World → Type 0
ViewsAreLeftOf p w = (k : ℕ) → in_range k p.wardens ≡ true → (x : Exec) → next_view (warden_rules p k) (w.warden k) x ≤ last_view

abbrev pub ViewsAreLeft : Type 0
ViewsAreLeft = (p : Plan) → PlanIsWithinLimits p → (events : List Event) → ViewsAreLeftOf p (replay_from p first_world events)
