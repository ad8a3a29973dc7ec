-- What holds in every world that small steps reach holds always.
use Rattle.std.specs.Prelude.{◌<◌, List}
use Rattle.protocol.specs.Words.{Event}
use Rattle.protocol.specs.World.State.{Plan, World, first_world}
use Rattle.protocol.specs.World.Events.{replay_from}
use Rattle.protocol.specs.Always.{Always, AlwaysOfAny}
use Rattle.law_steps.proofs.Reach.{Reach, events_reach}
use Rattle.law_steps.proofs.Reach.From.{Begins}

-- events lead to a world that is reached
pub reached : (p : Plan) (events : List Event) → Reach p (replay_from p first_world events)
reached p events = events_reach p first_world first_world Begins events

-- of every plan with a replica
pub always : (L : Plan → World → Type 0) → ((p : Plan) → 0 < p.replicas → (w : World) → Reach p w → L p w) → Always L
always L holds p some events = holds p some (replay_from p first_world events) (reached p events)

-- of every plan
pub always_of_any : (L : Plan → World → Type 0) → ((p : Plan) (w : World) → Reach p w → L p w) → AlwaysOfAny L
always_of_any L holds p events = holds p (replay_from p first_world events) (reached p events)
