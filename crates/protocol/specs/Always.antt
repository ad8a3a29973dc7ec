-- Laws by one quantifier: of each world that events lead to from the first one.
use Rattle.std.specs.Prelude.{◌<◌, List}
use Rattle.protocol.specs.Words.{Event}
use Rattle.protocol.specs.World.State.{Plan, World, first_world}
use Rattle.protocol.specs.World.Events.{replay_from}
use Rattle.protocol.specs.World.Premises.{MeetsPremises}

-- of every plan with a replica
abbrev pub Always : (Plan → World → Type 0) → Type 0
Always L = (p : Plan) → 0 < p.replicas → (events : List Event) → L p (replay_from p first_world events)

-- of every plan with a replica whose programs ask in order and whose writes grow
abbrev pub AlwaysOfPrograms : (Plan → World → Type 0) → Type 0
AlwaysOfPrograms L = (p : Plan) → MeetsPremises p → (events : List Event) → L p (replay_from p first_world events)

-- of every plan, with replicas or without
abbrev pub AlwaysOfAny : (Plan → World → Type 0) → Type 0
AlwaysOfAny L = (p : Plan) (events : List Event) → L p (replay_from p first_world events)
