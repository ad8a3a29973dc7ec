-- Laws of the worlds of scripts, by one quantifier.
use Rattle.std.specs.Prelude.{◌<◌, List}
use Rattle.protocol.specs.Words.{Event}
use Rattle.protocol.specs.World.State.{World, first_world}
use Rattle.protocol.specs.World.Events.{replay_from}
use Rattle.protocol_plans.specs.Scripted.{Scripted, plan_of}

-- of every script with a replica, and each world that events lead to
abbrev pub AlwaysOfScripts : (Scripted → World → Type 0) → Type 0
AlwaysOfScripts L = (s : Scripted) → 0 < s.replicas → (events : List Event) → L s (replay_from (plan_of s) first_world events)
