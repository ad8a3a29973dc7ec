-- Laws of the world as a machine.
use Rattle.std.specs.Prelude.{◌≡◌, List, reverse}
use Rattle.protocol.specs.Words.{Event}
use Rattle.protocol.specs.World.State.{Plan, first_world}
use Rattle.protocol.specs.World.Events.{replay_from}
use Rattle.world_rows.specs.Machine.{world_after}

-- the world after a history is the replay of its events in order
abbrev pub HistoriesReplay : Type 0
HistoriesReplay = (p : Plan) (events : List Event) → world_after p (reverse events) ≡ replay_from p first_world events
