-- The worlds of a plan as a machine.
use Rattle.protocol.specs.World.State.{Plan}
use Rattle.net_core.specs.Replay.{IsLawful}
use Rattle.world_rows.specs.Machine.{machine_of}

-- what is asked of every machine holds of the worlds of each plan
abbrev pub WorldsAreLawful : Type 0
WorldsAreLawful = (p : Plan) → IsLawful (machine_of p)
