-- Each world that events lead to is sound.
use Rattle.net_core.specs.Machine.{History}
use Rattle.world.specs.declared.origin.Origin.{Origin}
use Rattle.world.specs.Origin.{IsOrigin, world_at}
use Rattle.world.specs.World.{IsWhole}

abbrev pub WorldsAreSound : Type 0
WorldsAreSound = (o : Origin) → IsOrigin o → (h : History) → IsWhole o (world_at o h)
