-- So many bodies were sent.
use Rattle.std.proofs.Common.{◌≡◌, take}
use Rattle.std.specs.Prelude.{flat_map}
use Rattle.protocol.specs.Words.{Client}
use Rattle.protocol.specs.World.Events.{to_all}
use Rattle.coordinator.proofs.memory.Plan.parcels.Given as goal

abbrev pub invariant-loop-body : goal.invariant-loop-body
invariant-loop-body l = l.sent ≡ flat_map (to_all l.self.rules.replicas (Client l.self.client)) (take l.body-index l.bodies)
