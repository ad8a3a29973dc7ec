-- Each Drop carries the base of the world, which is the serial map.
use Rattle.std.proofs.Common.{sym, subst, List, []}
use Rattle.protocol.specs.Words.{BaseEntry}
use Rattle.protocol.specs.World.State.{first_world}
use Rattle.protocol.specs.World.Events.{replay_from}
use Rattle.protocol.specs.World.Committed.{committed_executions}
use Rattle.protocol_plans.specs.Scripted.{plan_of}
use Rattle.law_safety.proofs.BaseOfDrop.{base_of_drop}
use Rattle.protocol_plans.specs.SerialOutcome.{upto_version, IsSerialBase}
use Rattle.law_serial.proofs.SerialBase.{serial_base}
use Rattle.law_serial.specs.Serial.{DropsAreSerial}

pub drops_are_serial : DropsAreSerial
drops_are_serial s positive events v bs sent =
    let same = (base_of_drop (plan_of s) positive events [] v bs sent).now in
    record {
      base = same;
      serial = subst (λ (l : List BaseEntry). IsSerialBase s (upto_version v (committed_executions (plan_of s) (replay_from (plan_of s) first_world events))) l) (sym same) (serial_base s positive events v);
    }
