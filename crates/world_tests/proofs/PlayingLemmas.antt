-- What giving a segment back leaves.
use Rattle.std.proofs.Common.{◌∷◌, Option}
use Rattle.morty_base.specs.declared.names.NodeId.{NodeId}
use Rattle.msg.specs.declared.Event.TheVariants.{Ran}
use Rattle.net_core.specs.Machine.{History, Machine}
use Rattle.net_core.specs.Replay.{IsGiven}
use Rattle.net_core.specs.declared.machine.RanStep.{RanStep}
use Rattle.net_core.specs.declared.machine.RanStep.TheVariants.{Used, Stale, Full}

-- a segment that is given back leads to a later history, or to none
pub led_on : {J : Type 0} (m : Machine) (pending : Option J) (of_job : J → Type 0) (h : History) (n : NodeId) (out : RanStep)
    (after : History → Type 0) → IsGiven m pending of_job h n out after → (later : History) × after later
led_on m pending of_job h n Stale after given = (h, given.1)
led_on m pending of_job h n Used after given = (Ran given.0 ∷ h, given.2)
led_on m pending of_job h n Full after given = (Ran given.0 ∷ h, given.2)
